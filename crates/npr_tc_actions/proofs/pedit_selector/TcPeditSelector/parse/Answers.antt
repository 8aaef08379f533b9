use Rattle.std.proofs.Common.{◌≡◌, ℕ, List, ◌-◌, length, drop, slice_index, subst, ap, ◌∙◌, arith, length-drop}
use Rattle.std.proofs.lemmas.List.{take_all}
use Rattle.npr_base.specs.Blocks.{AreBlocks}
use Rattle.npr_tc_actions.specs.PeditKey.{pedit_key}
use Rattle.npr_tc_actions.specs.PeditSelector.{PeditFront, pedit_front}
use Rattle.npr_tc_actions.proofs.pedit_selector.TcPeditSelector.parse.Goals as goal

pub returns-clause-ok : goal.returns-clause-ok
returns-clause-ok c =
    let b = c.in_ok-b.ensures.ok in
    let front : ◌≡◌ {A = PeditFront} (c.in_front.result, (slice_index c.in_ok-b.b.now 20, slice_index c.in_ok-b.b.now 21)) (pedit_front.decode c.in_ok-b.b.now) =
    λ i. (c.in_front.ensures i, (slice_index c.in_ok-b.b.now 20, slice_index c.in_ok-b.b.now 21)) in
    let whole = take_all (length c.args.bytes.now - 24) (drop 24 c.args.bytes.now) (omega (arith, length-drop 24 c.args.bytes.now)) in
    let keys = subst (λ (rest : List ℕ). AreBlocks pedit_key rest c.in_ok-read_blocks.field-0.items) whole c.in_ok-read_blocks.ensures.ok in
    ((b.0, front ∙ ap pedit_front.decode b.1), keys)
