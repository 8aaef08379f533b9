use Rattle.std.proofs.Common.{[], ◌∷◌, ◌++◌, ◌∙◌}
use Rattle.std.proofs.lemmas.List.Elements.{All-push}
use Rattle.npr_base.specs.Framing.{Item, Front}
use Rattle.npr_base.specs.lemmas.Front.{Passes-more}
use Rattle.netlink_packet_core.specs.Extended.{IsNoText}
use Rattle.netlink_packet_core.proofs.extended.error_text.Goals as goal

-- an attribute of another number is one more that was passed
pub loop-next-preserved : goal.loop-next-preserved
loop-next-preserved c =
    let so_far = c.loop-next.invariant in
    let x : Item = c.in-Ok.attribute in
    let front : Front c.loop-next.walk x c.next.new.self = rw c.in-Ok.is at c.in-Some.ensures.steps in
    let another : IsNoText x = λ same. c.if-kind-eq1.false (c.kind.ensures ∙ same) in (
      so_far.0 ++ x ∷ [],
      Passes-more so_far.0 x c.args.attributes.now c.loop-next.walk c.next.new.self so_far.1 front,
      All-push IsNoText so_far.0 x so_far.2 another,
    )
