use Rattle.std.proofs.Common.{◌≢◌, ℕ, List, [], ◌∷◌, ◌++◌, sym, ◌∙◌, subst, arith}
use Rattle.std.proofs.lemmas.List.Elements.{All-push}
use Rattle.std.proofs.lemmas.Result.{err_from_is_err_and}
use Rattle.netlink_packet_route.specs.Framing.{Item, Front, Passes, number_of}
use Rattle.netlink_packet_route.specs.FrontLaws.{Passes-more}
use Rattle.examples.proofs.walk.find_value.Goals as goal

pub loop-next-init : goal.loop-next-init
loop-next-init c = ([], sym c.new-walk.ensures, λ k d inside. absurd (omega (arith, inside)))

-- an attribute of another number is one more that was passed
pub loop-next-preserved : goal.loop-next-preserved
loop-next-preserved c =
    let so_far = c.loop-next.invariant in
    let x : Item = c.in_ok-item.item in
    let front : Front c.loop-next.walk x c.next.new.self = rw c.in_ok-item.was at c.in-Some.ensures.steps in
    let another : number_of x.kind ≢ c.args.number = λ same. c.if-kind-number.false (c.kind.ensures ∙ same) in (
      so_far.0 ++ x ∷ [],
      Passes-more so_far.0 x c.args.bytes.now c.loop-next.walk c.next.new.self so_far.1 front,
      All-push (λ (y : Item). number_of y.kind ≢ c.args.number) so_far.0 x so_far.2 another,
    )

pub returns-then-kind-number-clause-found : goal.returns-then-kind-number-clause-found
returns-then-kind-number-clause-found c =
    let so_far = c.loop-next.invariant in
    let x : Item = c.in_ok-item.item in
    let front : Front c.loop-next.walk x c.next.new.self = rw c.in_ok-item.was at c.in-Some.ensures.steps in
    (so_far.0, c.loop-next.walk, x, c.next.new.self, so_far.1, so_far.2, front, sym c.kind.ensures ∙ c.if-kind-number.true, c.value.ensures)

pub returns-in_err-item-clause-refused : goal.returns-in_err-item-clause-refused
returns-in_err-item-clause-refused c =
    let so_far = c.loop-next.invariant in
    let fault = rw c.in_err-item.was at c.in-Some.ensures.steps in
    let same = err_from_is_err_and c.from_residual.result c.from_residual.ensures.1 in
    rw (same.1, same.2) (so_far.0, (c.loop-next.walk, so_far.1, fault.0, fault.1), so_far.2)

pub returns-clause-absent : goal.returns-clause-absent
returns-clause-absent c = λ none.
    let so_far = c.loop-next.invariant in
    (so_far.0, subst (λ (rest : List ℕ). Passes c.args.bytes.now so_far.0 rest) c.in_default.ensures.steps.0 so_far.1, so_far.2)
