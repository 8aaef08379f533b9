use Rattle.std.proofs.Common.{Some, Ok, Err, ◌++◌, ◌∷◌, [], ◌∙◌, map, refl, sym}
use Rattle.std.proofs.lemmas.List.{map_push}
use Rattle.std.proofs.lemmas.Result.{err_from_is_err_and}
use Rattle.examples.proofs.Last.{last_push}
use Rattle.examples.specs.OneByOne.{priority_of}
use Rattle.netlink_packet_route.specs.AddressAttribute.{family, attributes}
use Rattle.netlink_packet_route.specs.Attributes.{AttributeStep}
use Rattle.netlink_packet_route.specs.AttributesLaws.{steps-more}
use Rattle.examples.proofs.one_by_one.read_priority.Goals as goal

pub returns-in_err-attributes-clause-refused : goal.returns-in_err-attributes-clause-refused
returns-in_err-attributes-clause-refused c =
    let p = err_from_is_err_and c.from_residual.result c.from_residual.ensures.1 in
    rw (p.1, p.2) (λ other. c.in_err-attributes.ensures.refused)

pub loop-next-init : goal.loop-next-init
loop-next-init c = ([], refl, refl)

pub returns-in_err-next-clause-refused : goal.returns-in_err-next-clause-refused
returns-in_err-next-clause-refused c =
    let p = err_from_is_err_and c.from_residual-in_err-next.result c.from_residual-in_err-next.ensures.1 in
    let (xs, steps, found) = c.loop-next.invariant in
    let step : AttributeStep family.meaning attributes c.loop-next.attributes.walk (Some (Err c.in_err-next.field-0.0)) c.next.new.self.walk
    = rw c.in_err-next.was at c.in-Some.ensures.steps.0 in
    rw (p.1, p.2) (λ other. c.in_ok-attributes.ensures.fault xs c.loop-next.attributes.walk c.next.new.self.walk c.in_err-next.field-0.0 steps step other)

pub loop-next-preserved : goal.loop-next-preserved
loop-next-preserved c =
    let (xs, steps, found) = c.loop-next.invariant in
    let a = c.in_ok-next.field-0 in
    let step : AttributeStep family.meaning attributes c.loop-next.attributes.walk (Some (Ok a)) c.next.new.self.walk = rw c.in_ok-next.was at c.in-Some.ensures.steps.0 in
    let last = last_push priority_of (map family.meaning xs) (family.meaning a) in (
      xs ++ a ∷ [],
      steps-more family.meaning attributes xs a c.in_ok-attributes.attributes.walk c.loop-next.attributes.walk c.next.new.self.walk steps step,
      c.or-found.ensures ∙ rw (c.priority.ensures, found, map_push family.meaning xs a) (sym last),
    )

pub returns-clause-ok : goal.returns-clause-ok
returns-clause-ok c =
    let (xs, steps, found) = c.loop-next.invariant in
    let whole = rw c.in_default.ensures.steps.0.0 at steps in
    (record { header = c.in_ok-attributes.attributes.header; attributes = map family.meaning xs }, c.in_ok-attributes.ensures.all xs whole, found)
