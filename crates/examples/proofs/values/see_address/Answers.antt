use Rattle.std.proofs.Common.{Some, Ok, Err, ◌++◌, ◌∷◌, [], ◌∙◌, map, sym}
use Rattle.std.proofs.lemmas.Result.{err_from_is_err_and}
use Rattle.examples.proofs.Last.{last_push}
use Rattle.examples.proofs.Seeing.{seen-last}
use Rattle.examples.specs.Seen.{seen_address}
use Rattle.netlink_packet_route.specs.AddressAttribute.{attributes, family}
use Rattle.netlink_packet_route.specs.AddressMessage.{addresses}
use Rattle.netlink_packet_route.proofs.FaultLaws.{fault-none}
use Rattle.netlink_packet_route.specs.Messages.{Stored, view}
use Rattle.netlink_packet_route.specs.Values.{ValueStep}
use Rattle.netlink_packet_route.specs.declared.framing.At.{At}
use Rattle.netlink_packet_route.specs.declared.framing.Value.{Value}
use Rattle.netlink_packet_route.specs.ValuesLaws.{values-more}
use Rattle.examples.proofs.values.see_address.Goals as goal

pub returns-in_err-values-clause-refused : goal.returns-in_err-values-clause-refused
returns-in_err-values-clause-refused c =
    let p = err_from_is_err_and c.from_residual.result c.from_residual.ensures.1 in
    let refused = c.in_err-values.ensures.refused in
    rw p.1 (λ (m : Stored addresses). λ is. fault-none addresses c.args.bytes.now c.in_err-values.field-0.0 (view addresses m) refused is)

pub loop-next-preserved : goal.loop-next-preserved
loop-next-preserved c =
    let (vs, steps, found) = c.loop-next.invariant in
    let v : At × Value = (c.in-Ok.at, c.in-Ok.value) in
    let step : ValueStep attributes c.loop-next.values.walk (Some (Ok v)) c.next.new.self.walk = rw c.in-Ok.is at c.in-Some.ensures.steps.0 in (
      vs ++ v ∷ [],
      values-more attributes vs v c.in_ok-values.values.walk c.loop-next.values.walk c.next.new.self.walk steps step,
      c.or-found.ensures ∙ rw (c.address.ensures, found) (sym (last_push seen_address vs v)),
    )

pub returns-in-Err-clause-refused : goal.returns-in-Err-clause-refused
returns-in-Err-clause-refused c = λ m is.
    let (vs, steps, found) = c.loop-next.invariant in
    let step : ValueStep attributes c.loop-next.values.walk (Some (Err c.in-Err.refusal)) c.next.new.self.walk = rw c.in-Err.is at c.in-Some.ensures.steps.0 in
    c.in_ok-values.ensures.none vs c.loop-next.values.walk c.next.new.self.walk c.in-Err.refusal steps step m is

pub returns-clause-ok : goal.returns-clause-ok
returns-clause-ok c = λ m is.
    let (vs, steps, found) = c.loop-next.invariant in
    let whole = rw c.in_default.ensures.steps.0.0 at steps in
    let seen = c.in_ok-values.ensures.seen vs whole m is in
    found ∙ seen-last vs c.in_ok-values.values.walk (map family.meaning m.attributes.items) seen.1
