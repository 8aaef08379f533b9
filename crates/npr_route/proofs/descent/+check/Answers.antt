use Rattle.std.proofs.Common.{◌≡◌, ◌+◌, ap, arith, sym, ◌∙◌, length, take, Err}
use Rattle.std.proofs.lemmas.Result.{err_from_is_err_and}
use Rattle.npr_base.specs.Framing.{encoding, framed}
use Rattle.npr_base.specs.Lists.{encodings, joined}
use Rattle.npr_base.proofs.Checking.{checked-ok, first-past}
use Rattle.npr_base.proofs.Joined.{joined-more}
use Rattle.npr_base.specs.lemmas.List.{length-encoding}
use Rattle.npr_route.specs.Attribute.{meaning_unfit, shape_of}
use Rattle.npr_route.specs.AttributeView.{meaning_of, attribute_item, attribute_unfit, next_hop_bytes, next_hop_unfit}
use Rattle.npr_route.proofs.Views.{hop_unchecked, hop_checked, multi_path-checked}
use Rattle.npr_route.proofs.descent.+check.Goals as goal

pub check_attributes-loop-attribute-preserved : goal.check_attributes-loop-attribute-preserved
check_attributes-loop-attribute-preserved t c =
    let x = c.attribute-item.result in
    let i = c.loop-attribute.attribute-index in
    let all = c.args.list.now in
    let m = meaning_of x in
    let k = checked-ok (meaning_unfit m) (framed (length (shape_of m).item.value)) c.in_ok-total.field-0 (sym c.in_ok-total.was ∙ c.check_attribute.ensures) in
    let done = length (encodings attribute_item (take i all)) in
    let one : c.in_ok-total.field-0 ≡ framed (length (attribute_item x).value) = k.1 in
    let size : done + c.in_ok-total.field-0 ≡ length (encodings attribute_item (take (i + 1) all)) =
    ap (λ n. done + n) (one ∙ sym (length-encoding (attribute_item x))) ∙ sym (joined-more (λ y. encoding (attribute_item y)) all i x c.loop-attribute-test.true c.attribute-item.is) in
    record {
      fits = c.loop-attribute.invariant.fits ∙ first-past attribute_unfit all i x c.loop-attribute-test.true c.attribute-item.is k.0;
      sum = ap (λ n. n + c.in_ok-total.field-0) c.loop-attribute.invariant.sum ∙ size;
      small = omega (arith, c.loop-attribute.invariant.small);
    }

pub check_hop-returns-in_err-inside : goal.check_hop-returns-in_err-inside
check_hop-returns-in_err-inside t c =
    let p = err_from_is_err_and c.from_residual.result c.from_residual.ensures.1 in
    let is = sym c.in_err-inside.was ∙ c.check_attributes.ensures in
    p.1 ∙ ap Err p.2 ∙ hop_unchecked c.args.hop.now c.in_err-inside.field-0.0 (length (next_hop_bytes c.args.hop.now)) (rw c.as_slice.ensures.value at is)

pub check_hop-returns : goal.check_hop-returns
check_hop-returns t c =
    let is = sym c.in_ok-inside.was ∙ c.check_attributes.ensures in
    c.hop_len.ensures ∙ hop_checked c.args.hop.now c.in_ok-inside.inside (rw c.as_slice.ensures.value at is)

pub check_hops-loop-hop-preserved : goal.check_hops-loop-hop-preserved
check_hops-loop-hop-preserved t c =
    let x = c.hop-item.result in
    let i = c.loop-hop.hop-index in
    let all = c.args.hops.now in
    let k = checked-ok (next_hop_unfit x) (length (next_hop_bytes x)) c.in_ok-total.field-0 (sym c.in_ok-total.was ∙ c.check_hop.ensures) in
    let done = length (joined next_hop_bytes (take i all)) in
    let size : done + c.in_ok-total.field-0 ≡ length (joined next_hop_bytes (take (i + 1) all)) =
    ap (λ n. done + n) k.1 ∙ sym (joined-more next_hop_bytes all i x c.loop-hop-test.true c.hop-item.is) in
    record {
      fits = c.loop-hop.invariant.fits ∙ first-past next_hop_unfit all i x c.loop-hop-test.true c.hop-item.is k.0;
      sum = ap (λ n. n + c.in_ok-total.field-0) c.loop-hop.invariant.sum ∙ size;
      small = omega (arith, c.loop-hop.invariant.small);
    }

pub check_inside-returns-in-MultiPath : goal.check_inside-returns-in-MultiPath
check_inside-returns-in-MultiPath t c =
    rw c.in-MultiPath.is ((rw c.as_slice-in-MultiPath.ensures.value at c.check_hops.ensures) ∙ multi_path-checked c.in-MultiPath.hops)
