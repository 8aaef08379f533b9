use Rattle.std.specs.List.{concat}
use Rattle.std.proofs.Common.{◌≡◌, ◌+◌, ℕ, List, length, subst, arith, ap, ◌∙◌}
use Rattle.npr_base.specs.Lists.{AllOf, checked, option_or, too_long}
use Rattle.npr_base.proofs.V6ListLaws.{length-concat}
use Rattle.npr_srh.specs.Seg6.{seg6_of, seg6_bytes}
use Rattle.npr_srh.specs.Seg6Codec.{seg6-len}
use Rattle.npr_srh.specs.Segments.{too_many}
use Rattle.npr_srh.proofs.seg6_header.Seg6HeaderNla.check_value.Goals as goal

pub returns : goal.returns
returns c =
    let h = seg6_of c.args.self.now in
    let same = c.as_slice.ensures.value in
    let each = c.check_header.ensures.each in
    let bytes = seg6-len h (subst (AllOf (λ (a : List ℕ). length a ≡ 16)) same each) in
    let len : 12 + c.hmac_len.result + length (concat c.as_slice.result.now) ≡ length (seg6_bytes h) = omega (arith, bytes, length-concat c.as_slice.result.now each, ap length same, c.hmac_len.ensures) in
    c.check_header.ensures.is ∙ (λ i. checked (option_or (too_long 1 (len i)) (too_many (c.most_segments.ensures i) (length (same i)))) (len i))
