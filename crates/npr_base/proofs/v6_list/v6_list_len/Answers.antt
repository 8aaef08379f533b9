use Rattle.std.specs.List.{concat}
use Rattle.std.proofs.Common.{◌≡◌, List, ℕ, get_or, length, take, ap, ◌∙◌, arith, length-append}
use Rattle.std.proofs.lemmas.List.{take_more}
use Rattle.npr_base.proofs.V6ListLaws.{concat-push, AllOf-push}
use Rattle.npr_base.proofs.v6_list.v6_list_len.Goals as goal

pub loop-address-preserved : goal.loop-address-preserved
loop-address-preserved c =
    let x = c.address-item.result in
    let i = c.loop-address.address-index in
    let all = c.args.addresses.now in
    let past = c.loop-address.invariant in
    let size : length c.octets.result ≡ 16 = omega (arith, c.octets.type_inv) in
    let lt = c.loop-address-test.true in
    let read : get_or all i x ≡ c.octets.result = cc in
    let sized : length (get_or all i x) ≡ 16 = ap length read ∙ size in
    let more = take_more all i x lt in
    record {
      offset = omega (arith, past.offset);
      len = omega (arith, past.len, ap length (ap concat more ∙ concat-push (take i all) (get_or all i x)), length-append (concat (take i all)) (get_or all i x), sized);
      each = rw more (AllOf-push (λ (a : List ℕ). length a ≡ 16) (take i all) (get_or all i x) past.each sized);
    }
