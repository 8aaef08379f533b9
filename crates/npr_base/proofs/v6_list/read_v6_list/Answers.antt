use Rattle.std.specs.List.{concat}
use Rattle.std.proofs.Common.{◌≡◌, ◌+◌, ◌-◌, ◌≤◌, length, take, drop, ap, sym, ◌∙◌, arith, length-take, length-drop, List, ℕ, ◌++◌}
use Rattle.std.proofs.Math.Seq.{take-add}
use Rattle.npr_base.proofs.V6ListLaws.{concat-push, AllOf-push}
use Rattle.npr_base.proofs.v6_list.read_v6_list.Goals as goal

pub loop-at-preserved : goal.loop-at-preserved
loop-at-preserved c =
    let bytes = c.args.bytes.now in
    let at = c.loop-at.at in
    let past = c.loop-at.invariant in
    let x = c.from.result in
    let whole : at + 16 ≤ length bytes = omega (arith, past.whole, past.below, c.loop-at-test.true, c.requires) in
    let span : at + 16 - at ≡ 16 = omega arith in
    let x_is : x ≡ take 16 (drop at bytes) = c.from.ensures ∙ c.copy_from_slice.ensures.after ∙ ap (λ (n : ℕ). take n (drop at bytes)) span in
    let size : length x ≡ 16 = omega (arith, ap length x_is, length-take 16 (drop at bytes), length-drop at bytes, whole) in
    let items = c.in_ok-push.ensures.items in
    let read : take (at + 16) bytes ≡ concat c.push.new.self.items = take-add at 16 bytes ∙ ap (λ (w : List ℕ). w ++ take 16 (drop at bytes)) past.read.0 ∙ ap (λ (w : List ℕ). concat c.loop-at.addresses.items ++ w) (sym x_is) ∙ sym (ap concat items ∙ concat-push c.loop-at.addresses.items x) in
    record {
      read = (read, rw items (AllOf-push (λ (a : List ℕ). length a ≡ 16) c.loop-at.addresses.items x past.read.1 size));
      whole = omega (arith, past.whole);
      below = whole;
    }
