-- Where an attribute and what follows it stand in the bytes.
use Rattle.std.proofs.Common.{◌≡◌, ℕ, ◌+◌, ◌-◌, ◌<◌, List, ◌++◌, length, take, drop, refl, sym, ap, subst, ◌∙◌}
use Rattle.std.proofs.Common.{append_assoc, arith, length-append, length-drop}
use Rattle.std.proofs.lemmas.List.{take_at, drop_at, drop-drop, take-append-drop}
use Rattle.netlink_packet_route.specs.Framing.{Item, Front, padded}
use Rattle.npr_c.specs.Steps.{FoundAt}
use Rattle.npr_c.specs.declared.steps.Step.{Step}

-- the bytes from the place of a rest on
pub rest_is : (bytes front rest : List ℕ) → bytes ≡ front ++ rest → drop (length bytes - length rest) bytes ≡ rest
rest_is bytes front rest is =
    let size : length front ≡ length bytes - length rest = omega (arith, ap length is, length-append front rest) in
    ap (drop (length bytes - length rest)) is ∙ drop_at front rest (length bytes - length rest) size

-- the step over the attribute with this kind and value, in front of this rest
abbrev pub step_over : List ℕ → ℕ → ℕ → List ℕ → List ℕ → Step
step_over bytes at kind value rest =
    record { status = 0; number = 0; value = at + 4; length = length value; next = length bytes - length rest; kind = kind }

pub found : (bytes : List ℕ) (at : ℕ) (x : Item) (rest : List ℕ) → at < length bytes → Front (drop at bytes) x rest
    → FoundAt bytes at (step_over bytes at x.kind x.value rest)
found bytes at x rest within f =
    let n : ℕ = length x.value in
    let front : List ℕ = padded x f.padding in
    let after : drop (at + 4) bytes ≡ x.value ++ (f.padding ++ rest) =
    sym (drop-drop 4 at bytes) ∙ ap (drop 4) f.is ∙ append_assoc x.value f.padding rest in
    let value : take n (drop (at + 4) bytes) ≡ x.value = ap (take n) after ∙ take_at x.value (f.padding ++ rest) n refl in
    let whole : bytes ≡ (take at bytes ++ front) ++ rest =
    sym (take-append-drop at bytes) ∙ ap (λ (w : List ℕ). take at bytes ++ w) f.is ∙ sym (append_assoc (take at bytes) front rest) in
    let left : drop (length bytes - length rest) bytes ≡ rest = rest_is bytes (take at bytes ++ front) rest whole in
    let size : length bytes - at ≡ 4 + (n + length f.padding) + length rest =
    omega (arith, length-drop at bytes, ap length f.is, length-append (x.value ++ f.padding) rest, length-append x.value f.padding) in
    record {
      status = refl;
      number = refl;
      front = rw (value, left) f;
      place = refl;
      within = omega (arith, size);
      end = omega arith;
    }

-- the same, of equal bytes and parts
pub found_in : (bytes inside value left : List ℕ) (at kind : ℕ) (x : Item) (rest : List ℕ) → at < length bytes → inside ≡ drop at bytes
    → Front inside x rest → value ≡ x.value → left ≡ rest → kind ≡ x.kind → FoundAt bytes at (step_over bytes at kind value left)
found_in bytes inside value left at kind x rest within same f v l k =
    rw (v, l, k) (found bytes at x rest within (subst (λ (w : List ℕ). Front w x rest) same f))
