-- What stands in front of bytes is one next hop at most.
use Rattle.std.specs.Prelude.{slice_index}
use Rattle.std.proofs.Common.{◌≡◌, ℕ, suc, ◌+◌, ◌-◌, ◌^◌, ◌<◌, ◌≤◌, List, [], ◌++◌, length, take, drop}
use Rattle.std.proofs.Common.{refl, sym, ap, subst, ◌∙◌, append_assoc, arith, inl, inr, length-append}
use Rattle.std.proofs.lemmas.List.{take_at, drop-drop}
use Rattle.std.proofs.lemmas.Nat.{from_le_bytes-to_le_bytes_4}
use Rattle.npr_base.specs.declared.refusal.DecodeError.{DecodeError}
use Rattle.npr_base.specs.declared.refusal.DecodeError.TheVariants.{NextHopTooShort, NextHopLength}
use Rattle.npr_base.specs.Framing.{IsBytes, pad}
use Rattle.npr_base.specs.Layout.{le32_at}
use Rattle.npr_base.specs.lemmas.Front.{length_at, length_at-is, rest_at, rest_is, two_bytes}
use Rattle.npr_base.specs.lemmas.List.{IsBytes-left, IsBytes-right}
use Rattle.npr_route.specs.Attribute.{HopHead, hop_text, HopFront, HopFault}

-- what stands in front, computed
abbrev head_at : List ℕ → HopHead
head_at bs = record { flags = slice_index bs 2; hops = slice_index bs 3; interface_index = le32_at bs 4 }

head_back : (h : HopHead) (inside rest : List ℕ) → h.interface_index < 2 ^ 32 → head_at (hop_text h inside ++ rest) ≡ h
head_back h inside rest fits = λ i. record { flags = h.flags; hops = h.hops; interface_index = from_le_bytes-to_le_bytes_4 h.interface_index fits i }

pub HopFront-length : (bs : List ℕ) (h : HopHead) (inside rest : List ℕ) (f : HopFront bs h inside rest)
    → length bs ≡ 8 + length inside + length f.padding + length rest
HopFront-length bs h inside rest f = omega (arith, ap length f.is, length-append inside (f.padding ++ rest), length-append f.padding rest)

length_is : (bs : List ℕ) (h : HopHead) (inside rest : List ℕ) → HopFront bs h inside rest → length_at bs ≡ 8 + length inside
length_is bs h inside rest f = ap length_at f.is ∙ two_bytes (8 + length inside) (omega (arith, f.short))

pub HopFront-is : (bs : List ℕ) (h : HopHead) (inside rest : List ℕ) → HopFront bs h inside rest
    → (h ≡ head_at bs) × (inside ≡ take (length_at bs - 8) (drop 8 bs)) × (rest ≡ rest_at bs)
HopFront-is bs h inside rest f =
    let l : length_at bs ≡ 8 + length inside = length_is bs h inside rest f in
    let behind : List ℕ = f.padding ++ rest in
    let d : drop 8 bs ≡ inside ++ behind = ap (drop 8) f.is in
    let i : take (length_at bs - 8) (drop 8 bs) ≡ inside =
    ap (λ (n : ℕ). take (n - 8) (drop 8 bs)) l ∙ ap (take (8 + length inside - 8)) d ∙ take_at inside behind (8 + length inside - 8) (omega arith) in
    let m : ℕ = length inside + pad (length inside) in
    let size : length_at bs + pad (length_at bs) ≡ 8 + m = omega (arith, l) in
    let r : rest_at bs ≡ rest = ap (λ (n : ℕ). drop n bs) size ∙ sym (drop-drop m 8 bs) ∙ ap (drop m) d
    ∙ ap (drop m) (sym (append_assoc inside f.padding rest))
    ∙ rest_is inside f.padding rest m refl (omega (arith, f.most)) (λ more. omega (arith, f.whole more)) in
    (sym (ap head_at f.is ∙ head_back h inside behind f.holds.interface_index), sym i, sym r)

pub HopFront-same : (bs : List ℕ) (g h : HopHead) (i j r s : List ℕ) → HopFront bs g i r → HopFront bs h j s → (g ≡ h) × (i ≡ j) × (r ≡ s)
HopFront-same bs g h i j r s p q =
    let a = HopFront-is bs g i r p in
    let b = HopFront-is bs h j s q in
    (a.0 ∙ sym b.0, a.1 ∙ sym b.1, a.2 ∙ sym b.2)

-- where one stands in front there is no fault
pub HopFront-sound : (bs : List ℕ) (h : HopHead) (inside rest : List ℕ) (e : DecodeError) → HopFront bs h inside rest → HopFault bs e → ⊥
HopFront-sound bs h inside rest (NextHopTooShort got) f bad = absurd (omega (arith, HopFront-length bs h inside rest f, bad.1))
HopFront-sound bs h inside rest (NextHopLength l left) f bad =
    let n : length_at bs ≡ 8 + length inside = length_is bs h inside rest f in
    let le : 8 + length inside ≤ length bs = omega (arith, HopFront-length bs h inside rest f) in
    let is : l ≡ length_at bs = bad.2 ∙ length_at-is bs in
    elim bad.3 [ inl low ↦ absurd (omega arith) | inr high ↦ absurd (omega arith) ]
HopFront-sound bs h inside rest other f bad = bad

-- parts of a program's bytes are a program's
pub HopFront-proper : (bs : List ℕ) (h : HopHead) (inside rest : List ℕ) → IsBytes bs → HopFront bs h inside rest → IsBytes inside × IsBytes rest
HopFront-proper bs h inside rest bytes f =
    let behind : List ℕ = f.padding ++ rest in
    let all : IsBytes (hop_text h inside ++ behind) = subst IsBytes f.is bytes in
    let tail : IsBytes (inside ++ behind) = λ i. all (suc (suc (suc (suc (suc (suc (suc (suc i)))))))) in
    (IsBytes-left inside behind tail, IsBytes-right f.padding rest (IsBytes-right inside behind tail))

-- in no bytes none stands
pub no_hop : {A : Type 0} (bytes inside rest : List ℕ) (h : HopHead) → bytes ≡ [] → HopFront bytes h inside rest → A
no_hop bytes inside rest h is f = absurd (omega (arith, ap length is, HopFront-length bytes h inside rest f))
