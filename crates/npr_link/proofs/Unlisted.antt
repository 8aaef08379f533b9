-- A number that no row of a link's attributes has. The numbers are so many that a search does not see all of what a `match` leaves.
--     NoneOf        a number is none of some, as the last arm of a `match` knows it
--     form-kept     then its value is seen as its bytes
--     flat-kept     and its attribute is read as it stands
use Rattle.std.specs.Prelude.{Bool, true, false, not, ◌||◌, ◌==◌}
use Rattle.std.proofs.Common.{◌≡◌, ◌≢◌, ℕ, List, [], ◌∷◌, ◌++◌, drop, refl, sym, subst}
use Rattle.std.proofs.lemmas.Bool.{ne_eqb}
use Rattle.npr_base.specs.Framing.{Item}
use Rattle.npr_base.specs.Refusal.{at_number}
use Rattle.npr_base.specs.declared.attribute_set.AttributeSet.TheVariants.{Link as AtLink}
use Rattle.npr_base.specs.declared.value.Form.TheVariants.{Raw}
use Rattle.npr_link.specs.AfSpecs.{Form}
use Rattle.npr_link.specs.Attribute.{IsFlat, flat, flat_rows, later, rows, told}
use Rattle.npr_link.specs.ProtoInfos.{Form as ProtoForm}
use Rattle.npr_link.specs.declared.attribute.LinkAttribute.{LinkAttribute}
use Rattle.npr_base.proofs.OtherRows.{other-reads, other-form}

abbrev pub NoneOf : List ℕ → ℕ → Type 0
NoneOf [] n = Unit {0}
NoneOf (k ∷ ks) n = NoneOf ks n × (n ≢ k)

abbrev listed : List ℕ → ℕ → Bool
listed [] n = false
listed (k ∷ ks) n = n == k || listed ks n

not-listed : (ks : List ℕ) (n : ℕ) → NoneOf ks n → not (listed ks n) ≡ true
not-listed [] n none = refl
not-listed (k ∷ ks) n none = rw (ne_eqb n k none.1) (not-listed ks n none.0)

-- what the last of the numbers, the first arm's, is not
abbrev last : List ℕ → ℕ
last [] = 0
last (k ∷ []) = k
last (k ∷ j ∷ ks) = last (j ∷ ks)

not-last : (ks : List ℕ) (k n : ℕ) → NoneOf (k ∷ ks) n → n ≢ last (k ∷ ks)
not-last [] k n none = none.1
not-last (j ∷ ks) k n none = not-last ks j n none.0

-- the arms of a `match` over all rows, the last one first, and of one over those that stand for themselves
abbrev pub flat_numbers : List ℕ
flat_numbers =
    69 ∷ 68 ∷ 67 ∷ 66 ∷ 65 ∷ 64 ∷ 63 ∷ 62 ∷ 61 ∷ 60 ∷ 59 ∷ 58 ∷ 57 ∷ 56 ∷ 55 ∷ 54 ∷ 53 ∷ 52 ∷ 51 ∷ 50 ∷ 49 ∷ 48 ∷ 47 ∷ 46 ∷ 45
    ∷ 44 ∷ 43 ∷ 41 ∷ 40 ∷ 39 ∷ 38 ∷ 37 ∷ 36 ∷ 35 ∷ 34 ∷ 33 ∷ 32 ∷ 31 ∷ 30 ∷ 29 ∷ 28 ∷ 27 ∷ 25 ∷ 24 ∷ 23 ∷ 22 ∷ 21 ∷ 20 ∷ 19 ∷ 17 ∷ 16
    ∷ 15 ∷ 14 ∷ 13 ∷ 11 ∷ 10 ∷ 7 ∷ 6 ∷ 5 ∷ 4 ∷ 3 ∷ 2 ∷ 1 ∷ []

abbrev pub all_numbers : List ℕ
all_numbers = flat_numbers ++ (18 ∷ 26 ∷ 12 ∷ [])

pub form-kept : (proto : ProtoForm) (form : Form) (n : ℕ) → NoneOf all_numbers n → told proto form n ≡ (at_number AtLink n, Raw)
form-kept proto form n none =
    rw (ne_eqb n 12 (not-last (drop 1 all_numbers) 69 n none))
    (other-form (λ k. not (listed all_numbers k)) n (not-listed all_numbers n none) AtLink later (rows form).0 refl)

pub flat-kept : (n : ℕ) → NoneOf flat_numbers n → (x d : Item) → d ≡ x → IsFlat n x (LinkAttribute.Other d)
unfolding IsFlat
flat-kept n none x d is =
    subst (λ (y : Item). IsFlat n x (LinkAttribute.Other y)) (sym is)
    (other-reads (λ k. not (listed flat_numbers k)) n (not-listed flat_numbers n none) flat flat_rows.0 refl x)
