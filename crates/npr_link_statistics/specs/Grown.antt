-- Structures of numbers of one width that grew over the years: each kernel writes as many numbers as it has.
--     Names, parts        the fields of a struct, in the order in which kernels write them, and what a struct is by them
--     grown_of            numbers by their places, and zero for each field that there is none for
--     numbers_of          the numbers that there are
--     grown               how such a structure is read and written, with the laws of both; it refuses no bytes
--     numbers_in          the numbers that bytes are
use Rattle.std.specs.Prelude.{◌≡◌, ℕ, zero, suc, ◌+◌, ◌-◌, ◌<◌, List, [], ◌∷◌, ◌++◌, length, take, drop, map, Option, None, Some, slice_get}
use Rattle.std.proofs.Common.{refl, sym, ap, subst, ◌∙◌, arith, le_refl}
use Rattle.npr_base.specs.Blocks.{AreBlocks, Width, blocks, blocks-whole}
use Rattle.npr_base.specs.Codec.{Codec}
use Rattle.npr_base.specs.Layout.{Layout}
use Rattle.npr_base.specs.Numbering.{Numbering, IsFormed, of_IsFormed}

-- what is known of a structure: a number for each field, how many of the last fields there was none for, and the numbers
-- behind the last field
pub record Grown (A : Type 0) : Type 0 where
  pub fields : List A
  pub missing : ℕ
  pub more : List A

-- where a struct has them
pub record Names (D A : Type 0) : Type 0 where
  pub fields : List (D → A)
  pub missing : D → ℕ
  pub more : D → List A

abbrev pub parts : {D A : Type 0} → Names D A → D → Grown A
parts names x = record { fields = map (λ field. field x) names.fields; missing = names.missing x; more = names.more x }

abbrev pub number_or : {A : Type 0} → A → Option A → A
number_or none None = none
number_or none (Some x) = x

-- so many numbers from a place on, and `none` for each that there is not
abbrev pub filled : {A : Type 0} → A → ℕ → ℕ → List A → List A
filled none zero at numbers = []
filled none (suc n) at numbers = number_or none (slice_get numbers at) ∷ filled none n (at + 1) numbers

-- by n fields
abbrev pub grown_of : {A : Type 0} → A → ℕ → List A → Grown A
grown_of none n numbers = record { fields = filled none n 0 numbers; missing = n - length numbers; more = drop n numbers }

abbrev pub numbers_of : {A : Type 0} → ℕ → Grown A → List A
numbers_of n g = take (n - g.missing) g.fields ++ g.more

-- ---- the numbers come back

first-drop : {A : Type 0} (none : A) (at : ℕ) (xs : List A) → number_or none (slice_get xs at) ≡ number_or none (slice_get (drop at xs) 0)
first-drop none zero xs = refl
first-drop none (suc at) [] = refl
first-drop none (suc at) (x ∷ xs) = first-drop none at xs

drop-one : {A : Type 0} (at k : ℕ) (xs : List A) → k ≡ at + 1 → drop 1 (drop at xs) ≡ drop k xs
drop-one at zero xs e = absurd (omega (arith, e))
drop-one zero (suc k) [] e = refl
drop-one zero (suc k) (x ∷ xs) e = ap (λ (n : ℕ). drop n xs) (let z : 0 ≡ k = omega (arith, e) in z)
drop-one (suc at) (suc k) [] e = refl
drop-one (suc at) (suc k) (x ∷ xs) e = drop-one at k xs (omega (arith, e))

filled-drop : {A : Type 0} (none : A) (n at : ℕ) (xs : List A) → filled none n at xs ≡ filled none n 0 (drop at xs)
filled-drop none zero at xs = refl
filled-drop none (suc n) at xs =
    let later = filled-drop none n (at + 1) xs ∙ ap (filled none n 0) (sym (drop-one at (at + 1) xs refl)) ∙ sym (filled-drop none n 1 (drop at xs)) in
    λ i. first-drop none at xs i ∷ later i

pub numbers-back : {A : Type 0} (none : A) (n m : ℕ) (xs : List A) → m ≡ n - (n - length xs) → take m (filled none n 0 xs) ++ drop n xs ≡ xs
numbers-back none zero zero xs e = refl
numbers-back none zero (suc m) xs e = absurd (omega (arith, e))
numbers-back none (suc n) zero [] e = refl
numbers-back none (suc n) (suc m) [] e = absurd (omega (arith, e))
numbers-back none (suc n) zero (x ∷ xs) e = absurd (omega (arith, e))
numbers-back none (suc n) (suc m) (x ∷ xs) e =
    let later = ap (λ (ys : List _). take m ys ++ drop n xs) (filled-drop none n 1 (x ∷ xs)) ∙ numbers-back none n m xs (omega (arith, e)) in
    λ i. x ∷ later i

abbrev pub growing : {A : Type 0} → A → ℕ → Numbering (List A) (Grown A)
growing none n = record {
  of = grown_of none n;
  number = numbers_of n;
  back = λ xs. numbers-back none n (n - (n - length xs)) xs refl;
}

-- ---- a codec of values that are numbered by those of another

module _ {K V : Type 0} (C : Codec K) (n : Numbering K V) where
  pub one-formed : (bytes : List ℕ) (x y : V) → C.Reads bytes (n.number x) × IsFormed n x → C.Reads bytes (n.number y) × IsFormed n y → x ≡ y
  one-formed bytes x y p q = p.1 ∙ ap n.of (C.one_reading bytes (n.number x) (n.number y) p.0 q.0) ∙ sym q.1

  pub whole-formed : (bytes : List ℕ) → (k : K) × C.Reads bytes k → (x : V) × (C.Reads bytes (n.number x) × IsFormed n x)
  whole-formed bytes p = (n.of p.0, (subst (C.Reads bytes) (sym (n.back p.0)) p.1, of_IsFormed n p.0))

  abbrev pub formed_codec : Codec V
  formed_codec = record {
    Reads = λ bytes x. C.Reads bytes (n.number x) × IsFormed n x;
    Wrong = C.Wrong;
    encode = λ x. C.encode (n.number x);
    unfit = λ kind x. C.unfit kind (n.number x);
    Holds = λ x. C.Holds (n.number x) × IsFormed n x;
    members = record {
      count = λ x. C.members.count (n.number x);
      looks = C.members.looks;
      bounded = C.members.bounded;
      saw = λ bytes x old new p is. C.members.saw bytes (n.number x) old new p.0 is;
    };
    showing = record {
      form = C.showing.form;
      sees = λ b x. C.showing.sees b (n.number x);
      shows = λ b s x p q. C.showing.shows b s (n.number x) p q.0;
      whole = λ b s w p. whole-formed b (C.showing.whole b s w p);
      wrong = C.showing.wrong;
    };
    one_reading = one-formed;
    no_fault = λ at bytes x e p q. C.no_fault at bytes (n.number x) e p.0 q;
    reads_holds = λ bytes x is p. (C.reads_holds bytes (n.number x) is p.0, p.1);
    reads_back = λ kind x h fits. (C.reads_back kind (n.number x) h.0 fits, h.1);
    grows = λ bytes x is p. C.grows bytes (n.number x) is p.0;
  }

-- a structure of these fields
abbrev pub grown : {D A : Type 0} → Width A → Names D A → Codec (Grown A)
grown width names = formed_codec (blocks width.layout width.positive) (growing width.none (length names.fields))

-- ---- the numbers of bytes

pub numbers_in : {A : Type 0} → Width A → List ℕ → List A
numbers_in width bytes = (blocks-whole width.layout width.positive (length bytes) bytes (le_refl (length bytes))).0

pub numbers_in-are : {A : Type 0} (width : Width A) (bytes : List ℕ) → AreBlocks width.layout bytes (numbers_in width bytes)
unfolding numbers_in
numbers_in-are width bytes = (blocks-whole width.layout width.positive (length bytes) bytes (le_refl (length bytes))).1

-- by their places they are what the bytes are read as
pub numbers-read : {D A : Type 0} (width : Width A) (names : Names D A) (bytes : List ℕ)
    → (grown width names).Reads bytes (grown_of width.none (length names.fields) (numbers_in width bytes))
unfolding whole-formed
numbers-read width names bytes =
    (whole-formed (blocks width.layout width.positive) (growing width.none (length names.fields)) bytes (numbers_in width bytes, numbers_in-are width bytes)).1
