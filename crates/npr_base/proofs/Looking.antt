-- Looks at the members of a list, one member after the other.
use Rattle.std.proofs.Common.{◌≡◌, ℕ, ◌+◌, ◌-◌, ◌*◌, ◌/◌, ◌≤◌, List, [], ◌∷◌, ◌++◌, length, refl, ◌∙◌, arith}
use Rattle.npr_base.specs.Counts.{Counts, AddsAtMost, hit}
use Rattle.npr_base.specs.Lists.{Each, ReadsTo}
use Rattle.npr_base.specs.Framing.{Item, Front}
use Rattle.npr_base.specs.lemmas.Front.{Front-takes, Passes-more}
use Rattle.npr_base.specs.Walk.{Walked}
use Rattle.std.proofs.lemmas.List.{length_push}

-- what the attributes that were read so far have added
pub record SoFar (start now : Counts) (consumed count : ℕ) : Type 0 where
  pub kept : start.successful ≤ now.successful
  pub successful : now.successful + count ≤ start.successful + 2 * (consumed / 4)
  pub failed : now.failed ≡ start.failed

-- one more
pub SoFar-more : (start now after : Counts) (consumed count size more : ℕ) → SoFar start now consumed count → AddsAtMost (hit now) after size → after.failed ≡ now.failed
    → consumed + (4 + size) ≤ more → SoFar start after more (count + 1)
SoFar-more start now after consumed count size more s a failed le = record {
  kept = omega (arith, s.kept, a.kept);
  successful = omega (arith, s.successful, a.successful, le);
  failed = failed ∙ s.failed;
}

Each-length : {A B : Type 0} (R : A → B → Type 0) (xs : List A) (ys : List B) → Each R xs ys → length xs ≡ length ys
Each-length R [] [] e = refl
Each-length R (x ∷ xs) (y ∷ ys) e = omega (arith, Each-length R xs ys e.1)
Each-length R [] (y ∷ ys) e = absurd e
Each-length R (x ∷ xs) [] e = absurd e

module _ {M : Type 0} (R : Item → M → Type 0) (bytes : List ℕ) (ms : List M) (rest : List ℕ) (start now : Counts) where
  -- an attribute stands in front of the rest, in which so much was looked at
  pub Walked-past : (x : Item) (more : List ℕ) (after : Counts) → ReadsTo R bytes ms rest → SoFar start now (length bytes - length rest) (length ms) → Front rest x more
      → AddsAtMost (hit now) after (length x.value) → length rest ≤ length bytes → Walked bytes start after
  Walked-past x more after (items, p, e) s f a le = record {
    passed = items ++ x ∷ [];
    rest = more;
    passes = Passes-more items x bytes rest more p f;
    kept = omega (arith, s.kept, a.kept);
    successful = omega (arith, s.successful, a.successful, Each-length R items ms e, Front-takes rest x more f, length_push items x, le);
    failed_kept = omega (arith, s.failed, a.failed_kept);
    failed = omega (arith, s.failed, a.failed, Front-takes rest x more f, le);
  }

-- a look at the header alone
pub AddsAtMost-none : (c : Counts) (len : ℕ) → AddsAtMost c c len
AddsAtMost-none c len = record { kept = omega arith; successful = omega arith; failed_kept = omega arith; failed = omega arith }
