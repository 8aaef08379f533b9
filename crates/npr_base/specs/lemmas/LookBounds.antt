-- The looks at a list of a family, and what they are at most and at least.
use Rattle.std.specs.Prelude.{IfOk}
use Rattle.std.proofs.Common.{◌≡◌, ℕ, ◌*◌, ◌+◌, ◌≤◌, Result, Ok, Err, List, [], ◌∷◌, length, refl, ap, subst, ◌∙◌, sym, arith}
use Rattle.npr_base.specs.Counts.{Counts, AddsAtMost, AddsAtMostTwice, SawEach, hit}
use Rattle.npr_base.specs.declared.refusal.DecodeError.{DecodeError}
use Rattle.npr_base.specs.Framing.{Item, Passes, Cut}
use Rattle.npr_base.specs.Lists.{Each, ReadsList, list_members}
use Rattle.npr_base.specs.lemmas.Front.{Front-takes, Front-same, Front-shrinks, Front-sound, no_front}
use Rattle.npr_base.specs.Looks.{ListLooks, list_ends, none_stands, faulty_stands, passed}
use Rattle.npr_base.specs.lemmas.Looks.{none-saw}
use Rattle.npr_base.specs.Family.{Writing, Reading}
use Rattle.npr_base.specs.Walk.{Walked, Searched}

-- ---- walks

-- attributes take four bytes each at least
pub Passes-length : (items : List Item) (bytes rest : List ℕ) → Passes bytes items rest → 4 * length items + length rest ≤ length bytes
Passes-length [] bytes rest p = omega (arith, ap length p)
Passes-length (x ∷ items) bytes rest (more, f, p) = omega (arith, Passes-length items more rest p, Front-shrinks bytes x more f)

-- of two walks of one list, the one that came farther has passed no more than the rest of the other has room for
pub Passes-ahead : (xs ys : List Item) (bytes r s : List ℕ) → Passes bytes xs r → Passes bytes ys s → 4 * length xs ≤ 4 * length ys + length s
Passes-ahead [] ys bytes r s p q = omega arith
Passes-ahead (x ∷ xs) [] bytes r s p q = omega (arith, Passes-length (x ∷ xs) bytes r p, ap length q)
Passes-ahead (x ∷ xs) (y ∷ ys) bytes r s (m, f, p) (n, g, q) =
    omega (arith, Passes-ahead xs ys m r s p (subst (λ (b : List ℕ). Passes b ys s) (sym (Front-same bytes x y m n f g).1) q))

-- a list is a value, if an attribute holds it
pub Walked-bounds : (bytes : List ℕ) (old new : Counts) → Walked bytes old new → AddsAtMost old new (length bytes)
Walked-bounds bytes old new w = record {
  kept = w.kept;
  successful = omega (arith, w.successful);
  failed_kept = w.failed_kept;
  failed = omega (arith, w.failed);
}

-- nothing is passed, and one look fails at most
nothing-walked : (bytes : List ℕ) (old new : Counts) → new.successful ≡ old.successful → old.failed ≤ new.failed → new.failed ≤ old.failed + 1
    → Walked bytes old new
nothing-walked bytes old new same more one = record {
  passed = [];
  rest = bytes;
  passes = refl;
  kept = omega (arith, same);
  successful = omega (arith, same);
  failed_kept = more;
  failed = omega (arith, one);
}

module _ {M : Type 0} {w : Writing M} (f : Reading w) where
  pub list-walked : (bytes : List ℕ) (old new : Counts) → ListLooks f.Reads f.Faulty f.looks.Takes bytes old new → Walked bytes old new
  list-walked bytes old new (list_ends is p) =
      let failed = ap (λ (c : Counts). c.failed) p in
      nothing-walked bytes old new (ap (λ (c : Counts). c.successful) p) (omega (arith, failed)) (omega (arith, failed))
  list-walked bytes old new (none_stands e left bad p) =
      let failed = ap (λ (c : Counts). c.failed) p in
      nothing-walked bytes old new (ap (λ (c : Counts). c.successful) p) (omega (arith, failed)) (omega (arith, failed))
  list-walked bytes old new (faulty_stands x rest e front bad p) =
      let a = f.bounded x (hit old) new p in
      let took = Front-takes bytes x rest front in
      record {
        passed = x ∷ [];
        rest = rest;
        passes = (rest, front, refl);
        kept = omega (arith, a.kept);
        successful = omega (arith, a.successful, took);
        failed_kept = omega (arith, a.failed_kept);
        failed = omega (arith, a.failed, took);
      }
  list-walked bytes old new (passed x rest m mid front reads t p) =
      let a = f.bounded x (hit old) mid t in
      let q = (f.saw x m (hit old) mid reads t).failed in
      let b = list-walked rest mid new p in
      let took = Front-takes bytes x rest front in
      let far = Passes-length b.passed rest b.rest b.passes in
      record {
        passed = x ∷ b.passed;
        rest = b.rest;
        passes = (rest, front, b.passes);
        kept = omega (arith, a.kept, b.kept);
        successful = omega (arith, a.successful, b.successful, took, far);
        failed_kept = omega (arith, q, b.failed_kept);
        failed = omega (arith, q, b.failed, took);
      }

  pub list-bounded : (bytes : List ℕ) (old new : Counts) → ListLooks f.Reads f.Faulty f.looks.Takes bytes old new → AddsAtMost old new (length bytes)
  list-bounded bytes old new p = Walked-bounds bytes old new (list-walked bytes old new p)

  saw-items : (items : List Item) (xs : List M) (bytes : List ℕ) (old new : Counts) → Passes bytes items [] → Each f.Reads items xs
      → ListLooks f.Reads f.Faulty f.looks.Takes bytes old new → SawEach old new (list_members w.members xs)
  saw-items [] [] bytes old new is each (list_ends js p) = none-saw old new p
  saw-items [] [] bytes old new is each (none_stands e left bad p) = absurd (omega (arith, ap length is, left))
  saw-items [] [] bytes old new is each (faulty_stands y rest e g bad p) = no_front bytes rest y is g
  saw-items [] [] bytes old new is each (passed y rest n mid g r t p) = no_front bytes rest y is g
  saw-items [] (m ∷ ms) bytes old new is each p = absurd each
  saw-items (x ∷ items) [] bytes old new is each p = absurd each
  saw-items (x ∷ items) (m ∷ ms) bytes old new (more, front, is) each (list_ends js p) = no_front bytes more x js front
  saw-items (x ∷ items) (m ∷ ms) bytes old new (more, front, is) each (none_stands e left bad p) = absurd (Front-sound bytes x more e front bad)
  saw-items (x ∷ items) (m ∷ ms) bytes old new (more, front, is) each (faulty_stands y rest e g bad p) =
      let same = Front-same bytes x y more rest front g in
      absurd (f.no_fault y m e (subst (λ (z : Item). f.Reads z m) same.0 each.0) bad)
  saw-items (x ∷ items) (m ∷ ms) bytes old new (more, front, is) each (passed y rest n mid g r t p) =
      let same = Front-same bytes x y more rest front g in
      let first = f.saw y m (hit old) mid (subst (λ (z : Item). f.Reads z m) same.0 each.0) t in
      let b = f.bounded y (hit old) mid t in
      let later = saw-items items ms rest mid new (subst (λ (z : List ℕ). Passes z items []) same.1 is) each.1 p in
      let k = (list-walked rest mid new p).kept in
      record {
        failed = omega (arith, first.failed, later.failed);
        each = λ below. omega (arith, later.each below, first.each (omega (arith, k, below)), b.kept, k);
      }

  pub list-saw : (bytes : List ℕ) (xs : List M) (old new : Counts) → ReadsList f.Reads bytes xs → ListLooks f.Reads f.Faulty f.looks.Takes bytes old new
      → SawEach old new (list_members w.members xs)
  list-saw bytes xs old new (items, is, each) p = saw-items items xs bytes old new is each p

-- ---- a search through a list, and then its reading

pub searched-read : (bytes : List ℕ) (old mid new : Counts) → Searched bytes old mid → Walked bytes mid new → AddsAtMostTwice old new (length bytes)
searched-read bytes old mid new s w =
    let ahead = Passes-ahead s.passed w.passed bytes s.rest w.rest s.passes w.passes in
    let far = Passes-length w.passed bytes w.rest w.passes in
    record {
      kept = omega (arith, s.kept, w.kept);
      successful = omega (arith, s.successful, w.successful, ahead, far);
      failed_kept = omega (arith, s.failed_kept, w.failed_kept);
      failed = omega (arith, s.failed, w.failed);
    }

pub searched-saw : (bytes : List ℕ) (items : List Item) (old mid new : Counts) (members : ℕ) → Cut bytes items → Searched bytes old mid
    → SawEach mid new members → SawEach old new members
searched-saw bytes items old mid new members cut s saw = record {
  failed = saw.failed ∙ s.whole items cut;
  each = λ below. omega (arith, saw.each below, s.kept);
}

-- of what a reading answers
pub searched-saw_ok : {V M : Type 0} (xs : V → List M) (count : List M → ℕ) (R : Item → M → Type 0) (bytes : List ℕ) (old mid new : Counts)
    → Searched bytes old mid → (r : Result V DecodeError) → IfOk r (λ v. ReadsList R bytes (xs v)) → IfOk r (λ v. SawEach mid new (count (xs v)))
    → IfOk r (λ v. SawEach old new (count (xs v)))
searched-saw_ok xs count R bytes old mid new s (Ok v) reads saw = searched-saw bytes reads.0 old mid new (count (xs v)) reads.1 s saw
searched-saw_ok xs count R bytes old mid new s (Err e) reads saw = tt

-- of one family without lists inside
pub family-bounded : {M : Type 0} {w : Writing M} (f : Reading w) (bytes : List ℕ) (old new : Counts)
    → ListLooks f.Reads f.Faulty f.looks.Takes bytes old new → AddsAtMostTwice old new (length bytes)
family-bounded f bytes old new t =
    let a = list-bounded f bytes old new t in
    record { kept = a.kept; successful = a.successful; failed_kept = a.failed_kept; failed = omega (arith, a.failed) }
