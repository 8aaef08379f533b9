-- How far walks of one list come.
use Rattle.std.specs.Prelude.{Some}
use Rattle.std.proofs.lemmas.Bool.{cases_lt}
use Rattle.std.proofs.Common.{◌≡◌, ℕ, ◌+◌, ◌-◌, ◌*◌, ◌%◌, ◌<◌, ◌≤◌, List, [], ◌∷◌, ◌++◌, length}
use Rattle.std.proofs.Common.{Result, Ok, Err, refl, sym, ap, subst, ◌∙◌, arith, inl, inr, append_assoc}
use Rattle.std.proofs.Common.{length-append}
use Rattle.npr_base.specs.Framing.{Item, Front, Passes, Cut, Stops, Step, padded}
use Rattle.npr_base.specs.Lists.{ReadsList}
use Rattle.npr_base.specs.lemmas.Front.{Front-same, Front-shrinks}
use Rattle.npr_base.specs.lemmas.LookBounds.{Passes-length}
use Rattle.npr_base.specs.Walk.{Steps, found, Finds}
use Rattle.npr_base.specs.declared.refusal.DecodeError.{DecodeError}

-- ---- the steps of a walk

no_step_past_the_end : (s : Result Item DecodeError) (more : List ℕ) → Step [] (Some s) more → ⊥
no_step_past_the_end (Ok x) more f = absurd (omega (arith, Front-shrinks [] x more f))
no_step_past_the_end (Err e) more (left, bad, is) = absurd (omega arith)

finds_more : (bytes more rest : List ℕ) (x : Item) (steps : List (Result Item DecodeError)) (items : List Item) → Front bytes x more
    → Finds more steps rest items → Finds bytes (Ok x ∷ steps) rest (x ∷ items)
finds_more bytes more rest x steps items f (inl (is, p)) = inl (ap (λ (s : List (Result Item DecodeError)). Ok x ∷ s) is, (more, f, p))
finds_more bytes more rest x steps items f (inr (e, is, (r, p, left, bad), end)) =
    inr (e, ap (λ (s : List (Result Item DecodeError)). Ok x ∷ s) is, (r, (more, f, p), left, bad), end)

-- steps find attributes, and one fault after them at most
pub Steps-find : (bytes : List ℕ) (steps : List (Result Item DecodeError)) (rest : List ℕ) → Steps bytes steps rest
    → (items : List Item) × Finds bytes steps rest items
Steps-find bytes [] rest p = ([], inl (refl, p))
Steps-find bytes (Ok x ∷ steps) rest (more, f, p) = let h = Steps-find more steps rest p in (x ∷ h.0, finds_more bytes more rest x steps h.0 f h.1)
Steps-find bytes (Err e ∷ []) rest (more, (left, bad, is), p) = ([], inr (e, refl, (bytes, refl, left, bad), sym p ∙ is))
Steps-find bytes (Err e ∷ s ∷ steps) rest (more, (left, bad, is), (after, step, p)) =
    absurd (no_step_past_the_end s after (subst (λ (b : List ℕ). Step b (Some s) after) is step))

-- and the other way
pub Steps-are-passed : (items : List Item) (bytes rest : List ℕ) → Steps bytes (found items) rest → Passes bytes items rest
Steps-are-passed [] bytes rest p = p
Steps-are-passed (x ∷ items) bytes rest (more, f, p) = (more, f, Steps-are-passed items more rest p)

pub Steps-are-a-stop : (items : List Item) (bytes : List ℕ) (e : DecodeError) → Steps bytes (found items ++ Err e ∷ []) [] → Stops bytes items e
Steps-are-a-stop [] bytes e (more, (left, bad, is), p) = (bytes, refl, left, bad)
Steps-are-a-stop (x ∷ items) bytes e (more, f, p) = let h = Steps-are-a-stop items more e p in (h.0, (more, f, h.1), h.2, h.3)

pub Passes-are-steps : (items : List Item) (bytes rest : List ℕ) → Passes bytes items rest → Steps bytes (found items) rest
Passes-are-steps [] bytes rest p = p
Passes-are-steps (x ∷ items) bytes rest (more, f, p) = (more, f, Passes-are-steps items more rest p)

pub Stops-are-steps : (items : List Item) (bytes : List ℕ) (e : DecodeError) → Stops bytes items e → Steps bytes (found items ++ Err e ∷ []) []
Stops-are-steps [] bytes e (rest, p, left, bad) = ([], subst (λ (b : List ℕ). Step b (Some (Err e)) []) (sym p) (left, bad, refl), refl)
Stops-are-steps (x ∷ items) bytes e (rest, (more, f, p), left, bad) = (more, f, Stops-are-steps items more e (rest, p, left, bad))

pub Finds-length : (bytes : List ℕ) (steps : List (Result Item DecodeError)) (rest : List ℕ) (items : List Item) → Finds bytes steps rest items
    → 4 * length items ≤ length bytes
Finds-length bytes steps rest items (inl (is, p)) = omega (arith, Passes-length items bytes rest p)
Finds-length bytes steps rest items (inr (e, is, (r, p, left, bad), end)) = omega (arith, Passes-length items bytes r p)

-- ---- a list that is cut in two

-- padding is whole where a multiple of four is left
whole_padding : (v p m : ℕ) → p ≤ (4 - v % 4) % 4 → (4 + v + p + m) % 4 ≡ 0 → (0 < m → p ≡ (4 - v % 4) % 4) → (p ≡ (4 - v % 4) % 4) × (m % 4 ≡ 0)
whole_padding v p m le whole more = elim (cases_lt 0 m) [
  | inl some ↦ let e = more some in (e, omega arith)
  | inr none ↦ (omega arith, omega arith)
]

Front-length : (bytes : List ℕ) (x : Item) (rest : List ℕ) (f : Front bytes x rest) → length bytes ≡ 4 + length x.value + length f.padding + length rest
Front-length bytes x rest f = omega (arith, ap length f.is, length-append (x.value ++ f.padding) rest, length-append x.value f.padding)

-- what stands in front of bytes that are a multiple of four stands there whatever follows them
Front-before : (bytes after : List ℕ) (x : Item) (rest : List ℕ) → Front bytes x rest → length bytes % 4 ≡ 0
    → Front (bytes ++ after) x (rest ++ after) × (length rest % 4 ≡ 0)
Front-before bytes after x rest f whole =
    let size = Front-length bytes x rest f in
    let whole_pad = whole_padding (length x.value) (length f.padding) (length rest) f.most (omega arith) f.whole in (
      record {
        padding = f.padding;
        is = ap (λ (b : List ℕ). b ++ after) f.is ∙ append_assoc (padded x f.padding) rest after;
        small = f.small;
        most = f.most;
        whole = λ h. whole_pad.0;
      },
      whole_pad.1,
    )

module _ {M : Type 0} (R : Item → M → Type 0) where
  -- a list whose beginning is cut into attributes by itself is the list of that beginning, and then that of the rest
  pub ReadsList-cut : (items : List Item) (first second : List ℕ) (xs : List M) → length first % 4 ≡ 0 → Cut first items → ReadsList R (first ++ second) xs
      → (ys : List M) × (zs : List M) × (xs ≡ ys ++ zs) × ReadsList R first ys × ReadsList R second zs
  ReadsList-cut [] first second xs whole cut (all, p, h) =
      ([], xs, refl, ([], cut, tt), (all, subst (λ (b : List ℕ). Passes b all []) (ap (λ (b : List ℕ). b ++ second) cut) p, h))
  ReadsList-cut (x ∷ items) first second xs whole (rest, f, cut) ([], p, h) =
      absurd (omega (arith, Front-shrinks first x rest f, ap length p, length-append first second))
  ReadsList-cut (x ∷ items) first second [] whole (rest, f, cut) (y ∷ all, p, h) = absurd h
  ReadsList-cut (x ∷ items) first second (m ∷ ms) whole (rest, f, cut) (y ∷ all, (more, g, p), h) =
      let b = Front-before first second x rest f whole in
      let same = Front-same (first ++ second) x y (rest ++ second) more b.0 g in
      let next = ReadsList-cut items rest second ms b.1 cut (all, subst (λ (w : List ℕ). Passes w all []) (sym same.1) p, h.1) in (
        m ∷ next.0,
        next.1,
        ap (λ (w : List M). m ∷ w) next.2,
        (x ∷ next.3.0, (rest, f, next.3.1), (subst (λ (i : Item). R i m) (sym same.0) h.0, next.3.2)),
        next.4,
      )
