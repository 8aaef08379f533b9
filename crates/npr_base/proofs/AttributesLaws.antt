-- What steps over attributes answer is what the bytes mean.
use Rattle.std.specs.Prelude.{ℕ, Ok, Some}
use Rattle.std.proofs.Common.{List, [], ◌∷◌, ◌++◌, map, refl, subst, sym}
use Rattle.npr_base.specs.Attributes.{AttributeStep, AttributeSteps}
use Rattle.npr_base.specs.Lists.{ReadsTo}
use Rattle.npr_base.specs.Framing.{Item, Front}
use Rattle.npr_base.specs.Family.{Writing, Reading}

module _ {A M : Type 0} {w : Writing M} (meaning : A → M) (family : Reading w) where
  pub steps-read : (xs : List A) (bs rest : List ℕ) → AttributeSteps meaning family bs xs rest → ReadsTo family.Reads bs (map meaning xs) rest
  steps-read [] bs rest p = ([], p, tt)
  steps-read (a ∷ xs) bs rest (more, (x, front, read), steps) =
      let (items, passes, each) = steps-read xs more rest steps in
      (x ∷ items, (more, front, passes), (read, each))

  pub steps-more : (xs : List A) (a : A) (bs rest more : List ℕ) → AttributeSteps meaning family bs xs rest
      → AttributeStep meaning family rest (Some (Ok a)) more → AttributeSteps meaning family bs (xs ++ a ∷ []) more
  steps-more [] a bs rest more is step = (more, subst (λ (b : List ℕ). AttributeStep meaning family b (Some (Ok a)) more) (sym is) step, refl)
  steps-more (b ∷ xs) a bs rest more (left, first, steps) step = (left, first, steps-more xs a left rest more steps step)

  -- steps up to an attribute begin at one
  pub steps-begin : (xs : List A) (bs rest more : List ℕ) (y : Item) → AttributeSteps meaning family bs xs rest → Front rest y more
      → (x : Item) × (left : List ℕ) × Front bs x left
  steps-begin [] bs rest more y is front = (y, more, subst (λ (b : List ℕ). Front b y more) (sym is) front)
  steps-begin (a ∷ xs) bs rest more y (left, (x, front, read), steps) last = (x, left, front)
