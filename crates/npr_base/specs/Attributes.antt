-- Attributes read one after the other: what each step answers.
use Rattle.std.specs.Prelude.{◌≡◌, ◌≢◌, ℕ, List, [], ◌∷◌, Option, Some, None, Result, Ok, Err}
use Rattle.npr_base.specs.declared.refusal.DecodeError.{DecodeError}
use Rattle.npr_base.specs.declared.refusal.DecodeError.TheVariants.{OutOfMemory}
use Rattle.npr_base.specs.Lists.{IsWrong}
use Rattle.npr_base.specs.Framing.{Item, Front}
use Rattle.npr_base.specs.Family.{Writing, Reading}

-- one step, from the bytes that were left to those that are: the attribute that stands in front, what is wrong there, or the end
abbrev pub AttributeStep : {A M : Type 0} {w : Writing M} → (A → M) → Reading w → List ℕ → Option (Result A DecodeError) → List ℕ → Type 0
AttributeStep meaning family bytes None rest = (bytes ≡ []) × (rest ≡ [])
AttributeStep meaning family bytes (Some (Ok a)) rest = (x : Item) × Front bytes x rest × family.Reads x (meaning a)
AttributeStep meaning family bytes (Some (Err e)) rest =
    (e ≢ OutOfMemory → IsWrong family.Faulty bytes e) × (e ≡ OutOfMemory → (x : Item) × (more : List ℕ) × Front bytes x more) × (rest ≡ [])

-- steps that answer these attributes, one after the other, up to the bytes that are left
abbrev pub AttributeSteps : {A M : Type 0} {w : Writing M} → (A → M) → Reading w → List ℕ → List A → List ℕ → Type 0
AttributeSteps meaning family bytes [] rest = bytes ≡ rest
AttributeSteps meaning family bytes (a ∷ after) rest =
    (more : List ℕ) × AttributeStep meaning family bytes (Some (Ok a)) more × AttributeSteps meaning family more after rest
