-- What governs a list of attributes: what the first of them tells that tells something, wherever it stands before a fault.
--     Tells, Governs       what governs bytes
--     Searches             a search through bytes: what it finds, and the looks that it takes
--     first_told           what the first meaning tells that tells something
use Rattle.std.specs.Prelude.{◌≡◌, ℕ, ◌<◌, ◌⊎◌, List, [], ◌∷◌, length, Option, Some, None, Result, Ok}
use Rattle.npr_base.specs.declared.refusal.DecodeError.{DecodeError}
use Rattle.npr_base.specs.Counts.{Counts, hit, looked}
use Rattle.npr_base.specs.Framing.{Item, Front, Passes, Fault, Step}
use Rattle.npr_base.specs.Lists.{AllOf}

-- no attribute stands in front: no bytes are left, or what is left is faulty
abbrev pub NoneInFront : List ℕ → Type 0
NoneInFront rest = (rest ≡ []) ⊎ ((e : DecodeError) × (0 < length rest) × Fault rest e)

-- the counts after a look at each of these attributes
abbrev pub hit_each : List Item → Counts → Counts
hit_each [] c = c
hit_each (x ∷ xs) c = hit_each xs (hit c)

abbrev pub or_else : {T : Type 0} → Option T → T → T
or_else (Some told) later = told
or_else None later = later

-- what the first meaning tells that tells something, or else the default
abbrev pub first_told : {M T : Type 0} → (M → Option T) → T → List M → T
first_told told default [] = default
first_told told default (m ∷ ms) = or_else (told m) (first_told told default ms)

module _ {T : Type 0} (tells : Item → Option T) (default : T) where
  -- what comes next tells it; where nothing comes, it is the default
  abbrev pub Tells : List ℕ → T → Type 0
  Tells rest t = ((x : Item) × (more : List ℕ) × Front rest x more × (tells x ≡ Some t)) ⊎ (NoneInFront rest × (t ≡ default))

  -- attributes that tell nothing, and then one that does, or the end; a fault only ends the search
  abbrev pub Governs : List ℕ → T → Type 0
  Governs bytes t = (before : List Item) × (rest : List ℕ) × Passes bytes before rest × AllOf (λ x. tells x ≡ None) before × Tells rest t

  -- the step at which a search ends: one that tells it, or none that finds an attribute
  abbrev pub EndsSearch : Option (Result Item DecodeError) → T → Type 0
  EndsSearch (Some (Ok x)) t = tells x ≡ Some t
  EndsSearch step t = t ≡ default

  -- it is looked for from the first byte on, and each look is counted: one at each attribute that tells nothing, and one at what
  -- the search ends at, if bytes are left there
  pub record Searches (bytes : List ℕ) (t : T) (old new : Counts) : Type 0 where
    pub before : List Item
    pub rest : List ℕ
    pub last : Option (Result Item DecodeError)
    pub left : List ℕ
    pub passes : Passes bytes before rest
    pub silent : AllOf (λ x. tells x ≡ None) before
    pub step : Step rest last left
    pub ends : EndsSearch last t
    pub looks : new ≡ looked last (hit_each before old)
