-- Walks over the attributes that bytes are cut into: the steps, and the looks at headers.
use Rattle.std.specs.Prelude.{◌≡◌, ℕ, ◌+◌, ◌-◌, ◌%◌, ◌≤◌, ◌⊎◌, List, [], ◌∷◌, ◌++◌, length, map, Some, Result, Ok, Err}
use Rattle.npr_base.specs.Counts.{Counts, most_successful, most_failed}
use Rattle.npr_base.specs.Lists.{ReadsList}
use Rattle.npr_base.specs.Framing.{Item, Passes, Cut, Stops, Step}
use Rattle.npr_base.specs.declared.refusal.DecodeError.{DecodeError}

-- steps of a walk, one after the other, from the bytes to what is left of them
abbrev pub Steps : List ℕ → List (Result Item DecodeError) → List ℕ → Type 0
Steps bytes [] rest = bytes ≡ rest
Steps bytes (s ∷ steps) rest = (more : List ℕ) × Step bytes (Some s) more × Steps more steps rest

-- what a walk answers where it finds these attributes
abbrev pub found : List Item → List (Result Item DecodeError)
found items = map (λ x. Ok x) items

-- the steps find attributes up to the rest, or all those before a stop and then the fault
abbrev pub Finds : List ℕ → List (Result Item DecodeError) → List ℕ → List Item → Type 0
Finds bytes steps rest items =
    ((steps ≡ found items) × Passes bytes items rest) ⊎ ((e : DecodeError) × (steps ≡ found items ++ Err e ∷ []) × Stops bytes items e × (rest ≡ []))

-- what a reading has passed of a list, and what it has added to the counts: the looks that found a header and the
-- attributes that were passed are together at most what the bytes passed allow
pub record Walked (bytes : List ℕ) (old new : Counts) : Type 0 where
  pub passed : List Item
  pub rest : List ℕ
  pub passes : Passes bytes passed rest
  pub kept : old.successful ≤ new.successful
  pub successful : new.successful + length passed ≤ old.successful + most_successful (length bytes - length rest)
  pub failed_kept : old.failed ≤ new.failed
  pub failed : new.failed ≤ old.failed + most_failed (length bytes)

-- what a search through the bytes adds to the counts: a look at each attribute that it passed, and one that failed at most, and
-- none where the bytes are attributes to the end
pub record Searched (bytes : List ℕ) (old new : Counts) : Type 0 where
  pub passed : List Item
  pub rest : List ℕ
  pub passes : Passes bytes passed rest
  pub kept : old.successful ≤ new.successful
  pub successful : new.successful ≤ old.successful + length passed
  pub failed_kept : old.failed ≤ new.failed
  pub failed : new.failed ≤ old.failed + 1
  pub whole : (items : List Item) → Cut bytes items → new.failed ≡ old.failed

-- a list whose beginning is a multiple of four bytes, and is cut into attributes by itself, is the list of that beginning
-- and then the list of the rest
abbrev pub CutsInTwo : {M : Type 0} → (Item → M → Type 0) → Type 0
CutsInTwo {M} reads =
    (first second : List ℕ) (items : List Item) (xs : List M) → length first % 4 ≡ 0 → Cut first items → ReadsList reads (first ++ second) xs
    → (ys : List M) × (zs : List M) × (xs ≡ ys ++ zs) × ReadsList reads first ys × ReadsList reads second zs
