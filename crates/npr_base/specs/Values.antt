-- Attributes whose values are seen one after the other in the bytes: what each step answers.
--     Seen, Unseen       what an attribute shows, and why it shows nothing
--     ValueStep          one step: the place and the value of the attribute that stands in front, what is wrong there, or the end
--     ValueSteps         steps that answer values, one after the other
--     SeenAs             the values are what attributes are seen as that the bytes mean
use Rattle.std.specs.Prelude.{◌≡◌, ℕ, List, [], ◌∷◌, Option, Some, None, Result, Ok, Err}
use Rattle.npr_base.specs.declared.attribute_set.At.{At}
use Rattle.npr_base.specs.declared.refusal.DecodeError.{DecodeError}
use Rattle.npr_base.specs.declared.value.Value.{Value}
use Rattle.npr_base.specs.Family.{Writing, Reading}
use Rattle.npr_base.specs.Framing.{Item, Front, number_of}
use Rattle.npr_base.specs.Lists.{IsWrong}
use Rattle.npr_base.specs.Value.{Shown, is_inside, shown, Shows, Misshown}

-- the value of an attribute, and why there is none
abbrev pub Seen : {M : Type 0} {w : Writing M} → Reading w → Item → Shown → Type 0
Seen f x s = Shows (f.seeing.form_at (number_of x.kind)).1 x.value s

abbrev pub Unseen : {M : Type 0} {w : Writing M} → Reading w → Item → DecodeError → Type 0
Unseen f x e = let form = f.seeing.form_at (number_of x.kind) in Misshown form.1 form.0 x.value e

-- one step, from the bytes that were left to those that are
abbrev pub ValueStep : {M : Type 0} {w : Writing M} → Reading w → List ℕ → Option (Result (At × Value) DecodeError) → List ℕ → Type 0
ValueStep f bytes None rest = (bytes ≡ []) × (rest ≡ [])
ValueStep f bytes (Some (Ok v)) rest =
    (x : Item) × Front bytes x rest × (v.0 ≡ (f.seeing.form_at (number_of x.kind)).0) × Seen f x (shown v.1)
ValueStep f bytes (Some (Err e)) rest = IsWrong (Unseen f) bytes e × (rest ≡ [])

-- steps that answer these values, up to the bytes that are left
abbrev pub ValueSteps : {M : Type 0} {w : Writing M} → Reading w → List ℕ → List (At × Value) → List ℕ → Type 0
ValueSteps f bytes [] rest = bytes ≡ rest
ValueSteps f bytes (v ∷ after) rest = (more : List ℕ) × ValueStep f bytes (Some (Ok v)) more × ValueSteps f more after rest

-- the values are what these attributes are seen as, each where it stands and by its place
abbrev pub SeenAs : {M : Type 0} {w : Writing M} → Reading w → List ℕ → List (At × Value) → List M → Type 0
SeenAs f bytes [] [] = Unit {0}
SeenAs f bytes (v ∷ values) (m ∷ ms) =
    (x : Item) × (more : List ℕ) × Front bytes x more × f.Reads x m × (v.0 ≡ (f.seeing.form_at (number_of x.kind)).0)
    × (shown v.1 ≡ f.seeing.sees x m) × SeenAs f more values ms
SeenAs f bytes [] (m ∷ ms) = ⊥
SeenAs f bytes (v ∷ values) [] = ⊥

-- the value is read, and not left to a reader of its own
abbrev pub IsRead : Shown → Type 0
IsRead (is_inside b) = ⊥
IsRead s = Unit {0}
