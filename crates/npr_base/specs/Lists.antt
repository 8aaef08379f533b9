-- Lists of attributes of a family.
use Rattle.std.specs.Prelude.{Bool, ℕ, ◌+◌, ◌<◌, ◌^◌, ◌⊎◌, List, [], ◌∷◌, ◌++◌, length, Option, Some, None, Result, Ok, Err, nat_lt, if◌then◌else◌}
use Rattle.npr_base.specs.declared.refusal.DecodeError.{DecodeError}
use Rattle.npr_base.specs.declared.refusal.EmitError.{EmitError}
use Rattle.npr_base.specs.declared.refusal.EmitError.TheVariants.{TooLong, Total}
use Rattle.npr_base.specs.Framing.{Item, Front, Passes, Fault, encoding, framed}

-- what a check answers
abbrev pub checked : Option EmitError → ℕ → Result ℕ EmitError
checked None len = Ok len
checked (Some e) len = Err e

-- the first of two causes
abbrev pub option_or : {A : Type 0} → Option A → Option A → Option A
option_or (Some x) o = Some x
option_or None o = o

-- a length that no usize holds
abbrev pub overlong : ℕ → Option EmitError
overlong n = if nat_lt n (2 ^ 64) then None else Some Total

-- 16 bits hold the length of header and value
abbrev pub is_short : ℕ → Bool
is_short len = nat_lt len 65532

-- the length of the encoding, where they do
abbrev pub short_framed : ℕ → Option ℕ
short_framed len = if is_short len then Some (framed len) else None

-- a value that is too long for a text
abbrev pub too_long : ℕ → ℕ → Option EmitError
too_long kind len = if is_short len then None else if nat_lt len (2 ^ 64) then Some (TooLong kind len) else Some Total

-- why an attribute can't be written, if so: the cause inside it, or its length
abbrev pub unfit_of : Option EmitError → Item → Option EmitError
unfit_of unfit x = option_or unfit (too_long x.kind (length x.value))

-- place by place
abbrev pub Each : {A B : Type 0} → (A → B → Type 0) → List A → List B → Type 0
Each R [] [] = Unit {0}
Each R (x ∷ xs) (y ∷ ys) = R x y × Each R xs ys
Each R [] (y ∷ ys) = ⊥
Each R (x ∷ xs) [] = ⊥

-- each of them
abbrev pub AllOf : {A : Type 0} → (A → Type 0) → List A → Type 0
AllOf P [] = Unit {0}
AllOf P (x ∷ xs) = P x × AllOf P xs

-- a front of the bytes reads so, and then the rest follows
abbrev pub ReadsTo : {M : Type 0} → (Item → M → Type 0) → List ℕ → List M → List ℕ → Type 0
ReadsTo reads bytes xs rest = (items : List Item) × Passes bytes items rest × Each reads items xs

-- the bytes are cut into attributes that read so
abbrev pub ReadsList : {M : Type 0} → (Item → M → Type 0) → List ℕ → List M → Type 0
ReadsList reads bytes xs = ReadsTo reads bytes xs []

-- what comes next is wrong: no attribute stands in front, or its value is faulty
abbrev pub IsWrong : (Item → DecodeError → Type 0) → List ℕ → DecodeError → Type 0
IsWrong faulty rest e = ((0 < length rest) × Fault rest e) ⊎ ((x : Item) × (more : List ℕ) × Front rest x more × faulty x e)

-- attributes that read are followed by what is wrong
abbrev pub FirstFault : {M : Type 0} → (Item → M → Type 0) → (Item → DecodeError → Type 0) → List ℕ → DecodeError → Type 0
FirstFault {M} reads faulty bytes e = (xs : List M) × (rest : List ℕ) × ReadsTo reads bytes xs rest × IsWrong faulty rest e

-- the texts of each, one after the other
abbrev pub joined : {A : Type 0} → (A → List ℕ) → List A → List ℕ
joined text [] = []
joined text (x ∷ xs) = text x ++ joined text xs

abbrev pub encodings : {A : Type 0} → (A → Item) → List A → List ℕ
encodings item = joined (λ x. encoding (item x))

-- the first that can't be written
abbrev pub first_unfit : {A : Type 0} → (A → Option EmitError) → List A → Option EmitError
first_unfit unfit [] = None
first_unfit unfit (x ∷ xs) = option_or (unfit x) (first_unfit unfit xs)

-- the first member that can't be written, or the length of all
abbrev pub list_unfit : {A : Type 0} → (A → Option EmitError) → (A → Item) → List A → Option EmitError
list_unfit unfit item xs = option_or (first_unfit unfit xs) (overlong (length (encodings item xs)))

-- the members of a list, and those inside them
abbrev pub list_members : {A : Type 0} → (A → ℕ) → List A → ℕ
list_members members [] = 0
list_members members (x ∷ xs) = 1 + members x + list_members members xs
