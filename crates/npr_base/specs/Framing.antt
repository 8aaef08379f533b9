-- How bytes are cut into attributes (linux/netlink.h, struct nlattr).
use Rattle.std.specs.Prelude.{◌≡◌, ℕ, ◌+◌, ◌-◌, ◌%◌, ◌^◌, ◌<◌, ◌≤◌, ◌⊎◌, Bool, List, [], ◌∷◌, ◌++◌, length, take}
use Rattle.std.specs.Prelude.{drop, slice_index, replicate, Option, Some, None, Result, Ok, Err, if◌then◌else◌}
use Rattle.std.specs.Int.{w16, to_le_bytes, from_le_bytes}
use Rattle.npr_base.specs.declared.refusal.DecodeError.{DecodeError}
use Rattle.npr_base.specs.declared.refusal.DecodeError.TheVariants.{AttributeTooShort, AttributeLength}

-- an attribute: its kind with both flags, and the bytes of its value
pub record Item : Type 0 where
  pub kind : ℕ
  pub value : List ℕ

-- the number of a kind, without the two flags
abbrev pub number_of : ℕ → ℕ
number_of kind = kind % 2 ^ 14

-- the kind with the NESTED flag, which is bit 15, where it is wanted
abbrev pub marked : Bool → ℕ → ℕ
marked nested kind = if nested then 2 ^ 15 + kind % 2 ^ 15 else kind

-- the attribute under that kind
abbrev pub written : Bool → Item → Item
written nested x = record { kind = marked nested x.kind; value = x.value }

-- what the header of an attribute can say: two bytes of kind, and two of a length that counts four bytes of header
pub record Small (x : Item) : Type 0 where
  pub kind : x.kind < 2 ^ 16
  pub value : length x.value ≤ 65531

-- bytes of a program
abbrev pub IsBytes : List ℕ → Type 0
IsBytes bs = (i : ℕ) → slice_index bs i < 256

-- an attribute of a program
pub record Proper (x : Item) : Type 0 where
  pub kind : x.kind < 2 ^ 16
  pub value : IsBytes x.value

-- how many bytes bring a length to a multiple of four
abbrev pub pad : ℕ → ℕ
pad n = (4 - n % 4) % 4

-- the attribute with some padding
abbrev pub padded : Item → List ℕ → List ℕ
padded x padding = to_le_bytes w16 (4 + length x.value) ++ to_le_bytes w16 x.kind ++ x.value ++ padding

-- the attribute with some padding stands in front of the rest; padding is whole where anything follows
pub record Front (bytes : List ℕ) (x : Item) (rest : List ℕ) : Type 0 where
  pub padding : List ℕ
  pub is : bytes ≡ padded x padding ++ rest
  pub small : Small x
  pub most : length padding ≤ pad (length x.value)
  pub whole : 0 < length rest → length padding ≡ pad (length x.value)

-- the attributes stand one after the other, and then the rest
abbrev pub Passes : List ℕ → List Item → List ℕ → Type 0
Passes bytes [] rest = bytes ≡ rest
Passes bytes (x ∷ xs) rest = (more : List ℕ) × Front bytes x more × Passes more xs rest

-- the bytes are the attributes
abbrev pub Cut : List ℕ → List Item → Type 0
Cut bytes xs = Passes bytes xs []

-- why no attribute stands in front: fewer bytes than a header, or a length that can't be
abbrev pub Fault : List ℕ → DecodeError → Type 0
Fault r (AttributeTooShort got) = (got ≡ length r) × (length r < 4)
Fault r (AttributeLength l left) = (left ≡ length r) × (4 ≤ length r) × (l ≡ from_le_bytes w16 (take 2 r)) × ((l < 4) ⊎ (length r < l))
Fault r _ = ⊥

-- the attributes, and then bytes in front of which none stands
abbrev pub Stops : List ℕ → List Item → DecodeError → Type 0
Stops bytes xs e = (rest : List ℕ) × Passes bytes xs rest × (0 < length rest) × Fault rest e

-- one look at a header in front of the bytes
abbrev pub Begins : List ℕ → Result Item DecodeError → Type 0
Begins bytes (Ok x) = Small x × ((rest : List ℕ) × (bytes ≡ padded x [] ++ rest))
Begins bytes (Err e) = Fault bytes e

-- one step of a walk, from the bytes that were left to those that are
abbrev pub Step : List ℕ → Option (Result Item DecodeError) → List ℕ → Type 0
Step bytes None rest = (bytes ≡ []) × (rest ≡ [])
Step bytes (Some (Ok x)) rest = Front bytes x rest
Step bytes (Some (Err e)) rest = (0 < length bytes) × Fault bytes e × (rest ≡ [])

-- the one that is written: padding is whole and zero
abbrev pub encoding : Item → List ℕ
encoding x = padded x (replicate (pad (length x.value)) 0)

-- its length, by the length of the value
abbrev pub framed : ℕ → ℕ
framed n = 4 + (n + pad n)

-- the bytes stand at the front of the slice, and the rest of it is as it was
abbrev pub Writes : List ℕ → List ℕ → List ℕ → Type 0
Writes old new bytes = new ≡ bytes ++ drop (length bytes) old
