-- Where in a message the first fault stands: behind attributes that read, in the list of the message.
use Rattle.std.specs.Prelude.{◌≡◌, ◌≢◌, ◌⊎◌, ℕ, ◌+◌, List, length, drop, Option, Some, None}
use Rattle.npr_base.specs.Framing.{Item}
use Rattle.npr_base.specs.Lists.{ReadsTo, IsWrong}
use Rattle.npr_base.specs.declared.attribute_set.At.{At}
use Rattle.npr_base.specs.declared.refusal.DecodeError.{DecodeError}
use Rattle.npr_base.specs.declared.refusal.DecodeError.TheVariants.{ValueLength}
use Rattle.npr_base.specs.declared.value.Form.{Form}
use Rattle.npr_base.specs.declared.attribute_set.AttributeSet.{AttributeSet}
use Rattle.npr_base.specs.declared.attribute_set.AttributeSet.TheVariants.{Encap}
use Rattle.npr_names.specs.Refusals.{Fronts, lengths_told}
use Rattle.netlink_packet_route.specs.MessageKind.{Begins}
use Rattle.netlink_packet_route.specs.Nests.{listed, nest_in, reading_of, told_set}
use Rattle.netlink_packet_route.specs.declared.kind.MessageKind.{MessageKind}
use Rattle.netlink_packet_route.specs.declared.nests.Nest.{Nest}

-- attributes that read, up to the rest, in front of which something is wrong
abbrev pub StopsBefore : {M : Type 0} → (Item → M → Type 0) → (Item → DecodeError → Type 0) → List ℕ → List ℕ → DecodeError → Type 0
StopsBefore {M} reads faulty bytes rest e = (xs : List M) × ReadsTo reads bytes xs rest × IsWrong faulty rest e

-- those of a list
abbrev pub StopsAt : Nest → List ℕ → List ℕ → DecodeError → Type 0
StopsAt nest bytes rest e = StopsBefore (reading_of nest).reading.Reads (reading_of nest).reading.Faulty bytes rest e

-- behind the header of the kind attributes read in the list that it begins, up to the rest, which stands at the offset in the message
pub record StandsIn (kind : MessageKind) (bytes : List ℕ) (offset : ℕ) (e : DecodeError) : Type 0 where
  pub nest : Nest
  pub behind : List ℕ
  pub begins : Begins kind bytes nest behind
  pub rest : List ℕ
  pub place : length bytes ≡ offset + length rest
  pub stops : StopsAt nest behind rest e

-- how the value of an attribute is read, in a message with this list
abbrev pub form_at : Nest → At → Form
form_at nest at = ((reading_of (nest_in (listed at.set) nest.context)).reading.seeing.form_at at.number).1

-- the set is that of an encapsulation, and not of the one that this list holds, as in a next hop
abbrev pub IsApart : Nest → AttributeSet → Type 0
IsApart nest set = (nest.set ≡ Encap) × (told_set nest.set nest.context ≢ set)

-- the lengths of the value of an attribute, in a message with this list: those of values that are read as it is. None where it may
-- have more, or is in another encapsulation
abbrev pub AreLengths : Nest → At → Option (ℕ × ℕ) → Type 0
AreLengths nest at (Some lengths) = (IsApart (nest_in (listed at.set) nest.context) at.set → ⊥) × (lengths_told (form_at nest at) ≡ Some lengths)
AreLengths nest at None = IsApart (nest_in (listed at.set) nest.context) at.set ⊎ (lengths_told (form_at nest at) ≡ None)

-- those of a value of which a refusal tells another length
abbrev pub AreWanted : Nest → DecodeError → Option (ℕ × ℕ) → Type 0
AreWanted nest (ValueLength at got) wanted = AreLengths nest at wanted
AreWanted nest _ wanted = wanted ≡ None

-- the attribute in front of bytes of a list, by the set that refusals name; none where none stands there
abbrev pub IsHolder : Nest → List ℕ → Option At → Type 0
IsHolder nest bytes None = (number : ℕ) → Fronts bytes number → ⊥
IsHolder nest bytes (Some at) = (at.set ≡ told_set nest.set nest.context) × Fronts bytes at.number

-- that of a message, so many bytes from its first; none where these are fewer than its header
pub record IsHolderIn (kind : MessageKind) (bytes : List ℕ) (offset : ℕ) (holder : Option At) : Type 0 where
  pub nest : Nest
  pub behind : List ℕ
  pub begins : Begins kind bytes nest behind
  pub is : IsHolder nest (drop offset bytes) holder

-- the lengths are those that the value may have in the list of the message
pub record AreWantedIn (kind : MessageKind) (bytes : List ℕ) (refusal : DecodeError) (wanted : Option (ℕ × ℕ)) : Type 0 where
  pub nest : Nest
  pub behind : List ℕ
  pub begins : Begins kind bytes nest behind
  pub are : AreWanted nest refusal wanted
