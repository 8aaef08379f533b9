-- Values of attributes by their places in the bytes, and the lists that they hold.
use Rattle.std.specs.Prelude.{◌≡◌, ◌⊎◌, ◌<◌, ◌≤◌, ◌==◌, ℕ, ◌+◌, List, [], length, take, drop, Bool, true, false, if◌then◌else◌}
use Rattle.std.specs.Int.{w64, cast_unsigned}
use Rattle.netlink_packet_route.specs.Framing.{number_of}
use Rattle.netlink_packet_route.specs.MessageKind.{header_size, Begins}
use Rattle.netlink_packet_route.specs.Nests.{reading_of, IsInside, OfNextHop, holds_list}
use Rattle.netlink_packet_route.specs.Lists.{IsWrong}
use Rattle.netlink_packet_route.specs.Value.{Shown, is_number, is_signed, is_truth, is_address, is_name, are_bytes, is_structure, is_inside, is_nothing}
use Rattle.netlink_packet_route.specs.Values.{Seen, Unseen}
use Rattle.netlink_packet_route.specs.declared.framing.DecodeError.{DecodeError}
use Rattle.netlink_packet_route.specs.declared.framing.DecodeError.TheVariants.{HeaderTooShort}
use Rattle.netlink_packet_route.specs.declared.kind.MessageKind.{MessageKind}
use Rattle.netlink_packet_route.specs.declared.nests.Nest.{Nest}
use Rattle.netlink_packet_route.specs.Ip.{octets_of}
use Rattle.npr_c.specs.Nests.{nest_context, nest_of, nest_set, set_number}
use Rattle.npr_c.specs.Numbers.{refusal_number}
use Rattle.npr_c.specs.Steps.{FoundAt, item_of}
use Rattle.npr_c.specs.declared.steps.Step.{Step}
use Rattle.npr_c.specs.declared.values.ListStep.{ListStep}
use Rattle.npr_c.specs.declared.values.ValueStep.{ValueStep}

-- ---- values

-- a truth value as a number
abbrev pub truth : Bool → ℕ
truth true = 1
truth false = 0

-- the number of a form, where numbers tell theirs by their bytes
abbrev pub number_form : ℕ → ℕ
number_form size = if size == 1 then 1 else if size == 2 then 2 else if size == 4 then 3 else 4

abbrev pub form_number : Shown → ℕ
form_number is_nothing = 0
form_number (is_number size n) = number_form size
form_number (is_signed size z) = if size == 4 then 5 else 12
form_number (is_truth b) = 6
form_number (is_address a) = 7
form_number (is_name text) = 8
form_number (are_bytes b) = 9
form_number (is_structure b) = 10
form_number (is_inside b) = 11

-- a number, a signed one by its two's complement in eight bytes
abbrev pub integer_of : Shown → ℕ
integer_of (is_number size n) = n
integer_of (is_signed size z) = cast_unsigned w64 z
integer_of (is_truth b) = truth b
integer_of shown = 0

-- the bytes that stand there
abbrev pub bytes_of : Shown → List ℕ
bytes_of (is_address a) = octets_of a
bytes_of (is_name text) = text
bytes_of (are_bytes b) = b
bytes_of (is_structure b) = b
bytes_of (is_inside b) = b
bytes_of shown = []

abbrev pub length_of : Shown → ℕ
length_of (is_number size n) = size
length_of (is_signed size z) = size
length_of (is_truth b) = 1
length_of shown = length (bytes_of shown)

-- they stand from the place on, unless it is a number
abbrev pub Stands : List ℕ → ℕ → Shown → Type 0
Stands bytes place (is_number size n) = Unit {0}
Stands bytes place (is_signed size z) = Unit {0}
Stands bytes place (is_truth b) = Unit {0}
Stands bytes place shown = take (length_of shown) (drop place bytes) ≡ bytes_of shown

-- the attribute that stands at the place, and what it is seen as
pub record ValueFound (buffer : List ℕ) (at : ℕ) (nest : Nest) (v : ValueStep) : Type 0 where
  pub step : Step
  pub stands : FoundAt buffer at step
  pub status : v.status ≡ 0
  pub number : v.number ≡ 0
  pub kind : v.kind ≡ number_of step.kind
  pub family : v.family ≡ set_number ((reading_of nest).reading.seeing.form_at (number_of step.kind)).0.set
  pub value : v.value ≡ step.value
  pub next : v.next ≡ step.next
  pub shown : Shown
  pub seen : Seen (reading_of nest).reading (item_of buffer step) shown
  pub form : v.form ≡ form_number shown
  pub integer : v.integer ≡ integer_of shown
  pub length : v.length ≡ length_of shown
  pub bytes : Stands buffer v.value shown

-- a step that tells of none
abbrev pub no_value : ℕ → ℕ → ValueStep
no_value status number =
    record { status = status; number = number; family = 0; kind = 0; form = 0; integer = 0; value = 0; length = 0; next = 0 }

-- what a step over values answers
abbrev pub ValuesAt : List ℕ → ℕ → Nest → ValueStep → Type 0
ValuesAt bytes at nest v =
    ((length bytes ≤ at) × (v ≡ no_value 2 0))
    ⊎ ((e : DecodeError) × (at < length bytes) × IsWrong (Unseen (reading_of nest).reading) (drop at bytes) e × (v ≡ no_value 1 (refusal_number e)))
    ⊎ ValueFound bytes at nest v

-- ---- lists

-- that tells of none
abbrev pub no_list : ℕ → ℕ → ListStep
no_list status number = record { status = status; number = number; family = 0; context = 0; at = 0; end = 0 }

-- the bytes between two places
abbrev pub between : List ℕ → ℕ → ℕ → List ℕ
between bytes at end = drop at (take end bytes)

-- what names it, by its two numbers, which name it again; and where it stands
pub record ListFound (bytes : List ℕ) (list : ListStep) (Of : Nest → ℕ → ℕ → Type 0) : Type 0 where
  pub nest : Nest
  pub status : list.status ≡ 0
  pub number : list.number ≡ 0
  pub family : list.family ≡ nest_set nest
  pub context : list.context ≡ nest_context nest
  pub named : nest_of list.family list.context ≡ nest
  pub order : list.at ≤ list.end
  pub within : list.end ≤ length bytes
  pub of : Of nest list.at list.end

-- behind the header of a message, to its end
abbrev pub BeginsAt : MessageKind → List ℕ → ListStep → Type 0
BeginsAt kind bytes list =
    ((length bytes < header_size kind) × (list ≡ no_list 1 (refusal_number (HeaderTooShort (length bytes) (header_size kind)))))
    ⊎ ListFound bytes list (λ nest at end. (at ≡ header_size kind) × (end ≡ length bytes) × Begins kind bytes nest (between bytes at end))

-- in the value of the attribute that stands at the place: behind so many of its bytes, to its end
pub record StandsInside (outer : Nest) (step : Step) (bytes : List ℕ) (inner : Nest) (at end : ℕ) : Type 0 where
  pub inside : IsInside outer (number_of step.kind) (item_of bytes step).value inner (between bytes at end)
  pub begin : at ≡ step.value + inside.front
  pub end_is : end ≡ step.value + step.length

abbrev pub InsideAt : List ℕ → ℕ → Nest → ListStep → Type 0
InsideAt bytes at nest list =
    ((list ≡ no_list 2 0) × ((step : Step) → FoundAt bytes at step → holds_list nest (number_of step.kind) (item_of bytes step).value ≡ false))
    ⊎ ((step : Step) × FoundAt bytes at step × ListFound bytes list (StandsInside nest step bytes))

-- of a next hop whose attributes begin at the place, and end with the bytes
abbrev pub HopInside : List ℕ → ℕ → Nest → ListStep → Type 0
HopInside bytes at nest list =
    ((length bytes < at) × (list ≡ no_list 2 0))
    ⊎ ListFound bytes list (λ inner first end. (first ≡ at) × (end ≡ length bytes) × OfNextHop nest (drop at bytes) inner)
