-- One step over attributes, by its place in the bytes, and the search for one of a number.
use Rattle.std.specs.Prelude.{◌≡◌, ◌≢◌, ◌⊎◌, ◌<◌, ◌≤◌, ℕ, ◌+◌, List, length, take, drop, All}
use Rattle.netlink_packet_route.specs.Framing.{Item, Front, Fault, Passes, number_of}
use Rattle.netlink_packet_route.specs.declared.framing.DecodeError.{DecodeError}
use Rattle.npr_c.specs.Numbers.{refusal_number}
use Rattle.npr_c.specs.declared.steps.Step.{Step}

-- the attribute that the step tells of: its kind, and the bytes at the place of its value
abbrev pub item_of : List ℕ → Step → Item
item_of bytes step = record { kind = step.kind; value = take step.length (drop step.value bytes) }

-- an attribute stands at the place: it, and the bytes from the next place on
pub record FoundAt (bytes : List ℕ) (at : ℕ) (step : Step) : Type 0 where
  pub status : step.status ≡ 0
  pub number : step.number ≡ 0
  pub front : Front (drop at bytes) (item_of bytes step) (drop step.next bytes)
  pub place : step.value ≡ at + 4
  pub within : step.value + step.length ≤ step.next
  pub end : step.next ≤ length bytes

-- what a step answers
abbrev pub StepsAt : List ℕ → ℕ → Step → Type 0
StepsAt bytes at step =
    ((length bytes ≤ at) × (step ≡ record { status = 2; number = 0; value = 0; length = 0; next = 0; kind = 0 }))
    ⊎ ((e : DecodeError) × (at < length bytes) × Fault (drop at bytes) e
    × (step ≡ record { status = 1; number = refusal_number e; value = 0; length = 0; next = 0; kind = 0 }))
    ⊎ FoundAt bytes at step

-- attributes of other numbers stand from one place up to another
pub record Others (bytes : List ℕ) (at number place : ℕ) : Type 0 where
  pub passed : List Item
  pub passes : Passes (drop at bytes) passed (drop place bytes)
  pub others : All (λ x. number_of x.kind ≢ number) passed

-- what a search answers: behind attributes of other numbers, one of this number, the fault, or the end
pub record FindsAt (bytes : List ℕ) (at number : ℕ) (step : Step) : Type 0 where
  pub place : ℕ
  pub others : Others bytes at number place
  pub stands : StepsAt bytes place step
  pub found : step.status ≡ 0 → number_of step.kind ≡ number
