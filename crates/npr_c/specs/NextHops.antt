-- One step over next hops, by its place in the bytes.
use Rattle.std.specs.Prelude.{◌≡◌, ◌⊎◌, ◌<◌, ◌≤◌, ℕ, ◌+◌, ◌-◌, List, length, take, drop}
use Rattle.netlink_packet_route.specs.RouteAttribute.{HopHead, HopFront, HopFault}
use Rattle.netlink_packet_route.specs.declared.framing.DecodeError.{DecodeError}
use Rattle.npr_c.specs.Numbers.{refusal_number}
use Rattle.npr_c.specs.declared.next_hops.NextHop.{NextHop}

-- the header of the next hop that the step tells of, and the bytes between its places
abbrev pub head_of : NextHop → HopHead
head_of step = record { flags = step.flags; hops = step.hops; interface_index = step.interface_index }

abbrev pub inside_of : List ℕ → NextHop → List ℕ
inside_of bytes step = take (step.end - step.attributes) (drop step.attributes bytes)

-- a next hop stands at the place: it, and the bytes from the next place on
pub record HopAt (bytes : List ℕ) (at : ℕ) (step : NextHop) : Type 0 where
  pub status : step.status ≡ 0
  pub number : step.number ≡ 0
  pub front : HopFront (drop at bytes) (head_of step) (inside_of bytes step) (drop step.next bytes)
  pub place : step.attributes ≡ at + 8
  pub order : step.attributes ≤ step.end
  pub within : step.end ≤ step.next
  pub last : step.next ≤ length bytes

-- a step that tells of none
abbrev pub no_hop : ℕ → ℕ → NextHop
no_hop status number = record { status = status; number = number; interface_index = 0; flags = 0; hops = 0; attributes = 0; end = 0; next = 0 }

-- what a step answers
abbrev pub HopsAt : List ℕ → ℕ → NextHop → Type 0
HopsAt bytes at step =
    ((length bytes ≤ at) × (step ≡ no_hop 2 0))
    ⊎ ((e : DecodeError) × (at < length bytes) × HopFault (drop at bytes) e × (step ≡ no_hop 1 (refusal_number e)))
    ⊎ HopAt bytes at step
