-- What a walk over attributes has passed.
use Rattle.std.specs.Prelude.{◌≢◌, ℕ, List, All}
use Rattle.netlink_packet_route.specs.Framing.{Item, number_of}

-- no attribute of this number
abbrev pub HasNone : ℕ → List Item → Type 0
HasNone number items = All (λ x. number_of x.kind ≢ number) items
