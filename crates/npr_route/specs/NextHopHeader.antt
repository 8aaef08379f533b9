-- The header of a next hop (linux/rtnetlink.h, struct rtnexthop): a length of two bytes, flags, hops, and an index of four.
use Rattle.std.proofs.Common.{refl}
use Rattle.std.specs.Prelude.{◌≡◌, ◌≤◌, List, ℕ, length, take}
use Rattle.npr_base.specs.Fields.{one_byte, le_two, le_four, ◌fills◌, ◌then◌, last, structure}
use Rattle.npr_base.specs.Layout.{Layout}
use Rattle.npr_route.specs.Attribute.{HopHead}
use Rattle.npr_route.specs.contracts.next_hop_buffer.RouteNextHopBuffer.{struct}
use Rattle.npr_route.specs.declared.next_hop_buffer.RouteNextHopBuffer.{RouteNextHopBuffer}

-- in this order, little endian
abbrev pub next_hop_buffer : Layout RouteNextHopBuffer
next_hop_buffer =
    structure struct
    (RouteNextHopBuffer.length fills le_two then RouteNextHopBuffer.flags fills one_byte then RouteNextHopBuffer.hops fills one_byte
    then last (RouteNextHopBuffer.interface_index fills le_four)) refl (λ v. tt)

-- the header in front, whose length lies within the bytes
abbrev pub IsChecked : List ℕ → RouteNextHopBuffer → Type 0
IsChecked bytes h = (h ≡ next_hop_buffer.decode (take 8 bytes)) × (8 ≤ h.length) × (h.length ≤ length bytes)

-- the fields of a header but its length
abbrev pub head_in : RouteNextHopBuffer → HopHead
head_in b = record { flags = b.flags; hops = b.hops; interface_index = b.interface_index }
