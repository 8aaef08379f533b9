-- What stops the check of attributes.
use Rattle.std.proofs.Common.{◌≡◌, ℕ, ◌<◌, ◌≤◌, List, [], ◌∷◌, length, refl, ap, arith, length-drop, inl, inr}
use Rattle.npr_base.specs.Framing.{Item, Front, Fault as NoneInFront}
use Rattle.npr_base.specs.declared.refusal.DecodeError.{DecodeError}
use Rattle.netlink_packet_route.specs.NestLists.{IsAttributeAt}
use Rattle.netlink_packet_route.specs.MessageKind.{header_size, Begins}
use Rattle.netlink_packet_route.specs.Nests.{reading_of}
use Rattle.netlink_packet_route.specs.Stops.{StopsAt}
use Rattle.netlink_packet_route.specs.declared.kind.MessageKind.{MessageKind}
use Rattle.netlink_packet_route.specs.declared.nests.Nest.{Nest}
use Rattle.netlink_packet_route.proofs.CanonicalAttributes.{begun-behind}

module _ (nest : Nest) (bytes : List ℕ) where
  pub stops-here : (e : DecodeError) → 0 < length bytes → NoneInFront bytes e → StopsAt nest bytes bytes e
  stops-here e left bad = ([], ([], refl, tt), inl (left, bad))

  module _ (x : Item) (more : List ℕ) (front : Front bytes x more) where
    pub stops-in : (e : DecodeError) → (reading_of nest).reading.Faulty x e → StopsAt nest bytes bytes e
    stops-in e bad = ([], ([], refl, tt), inr (x, more, front, bad))

    pub stops-later : (rest : List ℕ) (e : DecodeError) → IsAttributeAt nest x → StopsAt nest more rest e → StopsAt nest bytes rest e
    stops-later rest e (m, reads) (ms, (items, passes, each), bad) = (m ∷ ms, (x ∷ items, (more, front, passes), (reads, each)), bad)

-- the list of a message is no longer than the message
pub behind_short : (kind : MessageKind) (bytes : List ℕ) (nest : Nest) (rest : List ℕ) → Begins kind bytes nest rest → length rest ≤ length bytes
behind_short kind bytes nest rest begins =
    omega (arith, ap length (begun-behind kind bytes rest nest begins), length-drop (header_size kind) bytes)
