-- The attributes in canonical bytes.
use Rattle.std.specs.Prelude.{None}
use Rattle.std.proofs.Common.{◌≡◌, ℕ, ◌≤◌, List, length, drop, map, arith}
use Rattle.npr_base.specs.Family.{written_by}
use Rattle.npr_base.specs.Framing.{IsBytes, Cut}
use Rattle.npr_base.specs.Message.{IsMessage, canonical_bytes, message_unfit}
use Rattle.netlink_packet_route.proofs.CanonicalLaws.{cut-behind, header-there}
use Rattle.netlink_packet_route.specs.Canonical.{IsCanonical}
use Rattle.netlink_packet_route.specs.MessageKind.{Begins, MessageOf, form_of, header_size}
use Rattle.netlink_packet_route.specs.declared.kind.MessageKind.{MessageKind}
use Rattle.netlink_packet_route.specs.declared.nests.Nest.{Nest}

-- behind the header, canonical bytes are cut into the attributes as they are written
pub attributes-cut : (kind : MessageKind) (bytes : List ℕ) (m : MessageOf kind) → IsBytes bytes → IsMessage (form_of kind).grammar bytes m
    → message_unfit (form_of kind).grammar m ≡ None
    → Cut (drop (header_size kind) (canonical_bytes (form_of kind).grammar m)) (map (written_by (form_of kind).grammar.writing) m.attributes)
attributes-cut kind bytes m are is fits =
    let form = form_of kind in
    cut-behind form.grammar (form.own m) bytes m are is fits (form.coherent m)

-- where a header ends
pub begun-behind : (kind : MessageKind) (bytes rest : List ℕ) (nest : Nest) → Begins kind bytes nest rest → rest ≡ drop (header_size kind) bytes
begun-behind kind bytes rest nest begins = begins.is

-- how long it is
pub header-some : (kind : MessageKind) → 4 ≤ header_size kind
header-some kind = (form_of kind).some

-- canonical bytes begin with it
pub canonical-header : (kind : MessageKind) (bytes canonical : List ℕ) → IsBytes bytes → IsCanonical (form_of kind).grammar bytes canonical
    → header_size kind ≤ length canonical
canonical-header kind bytes canonical are is =
    omega (arith, header-there (form_of kind).grammar bytes canonical are is)
