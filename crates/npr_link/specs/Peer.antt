-- The other end of a pair, as a request for the pair has it (linux/veth.h, VETH_INFO_PEER): a header of a link, and attributes to the
-- end.
use Rattle.std.proofs.Common.{ℕ, List, map, Option}
use Rattle.npr_base.specs.Codec.{Codec}
use Rattle.npr_base.specs.declared.attribute_set.AttributeSet.TheVariants.{Peer as AtPeer}
use Rattle.npr_base.specs.declared.refusal.EmitError.{EmitError}
use Rattle.npr_base.specs.Message.{Grammar, View}
use Rattle.npr_base.specs.MessageValue.{value_grammar, value_bytes, value_unfit, message_value}
use Rattle.npr_link.specs.Header.{header, default_header}
use Rattle.npr_link.specs.PeerAttribute as OfAttribute
use Rattle.npr_link.specs.declared.header.LinkHeader.{LinkHeader}
use Rattle.npr_link.specs.declared.peer.LinkPeer.{LinkPeer}
use Rattle.npr_link.specs.declared.peer_attribute.PeerAttribute.{PeerAttribute}

abbrev pub peers : Grammar LinkHeader PeerAttribute
peers = value_grammar OfAttribute.family header default_header

-- one, without where it lies in memory
abbrev pub peer_of : LinkPeer → View peers
peer_of p = record { header = p.header; attributes = map OfAttribute.family.meaning p.attributes.items }

-- what is written, and why it can't be, if so
abbrev pub peer_bytes : View peers → List ℕ
peer_bytes = value_bytes OfAttribute.family header default_header

abbrev pub peer_unfit : View peers → Option EmitError
peer_unfit = value_unfit OfAttribute.family header default_header

abbrev pub peer : Codec (View peers)
peer = message_value OfAttribute.family header default_header AtPeer
