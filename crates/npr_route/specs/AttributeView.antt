-- What a value of the program is, without where it lies in memory.
use Rattle.std.specs.Prelude.{ℕ, List, [], ◌∷◌, map, Option}
use Rattle.npr_base.specs.declared.refusal.EmitError.{EmitError}
use Rattle.npr_base.specs.Framing.{Item}
use Rattle.npr_base.specs.Family.{Family, family_of}
use Rattle.npr_route_values.specs.RouteAddress.{address_of}
use Rattle.npr_route_values.specs.RouteFlags.{next_hop_flag_bits}
use Rattle.npr_route_values.specs.RouteVia.{via_of}
use Rattle.npr_encapsulation.specs.Encapsulation as OfEncap
use Rattle.npr_route.specs.Metric.{family as metric_family}
use Rattle.npr_route.specs.FlatAttribute as Flat
use Rattle.npr_route.specs.FlatAttribute.{Context}
use Rattle.npr_route.specs.AttributeFamily.{attributes}
use Rattle.npr_route.specs.Attribute.{Meaning, flat, multi_path, attributes_of, Hops, no_hops, hop, Hop, writes, meaning_unfit}
use Rattle.npr_route.specs.Attribute.{hop_bytes, hop_unfit}
use Rattle.npr_route.specs.declared.attribute.RouteAttribute.{RouteAttribute, fold-RouteAttribute}
use Rattle.npr_route.specs.declared.attribute.RouteAttribute.TheOpen as Open
use Rattle.npr_route.specs.declared.next_hops.RouteNextHop.{RouteNextHop, RouteNextHop-F, fold-RouteNextHop}

abbrev pub hops_of : List Hop → Hops
hops_of [] = no_hops
hops_of (h ∷ hs) = hop h.head h.attributes (hops_of hs)

-- one layer of an attribute, over what stands inside it
abbrev pub attribute_step : Open.RouteAttribute-F Meaning Hop → Meaning
attribute_step (Open.Destination a) = flat (Flat.destination (address_of a))
attribute_step (Open.Source a) = flat (Flat.source (address_of a))
attribute_step (Open.Iif a) = flat (Flat.iif a)
attribute_step (Open.Oif a) = flat (Flat.oif a)
attribute_step (Open.Gateway a) = flat (Flat.gateway (address_of a))
attribute_step (Open.Priority a) = flat (Flat.priority a)
attribute_step (Open.PrefSource a) = flat (Flat.pref_source (address_of a))
attribute_step (Open.Metrics a) = flat (Flat.metrics (map metric_family.meaning a.items))
attribute_step (Open.MultiPath a) = multi_path (hops_of a.items)
attribute_step (Open.Realm a) = flat (Flat.realm a)
attribute_step (Open.CacheInfo a) = flat (Flat.cache_info a)
attribute_step (Open.Table a) = flat (Flat.table a)
attribute_step (Open.Mark a) = flat (Flat.mark a)
attribute_step (Open.MfcStats a) = flat (Flat.mfc_stats a)
attribute_step (Open.Via a) = flat (Flat.via (via_of a))
attribute_step (Open.NewDestination a) = flat (Flat.new_destination a.items)
attribute_step (Open.NewDestinationAddress a) = flat (Flat.new_destination_address (address_of a))
attribute_step (Open.Preference a) = flat (Flat.preference a)
attribute_step (Open.EncapType a) = flat (Flat.encap_type a)
attribute_step (Open.Encap a) = flat (Flat.encap (map OfEncap.meaning_of a.items))
attribute_step (Open.Expires a) = flat (Flat.expires a)
attribute_step (Open.MulticastExpires a) = flat (Flat.multicast_expires a)
attribute_step (Open.Uid a) = flat (Flat.uid a)
attribute_step (Open.TtlPropagate a) = flat (Flat.ttl_propagate a)
attribute_step (Open.IpProto a) = flat (Flat.ip_proto a)
attribute_step (Open.Sport a) = flat (Flat.sport a)
attribute_step (Open.Dport a) = flat (Flat.dport a)
attribute_step (Open.NhId a) = flat (Flat.nh_id a)
attribute_step (Open.Flowlabel a) = flat (Flat.flowlabel a)
attribute_step (Open.Other d) = flat (Flat.other d)

-- and of a next hop
abbrev pub hop_step : RouteNextHop-F Meaning Hop → Hop
hop_step h = record {
  head = record { flags = next_hop_flag_bits.number h.flags; hops = h.hops; interface_index = h.interface_index };
  attributes = attributes_of h.attributes.items;
}

abbrev pub meaning_of : RouteAttribute → Meaning
meaning_of = fold-RouteAttribute Meaning Hop attribute_step hop_step

abbrev pub hop_of : RouteNextHop → Hop
hop_of = fold-RouteNextHop Meaning Hop attribute_step hop_step

-- the family of route attributes
abbrev pub family : Family RouteAttribute Context
family = family_of meaning_of attributes

-- what is written of a value, and why it can't be
abbrev pub attribute_item : RouteAttribute → Item
attribute_item a = writes (meaning_of a)

abbrev pub attribute_unfit : RouteAttribute → Option EmitError
attribute_unfit a = meaning_unfit (meaning_of a)

abbrev pub next_hop_bytes : RouteNextHop → List ℕ
next_hop_bytes h = hop_bytes (hop_of h)

abbrev pub next_hop_unfit : RouteNextHop → Option EmitError
next_hop_unfit h = hop_unfit (hop_of h)
