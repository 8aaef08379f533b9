-- The attributes of a route message but next hops (linux/rtnetlink.h, RTA_*), by their table under the header.
use Rattle.std.specs.Prelude.{◌≡◌, ◌≢◌, ℕ, ◌<◌, ◌^◌, Bool, true, false, List, [], ◌∷◌, map, if◌then◌else◌}
use Rattle.npr_base.specs.declared.attribute_set.AttributeSet.TheVariants.{Route as OfRoute, Metric as AtMetric, Encap as AtEncap}
use Rattle.npr_base.specs.declared.address_family.AddressFamily.{AddressFamily}
use Rattle.npr_base.specs.Framing.{Item}
use Rattle.npr_base.specs.Layout.{Layout, byte, le32, le64, be16, be32}
use Rattle.npr_base.specs.Codec.{Codec, exactly, leading, no_members}
use Rattle.npr_base.specs.ListCodec.{list_of}
use Rattle.npr_base.specs.Family.{Reading, Writing}
use Rattle.npr_base.specs.Table.{Row, row, Slot, slot_plain, slot_marked, slot_other, IsSlot}
use Rattle.npr_base.specs.Table.{writing_by}
use Rattle.npr_route_values.specs.MplsCodec.{mpls_labels}
use Rattle.npr_route_values.specs.Realm.{route_realm}
use Rattle.npr_route_values.specs.RouteAddress.{Address as AddressMeaning, address_in, Form, four, sixteen, label, any}
use Rattle.npr_route_values.specs.RouteCacheInfo.{route_cache_info}
use Rattle.npr_route_values.specs.RouteMfcStats.{route_mfc_stats}
use Rattle.npr_route_values.specs.RoutePreference.{route_preference}
use Rattle.npr_route_values.specs.RouteVia.{Via as ViaMeaning, via_value}
use Rattle.npr_route_values.specs.TtlPropagation.{ttl_propagation}
use Rattle.npr_route_values.specs.declared.cache_info.RouteCacheInfo.{RouteCacheInfo}
use Rattle.npr_route_values.specs.declared.route_type.RouteType.{RouteType}
use Rattle.npr_route_values.specs.declared.route_type.RouteType.TheVariants.{Multicast}
use Rattle.npr_route_values.specs.declared.mfc_stats.RouteMfcStats.{RouteMfcStats}
use Rattle.npr_route_values.specs.declared.mpls.MplsLabel.{MplsLabel}
use Rattle.npr_route_values.specs.declared.preference.RouteMplsTtlPropagation.{RouteMplsTtlPropagation}
use Rattle.npr_route_values.specs.declared.preference.RoutePreference.{RoutePreference}
use Rattle.npr_route_values.specs.declared.realm.RouteRealm.{RouteRealm}
use Rattle.npr_encapsulation.specs.EncapType.{encap_type as encap_type_layout}
use Rattle.npr_encapsulation.specs.Encapsulation as OfEncap
use Rattle.npr_encapsulation.specs.IpTunnel as OfIp
use Rattle.npr_encapsulation.specs.declared.encap_type.RouteLwEnCapType.{RouteLwEnCapType}
use Rattle.npr_encapsulation.specs.declared.encap_type.RouteLwEnCapType.TheVariants.{None as NoEncapsulation}
use Rattle.npr_route.specs.Metric.{family as metric_family, attributes as metric_attributes}

-- what an attribute without next hops is
pub data Meaning : Type 0 where
  destination : AddressMeaning → Meaning
  source : AddressMeaning → Meaning
  iif : ℕ → Meaning
  oif : ℕ → Meaning
  gateway : AddressMeaning → Meaning
  priority : ℕ → Meaning
  pref_source : AddressMeaning → Meaning
  metrics : List metric_family.Meaning → Meaning
  realm : RouteRealm → Meaning
  cache_info : RouteCacheInfo → Meaning
  table : ℕ → Meaning
  mark : ℕ → Meaning
  mfc_stats : RouteMfcStats → Meaning
  via : ViaMeaning → Meaning
  new_destination : List MplsLabel → Meaning
  new_destination_address : AddressMeaning → Meaning
  preference : RoutePreference → Meaning
  encap_type : RouteLwEnCapType → Meaning
  encap : List OfEncap.Meaning → Meaning
  expires : ℕ → Meaning
  multicast_expires : ℕ → Meaning
  uid : ℕ → Meaning
  ttl_propagate : RouteMplsTtlPropagation → Meaning
  ip_proto : ℕ → Meaning
  sport : ℕ → Meaning
  dport : ℕ → Meaning
  nh_id : ℕ → Meaning
  flowlabel : ℕ → Meaning
  other : Item → Meaning

-- a route type counts by its variant
abbrev pub is_multicast : RouteType → Bool
is_multicast Multicast = true
is_multicast kind = false

-- what the reading of an attribute rests on besides its bytes: the family and the type of the
-- message's header, and the type that governs its encapsulation
abbrev pub Context : Type 0
Context = AddressFamily × RouteType × RouteLwEnCapType

-- number 8: metrics
abbrev pub metrics_row : Row Meaning
metrics_row = row OfRoute 8 (list_of AtMetric metric_attributes) metrics

-- number 19: labels for family mpls, else an address
abbrev pub NewDestinationValue : Form → Type 0
NewDestinationValue four = AddressMeaning
NewDestinationValue sixteen = AddressMeaning
NewDestinationValue label = List MplsLabel
NewDestinationValue any = AddressMeaning

abbrev pub new_destination_value : (form : Form) → Codec (NewDestinationValue form)
new_destination_value four = address_in four
new_destination_value sixteen = address_in sixteen
new_destination_value label = mpls_labels
new_destination_value any = address_in any

-- whatever the form, no attributes stand inside
abbrev pub new_destination_codec : (form : Form) → Codec (NewDestinationValue form)
new_destination_codec form = record (new_destination_value form) { members = no_members }

abbrev pub new_destination_variant : (form : Form) → NewDestinationValue form → Meaning
new_destination_variant four a = new_destination_address a
new_destination_variant sixteen a = new_destination_address a
new_destination_variant label a = new_destination a
new_destination_variant any a = new_destination_address a

abbrev pub new_destination_row : Form → Row Meaning
new_destination_row form = row OfRoute 19 (new_destination_codec form) (new_destination_variant form)

-- number 23: eight bytes of a multicast route, else four
abbrev pub expires_layout : Bool → Layout ℕ
expires_layout true = le64
expires_layout false = le32

abbrev pub expires_variant : Bool → ℕ → Meaning
expires_variant true n = multicast_expires n
expires_variant false n = expires n

abbrev pub expires_row : Bool → Row Meaning
expires_row multicast = row OfRoute 23 (exactly (expires_layout multicast)) (expires_variant multicast)

-- number 22: members of the family of the type that governs
abbrev pub encap_row : Reading OfEncap.writing → Row Meaning
encap_row family = row OfRoute 22 (list_of AtEncap family) encap

-- the members beside which it is written with NESTED
abbrev pub marks : OfEncap.Meaning → Bool
marks (OfEncap.seg6 m) = true
marks (OfEncap.xfrm m) = true
marks (OfEncap.rpl m) = true
marks (OfEncap.ioam6 m) = true
marks (OfEncap.ip m) = OfIp.has_options m
marks (OfEncap.ip6 m) = OfIp.has_options m
marks m = false

abbrev pub any_marks : List OfEncap.Meaning → Bool
any_marks [] = false
any_marks (m ∷ ms) = if marks m then true else any_marks ms

-- the table
abbrev pub rows : Form → Bool → Reading OfEncap.writing → List (Row Meaning)
rows form multicast family =
    row OfRoute 1 (address_in form) destination
    ∷ row OfRoute 2 (address_in form) source
    ∷ row OfRoute 3 (exactly le32) iif
    ∷ row OfRoute 4 (exactly le32) oif
    ∷ row OfRoute 5 (address_in form) gateway
    ∷ row OfRoute 6 (exactly le32) priority
    ∷ row OfRoute 7 (address_in form) pref_source
    ∷ metrics_row
    ∷ row OfRoute 11 (exactly route_realm) realm
    ∷ row OfRoute 12 (leading route_cache_info) cache_info
    ∷ row OfRoute 15 (exactly le32) table
    ∷ row OfRoute 16 (exactly le32) mark
    ∷ row OfRoute 17 (leading route_mfc_stats) mfc_stats
    ∷ row OfRoute 18 via_value via
    ∷ new_destination_row form
    ∷ row OfRoute 20 (exactly route_preference) preference
    ∷ row OfRoute 21 (exactly encap_type_layout) encap_type
    ∷ encap_row family
    ∷ expires_row multicast
    ∷ row OfRoute 25 (exactly le32) uid
    ∷ row OfRoute 26 (exactly ttl_propagation) ttl_propagate
    ∷ row OfRoute 27 (exactly byte) ip_proto
    ∷ row OfRoute 28 (exactly be16) sport
    ∷ row OfRoute 29 (exactly be16) dport
    ∷ row OfRoute 30 (exactly le32) nh_id
    ∷ row OfRoute 31 (exactly be32) flowlabel
    ∷ []

-- how each meaning is written, whatever the context
abbrev pub slot_of : Meaning → Slot
slot_of (destination a) = slot_plain 1 (address_in any) a
slot_of (source a) = slot_plain 2 (address_in any) a
slot_of (iif a) = slot_plain 3 (exactly le32) a
slot_of (oif a) = slot_plain 4 (exactly le32) a
slot_of (gateway a) = slot_plain 5 (address_in any) a
slot_of (priority a) = slot_plain 6 (exactly le32) a
slot_of (pref_source a) = slot_plain 7 (address_in any) a
slot_of (metrics a) = slot_plain 8 (list_of AtMetric metric_attributes) a
slot_of (realm a) = slot_plain 11 (exactly route_realm) a
slot_of (cache_info a) = slot_plain 12 (leading route_cache_info) a
slot_of (table a) = slot_plain 15 (exactly le32) a
slot_of (mark a) = slot_plain 16 (exactly le32) a
slot_of (mfc_stats a) = slot_plain 17 (leading route_mfc_stats) a
slot_of (via a) = slot_plain 18 via_value a
slot_of (new_destination a) = slot_plain 19 mpls_labels a
slot_of (new_destination_address a) = slot_plain 19 (address_in any) a
slot_of (preference a) = slot_plain 20 (exactly route_preference) a
slot_of (encap_type a) = slot_plain 21 (exactly encap_type_layout) a
slot_of (encap a) = slot_marked (any_marks a) 22 (list_of AtEncap (OfEncap.encapsulation NoEncapsulation)) a
slot_of (expires a) = slot_plain 23 (exactly le32) a
slot_of (multicast_expires a) = slot_plain 23 (exactly le64) a
slot_of (uid a) = slot_plain 25 (exactly le32) a
slot_of (ttl_propagate a) = slot_plain 26 (exactly ttl_propagation) a
slot_of (ip_proto a) = slot_plain 27 (exactly byte) a
slot_of (sport a) = slot_plain 28 (exactly be16) a
slot_of (dport a) = slot_plain 29 (exactly be16) a
slot_of (nh_id a) = slot_plain 30 (exactly le32) a
slot_of (flowlabel a) = slot_plain 31 (exactly be32) a
slot_of (other x) = slot_other x

-- what can be read
abbrev pub Coherent : Form → Bool → Reading OfEncap.writing → Meaning → Type 0
Coherent form multicast family (destination a) = (address_in form).Holds a
Coherent form multicast family (source a) = (address_in form).Holds a
Coherent form multicast family (gateway a) = (address_in form).Holds a
Coherent form multicast family (pref_source a) = (address_in form).Holds a
Coherent form multicast family (new_destination a) = (form ≡ label) × mpls_labels.Holds a
Coherent form multicast family (new_destination_address a) = (form ≢ label) × (address_in form).Holds a
Coherent form multicast family (encap xs) = (list_of AtEncap family).Holds xs
Coherent form multicast family (expires n) = (multicast ≡ false) × (n < 2 ^ 32)
Coherent form multicast family (multicast_expires n) = (multicast ≡ true) × (n < 2 ^ 64)
Coherent form multicast family m = IsSlot (rows form multicast family) (slot_of m)

-- the attribute with each SEG6 header of its encapsulation brought up to the table of modes of today
abbrev pub normalized : Meaning → Meaning
normalized (encap xs) = encap (map OfEncap.normalized xs)
normalized m = m

-- how each is written, whatever the context
abbrev pub writing : Writing Meaning
writing = writing_by slot_of
