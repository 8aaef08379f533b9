-- The attributes of a link message (linux/if_link.h, IFLA_*), by their table under the header's family.
use Rattle.npr_base.specs.declared.attribute_set.AttributeSet.TheVariants.{Link as AtLink, LinkXdp as AtXdp, Prop as AtProp, LinkProtocolDownReason as AtReason}
use Rattle.npr_base.specs.declared.attribute_set.AttributeSet.TheVariants.{LinkVfInfo as AtVfInfo, LinkVfPort as AtVfPort, VfPort as AtPort}
use Rattle.npr_base.specs.declared.attribute_set.AttributeSet.TheVariants.{LinkDpllPin as AtPin}
use Rattle.std.specs.Prelude.{◌≡◌, ℕ, ◌==◌, ◌||◌, ◌⊎◌, Bool, true, false, List, drop, map, if◌then◌else◌}
use Rattle.std.proofs.Common.{inl, inr, ap, ◌∙◌}
use Rattle.npr_base.specs.Beside.{beside, has, numbers-in, Sides, side_writing}
use Rattle.npr_base.specs.declared.address_family.AddressFamily.{AddressFamily}
use Rattle.npr_base.specs.Counts.{Counts}
use Rattle.npr_base.specs.declared.refusal.DecodeError.{DecodeError}
use Rattle.npr_base.specs.EnumTable.{VariantRows, Names, IsNamed, MeaningIn, meaning_in, shape_in, numbered, ReadsIn, WrongIn, looks_in}
use Rattle.npr_base.specs.EnumTable.{writing_in}
use Rattle.npr_base.specs.EnumFamily.{attributes_in, rewritten}
use Rattle.npr_base.specs.lemmas.EnumTable.{shape-in}
use Rattle.npr_base.specs.Family.{Writing, Shape, family_of, written_as, written_by}
use Rattle.npr_base.specs.Framing.{Item, number_of}
use Rattle.npr_base.specs.LeftOut.{retold}
use Rattle.npr_base.specs.Refusal.{at_number}
use Rattle.npr_base.specs.Tables.{marked_row, row, others, ◌or◌, boolean, byte, exactly, items, le16, le32, leading, list_of, listed, name, raw, seen}
use Rattle.npr_base.specs.Tables.{signed32, text, uint, value, refl, Reading, Family}
use Rattle.npr_base.specs.declared.attribute_set.At.{At}
use Rattle.npr_base.specs.declared.value.Form.{Form as ValueForm}
use Rattle.npr_link.specs.AfSpec as OfAfSpec
use Rattle.npr_link.specs.AfSpecInet6 as OfAfSpecInet6
use Rattle.npr_link.specs.AfSpecs.{AfSpecs, Form, as_list, form_of, unspec, bridge, unknown, af_specs}
use Rattle.npr_link.specs.DpllPin as OfPin
use Rattle.npr_link.specs.ExtentMask.{extent_mask}
use Rattle.npr_link.specs.Info as OfInfo
use Rattle.npr_link.specs.InfoList.{info_list}
use Rattle.npr_link.specs.LinkEvent.{link_event}
use Rattle.npr_link.specs.LinkMode.{link_mode}
use Rattle.npr_link.specs.Map.{device_map}
use Rattle.npr_link_functions.specs.LinkVfInfo as OfVfInfo
use Rattle.npr_link_functions.specs.LinkVfPort as OfVfPort
use Rattle.npr_link_functions.specs.VfPort as OfPort
use Rattle.npr_link_statistics.specs.Grown.{grown, parts}
use Rattle.npr_link_statistics.specs.Names.{stats, stats64}
use Rattle.npr_base.specs.Words.{words32, words64}
use Rattle.npr_link.specs.Prop as OfProp
use Rattle.npr_link.specs.ProtoInfos.{ProtoInfos, inet6 as proto_inet6, bridge as proto_bridge, unknown as proto_unknown}
use Rattle.npr_link.specs.ProtoInfos.{Form as ProtoForm, as_inet6, as_bridge as as_bridge_port, as_whole, form_of as proto_form_of}
use Rattle.npr_link.specs.ProtoInfos.{proto_infos, shown_as, kept-number, writing as proto_writing}
use Rattle.npr_link.specs.ProtocolDown as OfReason
use Rattle.npr_link.specs.State.{state}
use Rattle.npr_link.specs.Xdp as OfXdp
use Rattle.npr_link_bridge.specs.AfSpecBridge as OfAfSpecBridge
use Rattle.npr_link_bridge.specs.BridgePort as OfBridgePort
use Rattle.npr_link.specs.contracts.attribute.LinkAttribute.{enum}
use Rattle.npr_link.specs.declared.attribute.LinkAttribute.{LinkAttribute}
use denote.Enum.Declared.{Choice}
use denote.Struct.Field.{Field}

-- the variants but the first five: what the protocol says, which has a number of its own, and two that share the row of the sixth
abbrev pub later : List (List Field)
later = drop 5 enum.parts

-- those that stand for themselves
abbrev pub flat : List (List Field)
flat = drop 7 enum.parts

-- their rows, in the order of the variants
abbrev pub flat_rows : VariantRows flat × Names LinkAttribute flat
flat_rows =
    row AtLink 1 raw (items LinkAttribute.Address)  -- IFLA_ADDRESS
    or row AtLink 2 raw (items LinkAttribute.Broadcast)  -- IFLA_BROADCAST
    or row AtLink 3 name (text LinkAttribute.IfName)  -- IFLA_IFNAME
    or row AtLink 4 (exactly le32) (value LinkAttribute.Mtu)  -- IFLA_MTU
    or row AtLink 5 (exactly le32) (value LinkAttribute.Link)  -- IFLA_LINK
    or row AtLink 6 name (text LinkAttribute.Qdisc)  -- IFLA_QDISC
    or row AtLink 7 (grown words32 stats) (seen (parts stats) LinkAttribute.Stats)  -- IFLA_STATS
    or row AtLink 10 (exactly le32) (value LinkAttribute.Controller)  -- IFLA_MASTER
    or row AtLink 13 (exactly le32) (value LinkAttribute.TxQueueLen)  -- IFLA_TXQLEN
    or row AtLink 14 (leading device_map) (value LinkAttribute.Map)  -- IFLA_MAP
    or row AtLink 16 (exactly state) (value LinkAttribute.OperState)  -- IFLA_OPERSTATE
    or row AtLink 17 (exactly link_mode) (value LinkAttribute.Mode)  -- IFLA_LINKMODE
    or row AtLink 19 (exactly le32) (value LinkAttribute.NetNsPid)  -- IFLA_NET_NS_PID
    or row AtLink 20 name (text LinkAttribute.IfAlias)  -- IFLA_IFALIAS
    or row AtLink 21 (exactly le32) (value LinkAttribute.NumVf)  -- IFLA_NUM_VF
    or row AtLink 23 (grown words64 stats64) (seen (parts stats64) LinkAttribute.Stats64)  -- IFLA_STATS64
    or row AtLink 27 (exactly le32) (value LinkAttribute.Group)  -- IFLA_GROUP
    or row AtLink 28 (exactly signed32) (value LinkAttribute.NetNsFd)  -- IFLA_NET_NS_FD
    or row AtLink 29 (exactly extent_mask) (value LinkAttribute.ExtMask)  -- IFLA_EXT_MASK
    or row AtLink 30 (exactly le32) (value LinkAttribute.Promiscuity)  -- IFLA_PROMISCUITY
    or row AtLink 31 (exactly le32) (value LinkAttribute.NumTxQueues)  -- IFLA_NUM_TX_QUEUES
    or row AtLink 32 (exactly le32) (value LinkAttribute.NumRxQueues)  -- IFLA_NUM_RX_QUEUES
    or row AtLink 33 (exactly byte) (value LinkAttribute.Carrier)  -- IFLA_CARRIER
    or row AtLink 34 raw (items LinkAttribute.PhysPortId)  -- IFLA_PHYS_PORT_ID
    or row AtLink 35 (exactly le32) (value LinkAttribute.CarrierChanges)  -- IFLA_CARRIER_CHANGES
    or row AtLink 36 raw (items LinkAttribute.PhysSwitchId)  -- IFLA_PHYS_SWITCH_ID
    or row AtLink 37 (exactly signed32) (value LinkAttribute.LinkNetNsId)  -- IFLA_LINK_NETNSID
    or row AtLink 38 name (text LinkAttribute.PhysPortName)  -- IFLA_PHYS_PORT_NAME
    or row AtLink 39 (exactly byte) (value LinkAttribute.ProtoDown)  -- IFLA_PROTO_DOWN
    or row AtLink 40 (exactly le32) (value LinkAttribute.GsoMaxSegs)  -- IFLA_GSO_MAX_SEGS
    or row AtLink 41 (exactly le32) (value LinkAttribute.GsoMaxSize)  -- IFLA_GSO_MAX_SIZE
    or row AtLink 43 (list_of AtXdp OfXdp.attributes) (listed OfXdp.family.meaning LinkAttribute.Xdp)  -- IFLA_XDP
    or row AtLink 44 (exactly link_event) (value LinkAttribute.Event)  -- IFLA_EVENT
    or row AtLink 45 (exactly signed32) (value LinkAttribute.NewNetnsId)  -- IFLA_NEW_NETNSID
    or row AtLink 46 (exactly signed32) (value LinkAttribute.IfNetnsId)  -- IFLA_IF_NETNSID
    or row AtLink 47 (exactly le32) (value LinkAttribute.CarrierUpCount)  -- IFLA_CARRIER_UP_COUNT
    or row AtLink 48 (exactly le32) (value LinkAttribute.CarrierDownCount)  -- IFLA_CARRIER_DOWN_COUNT
    or row AtLink 49 (exactly signed32) (value LinkAttribute.NewIfIndex)  -- IFLA_NEW_IFINDEX
    or row AtLink 50 (exactly le32) (value LinkAttribute.MinMtu)  -- IFLA_MIN_MTU
    or row AtLink 51 (exactly le32) (value LinkAttribute.MaxMtu)  -- IFLA_MAX_MTU
    or marked_row AtLink 52 (list_of AtProp OfProp.attributes) (listed OfProp.family.meaning LinkAttribute.PropList)  -- IFLA_PROP_LIST
    or row AtLink 53 name (text LinkAttribute.AltIfName)  -- IFLA_ALT_IFNAME
    or row AtLink 54 raw (items LinkAttribute.PermAddress)  -- IFLA_PERM_ADDRESS
    or marked_row AtLink 55 (list_of AtReason OfReason.attributes) (listed OfReason.family.meaning LinkAttribute.ProtoDownReason)  -- IFLA_PROTO_DOWN_REASON
    or row AtLink 56 name (text LinkAttribute.ParentDevName)  -- IFLA_PARENT_DEV_NAME
    or row AtLink 57 name (text LinkAttribute.ParentDevBusName)  -- IFLA_PARENT_DEV_BUS_NAME
    or row AtLink 58 (exactly le32) (value LinkAttribute.GroMaxSize)  -- IFLA_GRO_MAX_SIZE
    or row AtLink 59 (exactly le32) (value LinkAttribute.TsoMaxSize)  -- IFLA_TSO_MAX_SIZE
    or row AtLink 60 (exactly le32) (value LinkAttribute.TsoMaxSegs)  -- IFLA_TSO_MAX_SEGS
    or row AtLink 61 (exactly le32) (value LinkAttribute.AllMulti)  -- IFLA_ALLMULTI
    or row AtLink 63 (exactly le32) (value LinkAttribute.GsoIpv4MaxSize)  -- IFLA_GSO_IPV4_MAX_SIZE
    or row AtLink 64 (exactly le32) (value LinkAttribute.GroIpv4MaxSize)  -- IFLA_GRO_IPV4_MAX_SIZE
    or row AtLink 66 uint (value LinkAttribute.MaxPacingOffloadHorizon)  -- IFLA_MAX_PACING_OFFLOAD_HORIZON
    or row AtLink 67 (exactly boolean) (value LinkAttribute.NetnsImmutable)  -- IFLA_NETNS_IMMUTABLE
    or row AtLink 68 (exactly le16) (value LinkAttribute.Headroom)  -- IFLA_HEADROOM
    or row AtLink 69 (exactly le16) (value LinkAttribute.Tailroom)  -- IFLA_TAILROOM
    or row AtLink 11 raw (items LinkAttribute.Wireless)  -- IFLA_WIRELESS
    or row AtLink 15 (exactly le32) (value LinkAttribute.Weight)  -- IFLA_WEIGHT
    or row AtLink 22 (list_of AtVfInfo OfVfInfo.attributes) (listed OfVfInfo.family.meaning LinkAttribute.VfInfoList)  -- IFLA_VFINFO_LIST
    or row AtLink 24 (list_of AtVfPort OfVfPort.attributes) (listed OfVfPort.family.meaning LinkAttribute.VfPorts)  -- IFLA_VF_PORTS
    or row AtLink 25 (list_of AtPort OfPort.attributes) (listed OfPort.family.meaning LinkAttribute.PortSelf)  -- IFLA_PORT_SELF
    or marked_row AtLink 62 raw (items LinkAttribute.DevlinkPort)  -- IFLA_DEVLINK_PORT
    or marked_row AtLink 65 (list_of AtPin OfPin.attributes) (listed OfPin.family.meaning LinkAttribute.DpllPin)  -- IFLA_DPLL_PIN
    or others (value LinkAttribute.Other)

-- all rows but that of what the protocol says; two more variants share the first of them
abbrev pub rows : Form → VariantRows later × Names LinkAttribute later
rows form =
    row AtLink 26 (af_specs form) (λ f. unknown f.0.items, λ f. LinkAttribute.AfSpecUnknown f.0)  -- IFLA_AF_SPEC
    or row AtLink 18 info_list (listed OfInfo.family.meaning LinkAttribute.LinkInfo)  -- IFLA_LINKINFO
    or flat_rows

-- the numbers are apart, and the names at their places
pub apart : (form : Form) → numbered later (rows form).0 ≡ true
apart form = refl

pub named : IsNamed enum (
  λ f. LinkAttribute.ProtoInfoInet6 f.0,
  (
    λ f. LinkAttribute.ProtoInfoBridge f.0,
    (
      λ f. LinkAttribute.ProtoInfoUnknown f.0,
      (λ f. LinkAttribute.AfSpecUnspec f.0, (λ f. LinkAttribute.AfSpecBridge f.0, (rows as_list).1)),
    ),
  ),
)
named = refl

-- what an attribute is, without where it lies in memory
abbrev pub Rest : Type 0
Rest = MeaningIn later (rows as_list).0

abbrev pub Meaning : Type 0
Meaning = ProtoInfos ⊎ Rest

abbrev pub meaning_of : Choice enum.parts → Meaning
meaning_of (inl f) = inl (proto_inet6 (map OfAfSpecInet6.family.meaning f.0.items))
meaning_of (inr (inl f)) = inl (proto_bridge (map OfBridgePort.family.meaning f.0.items))
meaning_of (inr (inr (inl f))) = inl (proto_unknown f.0)
meaning_of (inr (inr (inr (inl f)))) = inr (inl (unspec (map OfAfSpec.family.meaning f.0.items)))
meaning_of (inr (inr (inr (inr (inl f))))) = inr (inl (bridge (map OfAfSpecBridge.family.meaning f.0.items)))
meaning_of (inr (inr (inr (inr (inr c))))) = inr (meaning_in later (rows as_list).0 c)

abbrev pub meaning : LinkAttribute → Meaning
meaning a = meaning_of (enum.as_values a)

-- how each is written, whatever the family of the header
abbrev pub rest_writing : Writing Rest
rest_writing = writing_in later (rows as_list).0

abbrev pub writing : Writing Meaning
writing = side_writing proto_writing rest_writing

pub shapes : (form : Form) (m : Rest) → rest_writing.shape m ≡ (writing_in later (rows form).0).shape m
shapes form (inl x) = refl
shapes form (inr m) = refl

pub members : (form : Form) (m : Rest) → rest_writing.members m ≡ (writing_in later (rows form).0).members m
members form (inl x) = refl
members form (inr m) = refl

-- by the variant
abbrev pub shape_of : Choice enum.parts → Shape
shape_of (inl f) = writing.shape (meaning_of (inl f))
shape_of (inr (inl f)) = writing.shape (meaning_of (inr (inl f)))
shape_of (inr (inr (inl f))) = writing.shape (meaning_of (inr (inr (inl f))))
shape_of (inr (inr (inr (inl f)))) = writing.shape (meaning_of (inr (inr (inr (inl f)))))
shape_of (inr (inr (inr (inr (inl f))))) = writing.shape (meaning_of (inr (inr (inr (inr (inl f))))))
shape_of (inr (inr (inr (inr (inr c))))) = shape_in later (rows as_list).0 c

written-of : (c : Choice enum.parts) → shape_of c ≡ writing.shape (meaning_of c)
written-of (inl f) = refl
written-of (inr (inl f)) = refl
written-of (inr (inr (inl f))) = refl
written-of (inr (inr (inr (inl f)))) = refl
written-of (inr (inr (inr (inr (inl f))))) = refl
written-of (inr (inr (inr (inr (inr c))))) = shape-in later (rows as_list).0 c

abbrev pub shape : LinkAttribute → Shape
shape a = shape_of (enum.as_values a)

pub shape-by : (a : LinkAttribute) → shape a ≡ writing.shape (meaning a)
shape-by a = written-of (enum.as_values a)

-- what attributes of all other numbers mean
abbrev pub rest : Form → Reading rest_writing
rest form = rewritten (attributes_in later (rows form).0 (apart form)) rest_writing (shapes form) (members form)

pub other-numbers : (form : Form) (x : Item) (m : Rest) → has 12 x ≡ false → (rest form).Reads x m → has 12 (written_by rest_writing m) ≡ false
other-numbers form x m other reads =
    ap (λ (n : ℕ). n == 12)
    (ap (λ (s : Shape). number_of (written_as s).kind) (shapes form m) ∙ numbers-in later (rows form).0 (apart form) x m reads) ∙ other

pub sides : (proto : ProtoForm) (form : Form) → Sides 12 (proto_infos proto) (rest form)
sides proto form = record { own = kept-number proto; others = other-numbers form }

abbrev pub reading : ProtoForm → Form → Reading writing
reading proto form = beside 12 (proto_infos proto) (rest form) (sides proto form)

-- how a value is read without memory, by its number
abbrev pub told : ProtoForm → Form → ℕ → At × ValueForm
told proto form number = if number == 12 then (at_number AtLink 12, shown_as proto) else (rest form).seeing.form_at number

pub told-same : (proto : ProtoForm) (form : Form) (number : ℕ) → told proto form number ≡ (reading proto form).seeing.form_at number
told-same as_inet6 form number = refl
told-same as_bridge_port form number = refl
told-same as_whole form number = refl

-- the family, under an address family
abbrev pub attributes : AddressFamily → Reading writing
attributes family =
    let proto = proto_form_of family in
    let form = form_of family in
    retold (reading proto form) (told proto form) (told-same proto form)

abbrev pub family : Family LinkAttribute AddressFamily
family = family_of meaning attributes

-- ---- of the rows that stand for themselves: what an attribute of a number means by them, why it means nothing, and the looks
-- that it takes

abbrev pub FlatReads : ℕ → Item → Meaning → Type 0
FlatReads number x (inr (inr (inr m))) = ReadsIn flat flat_rows.0 number x m
FlatReads number x m = ⊥

unfoldable pub IsFlat : ℕ → Item → LinkAttribute → Type 0
IsFlat number x a = FlatReads number x (meaning a)

unfoldable pub FlatFault : ℕ → Item → DecodeError → Type 0
FlatFault number x e = WrongIn flat flat_rows.0 number x e

unfoldable pub FlatLooks : Item → Counts → Counts → Type 0
FlatLooks x old new = (looks_in flat flat_rows.0).Takes x old new

-- the numbers of those with attributes inside
abbrev pub is_list : ℕ → Bool
is_list number = number == 22 || (number == 24 || (number == 25 || (number == 43 || (number == 52 || (number == 55 || number == 65)))))

-- ---- and of the others: what the protocol and address families say is meant

unfoldable pub MeansProtoInfos : LinkAttribute → ProtoInfos → Type 0
MeansProtoInfos a x = meaning a ≡ inl x

unfoldable pub MeansAfSpecs : LinkAttribute → AfSpecs → Type 0
MeansAfSpecs a x = meaning a ≡ inr (inl x)

-- and what a driver says
unfoldable pub MeansInfo : LinkAttribute → List OfInfo.Meaning → Type 0
MeansInfo a x = meaning a ≡ inr (inr (inl x))
