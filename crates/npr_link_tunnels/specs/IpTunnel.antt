-- The data of a tunnel of IP (linux/if_tunnel.h, IFLA_IPTUN_*), by the table under what governs the data of the link.
use Rattle.std.specs.Prelude.{◌≡◌, ℕ, ◌==◌, Bool, true, false, List, drop, Option, Some, None, if◌then◌else◌}
use Rattle.std.proofs.Common.{inl, inr, refl, sym, ap}
use Rattle.std.proofs.lemmas.Bool.{eqb-true}
use Rattle.npr_base.specs.EnumTable.{VariantRows, Names, IsNamed, MeaningIn, meaning_in, other_in, shape_in, numbered, ReadsIn, WrongIn, form_in}
use Rattle.npr_base.specs.EnumTable.{writing_in}
use Rattle.npr_base.specs.EnumFamily.{attributes_in, rewritten}
use Rattle.npr_base.specs.lemmas.EnumTable.{shape-in}
use Rattle.npr_base.specs.Family.{Writing, Shape, family_of}
use Rattle.npr_base.specs.Framing.{Item, number_of}
use Rattle.npr_base.specs.Refusal.{at_number}
use Rattle.npr_base.specs.Tables.{row, others, ◌or◌, be16, be32, boolean, byte, exactly, flag, ip, le16, le32, octets4, octets16, seen, value, Reading, Family}
use Rattle.npr_base.specs.declared.attribute_set.At.{At}
use Rattle.npr_base.specs.declared.attribute_set.AttributeSet.TheVariants.{InfoIpTunnel as AtIpTunnel}
use Rattle.npr_base.specs.declared.refusal.DecodeError.{DecodeError}
use Rattle.npr_base.specs.declared.value.Form.{Form}
use Rattle.npr_route_values.specs.IpProtocolByte.{ip_protocol_byte}
use Rattle.npr_base.specs.LeftOut.{left_out, retold}
use Rattle.npr_link_tunnels.specs.TunnelEncapFlags.{tunnel_encap_flags}
use Rattle.npr_link_tunnels.specs.TunnelEncapType.{tunnel_encap_type}
use Rattle.npr_link_tunnels.specs.TunnelFlags.{Flags, ipv4_flags, sit_flags, ipv6_flags, Kind, ipip, kind_of, flags_in, flags_form}
use Rattle.npr_link_tunnels.specs.contracts.ip_tunnel.InfoIpTunnel.{enum}
use Rattle.npr_link_tunnels.specs.declared.form.InfoForm.{InfoForm}
use Rattle.npr_link_tunnels.specs.declared.ip_tunnel.InfoIpTunnel.{InfoIpTunnel}
use denote.Enum.Declared.{Choice}
use denote.Struct.Field.{Field}

-- the variants but the first two, flags that have the row of the third
abbrev pub later : List (List Field)
later = drop 2 enum.parts

-- those that stand for themselves
abbrev pub flat : List (List Field)
flat = drop 3 enum.parts

-- their rows, in the order of the variants
abbrev pub flat_rows : VariantRows flat × Names InfoIpTunnel flat
flat_rows =
    row AtIpTunnel 1 (exactly le32) (value InfoIpTunnel.Link)  -- IFLA_IPTUN_LINK
    or row AtIpTunnel 2 ip (value InfoIpTunnel.Local)  -- IFLA_IPTUN_LOCAL
    or row AtIpTunnel 3 ip (value InfoIpTunnel.Remote)  -- IFLA_IPTUN_REMOTE
    or row AtIpTunnel 4 (exactly byte) (value InfoIpTunnel.Ttl)  -- IFLA_IPTUN_TTL
    or row AtIpTunnel 5 (exactly byte) (value InfoIpTunnel.Tos)  -- IFLA_IPTUN_TOS
    or row AtIpTunnel 6 (exactly byte) (value InfoIpTunnel.EncapLimit)  -- IFLA_IPTUN_ENCAP_LIMIT
    or row AtIpTunnel 7 (exactly be32) (value InfoIpTunnel.FlowInfo)  -- IFLA_IPTUN_FLOWINFO
    or row AtIpTunnel 9 ip_protocol_byte (value InfoIpTunnel.Protocol)  -- IFLA_IPTUN_PROTO
    or row AtIpTunnel 10 (exactly boolean) (value InfoIpTunnel.PMtuDisc)  -- IFLA_IPTUN_PMTUDISC
    or row AtIpTunnel 11 (exactly octets16) (value InfoIpTunnel.Ipv6RdPrefix)  -- IFLA_IPTUN_6RD_PREFIX
    or row AtIpTunnel 12 (exactly octets4) (value InfoIpTunnel.Ipv6RdRelayPrefix)  -- IFLA_IPTUN_6RD_RELAY_PREFIX
    or row AtIpTunnel 13 (exactly le16) (value InfoIpTunnel.Ipv6RdPrefixLen)  -- IFLA_IPTUN_6RD_PREFIXLEN
    or row AtIpTunnel 14 (exactly le16) (value InfoIpTunnel.Ipv6RdRelayPrefixLen)  -- IFLA_IPTUN_6RD_RELAY_PREFIXLEN
    or row AtIpTunnel 15 (exactly tunnel_encap_type) (value InfoIpTunnel.EncapType)  -- IFLA_IPTUN_ENCAP_TYPE
    or row AtIpTunnel 16 (exactly tunnel_encap_flags) (value InfoIpTunnel.EncapFlags)  -- IFLA_IPTUN_ENCAP_FLAGS
    or row AtIpTunnel 17 (exactly be16) (value InfoIpTunnel.EncapSPort)  -- IFLA_IPTUN_ENCAP_SPORT
    or row AtIpTunnel 18 (exactly be16) (value InfoIpTunnel.EncapDPort)  -- IFLA_IPTUN_ENCAP_DPORT
    or row AtIpTunnel 19 flag (value InfoIpTunnel.CollectMetadata)  -- IFLA_IPTUN_COLLECT_METADATA
    or row AtIpTunnel 20 (exactly le32) (value InfoIpTunnel.FwMark)  -- IFLA_IPTUN_FWMARK
    or others (value InfoIpTunnel.Other)

-- all rows, of a link of a kind that has flags
abbrev pub rows : Kind → VariantRows later × Names InfoIpTunnel later
rows kind =
    row AtIpTunnel 8 (flags_in kind) (seen ipv6_flags InfoIpTunnel.Ipv6Flags)  -- IFLA_IPTUN_FLAGS
    or flat_rows

-- the numbers are apart, and the names at their places
pub apart : (kind : Kind) → numbered later (rows kind).0 ≡ true
apart kind = refl

pub flat-apart : numbered flat flat_rows.0 ≡ true
flat-apart = refl

pub named : IsNamed enum (λ f. InfoIpTunnel.Ipv4Flags f.0, (λ f. InfoIpTunnel.Ipv6SitFlags f.0, (rows ipip).1))
named = refl

-- what an attribute is, without where it lies in memory
abbrev pub Meaning : Type 0
Meaning = MeaningIn later (rows ipip).0

abbrev pub meaning_of : Choice enum.parts → Meaning
meaning_of (inl f) = inl (ipv4_flags f.0)
meaning_of (inr (inl f)) = inl (sit_flags f.0)
meaning_of (inr (inr c)) = meaning_in later (rows ipip).0 c

abbrev pub meaning : InfoIpTunnel → Meaning
meaning a = meaning_of (enum.as_values a)

-- how each is written, whatever governs
abbrev pub writing : Writing Meaning
writing = writing_in later (rows ipip).0

pub shapes : (kind : Kind) (m : Meaning) → writing.shape m ≡ (writing_in later (rows kind).0).shape m
shapes kind (inl flags) = refl
shapes kind (inr m) = refl

pub members : (kind : Kind) (m : Meaning) → writing.members m ≡ (writing_in later (rows kind).0).members m
members kind (inl flags) = refl
members kind (inr m) = refl

-- by the variant
abbrev pub shape_of : Choice enum.parts → Shape
shape_of (inl f) = writing.shape (inl (ipv4_flags f.0))
shape_of (inr (inl f)) = writing.shape (inl (sit_flags f.0))
shape_of (inr (inr c)) = shape_in later (rows ipip).0 c

written-of : (c : Choice enum.parts) → shape_of c ≡ writing.shape (meaning_of c)
written-of (inl f) = refl
written-of (inr (inl f)) = refl
written-of (inr (inr c)) = shape-in later (rows ipip).0 c

abbrev pub shape : InfoIpTunnel → Shape
shape a = shape_of (enum.as_values a)

pub shape-by : (a : InfoIpTunnel) → shape a ≡ writing.shape (meaning a)
shape-by a = written-of (enum.as_values a)

-- what attributes mean under a kind that has flags, and under any other
abbrev pub reading : Option Kind → Reading writing
reading (Some kind) = rewritten (attributes_in later (rows kind).0 (apart kind)) writing (shapes kind) (members kind)
reading None = left_out writing (attributes_in flat flat_rows.0 flat-apart)

-- how a value is read without memory, by its number
abbrev pub told : Option Kind → ℕ → At × Form
told kind number = if number == 8 then (at_number AtIpTunnel 8, flags_form kind) else form_in AtIpTunnel flat flat_rows.0 number

if_so : {V : Type 0} (b : Bool) (x y : V) → (b ≡ true → x ≡ y) → (if b then x else y) ≡ y
if_so true x y same = same refl
if_so false x y same = refl

pub told-same : (kind : Option Kind) (number : ℕ) → told kind number ≡ (reading kind).seeing.form_at number
told-same (Some kind) number = refl
told-same None number =
    if_so (number == 8) (told None 8) (form_in AtIpTunnel flat flat_rows.0 number)
    (λ e. ap (form_in AtIpTunnel flat flat_rows.0) (sym (eqb-true number 8 e)))

-- the family, under what governs the data
unfoldable pub attributes : InfoForm → Reading writing
attributes form = let kind = kind_of form in retold (reading kind) (told kind) (told-same kind)

abbrev pub family : Family InfoIpTunnel InfoForm
family = family_of meaning attributes

-- ---- of the rows that stand for themselves: what an attribute of a number means by them, and why it means nothing

abbrev pub FlatReads : ℕ → Item → Meaning → Type 0
FlatReads number x (inl flags) = ⊥
FlatReads number x (inr m) = ReadsIn flat flat_rows.0 number x m

unfoldable pub IsFlat : ℕ → Item → InfoIpTunnel → Type 0
IsFlat number x a = FlatReads number x (meaning a)

unfoldable pub FlatFault : ℕ → Item → DecodeError → Type 0
FlatFault number x e = WrongIn flat flat_rows.0 number x e

-- ---- and of the flags

abbrev pub HasFlags : Option Kind → Item → InfoIpTunnel → Type 0
HasFlags (Some kind) x a = (flags : Flags) × (flags_in kind).Reads x.value flags × (meaning a ≡ inl flags)
HasFlags None x a = meaning a ≡ other_in later (rows ipip).0 x

abbrev pub FlagsFault : Option Kind → Item → DecodeError → Type 0
FlagsFault (Some kind) x e = (flags_in kind).Wrong (at_number AtIpTunnel 8) x.value e
FlagsFault None x e = ⊥
