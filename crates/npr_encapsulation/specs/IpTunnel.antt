-- The members of a tunnel over IP (linux/lwtunnel.h, LWTUNNEL_IP_* and LWTUNNEL_IP6_*), by a table that is the same for
-- both versions but for the width of an address and the set of flags.
use Rattle.std.specs.Prelude.{ℕ, Bool, List, [], ◌∷◌, ◌++◌, Option, Some, codes, decimal, is_some}
use Rattle.std.specs.Net.Addr.{segments_of}
use Rattle.std.specs.Net.Text.{ipv4_text, ipv6_text}
use Rattle.npr_base.specs.declared.attribute_set.AttributeSet.{AttributeSet}
use Rattle.npr_base.specs.declared.attribute_set.AttributeSet.TheVariants.{Ip, Ip6, Opt as AtOption}
use Rattle.npr_base.specs.EnumTable.{VariantRows, Variant, Names}
use Rattle.npr_base.specs.Framing.{Item}
use Rattle.npr_base.specs.Layout.{Layout}
use Rattle.npr_base.specs.Text.{joined_by, nla_text}
use Rattle.npr_base.specs.Tables.{EnumTable, table_of, row, marked_row, others, ◌or◌, ◌also◌, value, seen, listed, nothing, exactly, list_of, dropped}
use Rattle.npr_base.specs.Tables.{byte, be16, be64, octets4, octets16, refl, Reading, Family, found_at, writing_of, attributes_of, family_of_table, made_of}
use Rattle.npr_encapsulation.specs.TunnelFlags.{ip_flag_bits, ip6_flag_bits, flags_text}
use Rattle.npr_encapsulation.specs.TunnelOptions as OfOption
use Rattle.npr_encapsulation.specs.contracts.ip.RouteIpTunnel.{enum}
use Rattle.npr_encapsulation.specs.contracts.ip6.RouteIp6Tunnel.{enum as enum6}
use Rattle.npr_encapsulation.specs.declared.ip.RouteIpTunnel.{RouteIpTunnel}
use Rattle.npr_encapsulation.specs.declared.ip6.RouteIp6Tunnel.{RouteIp6Tunnel}
use denote.Struct.Field.{Field}

-- the table, in the order of the variants, where an address has this layout, over the variants and what their fields hold
abbrev pub rows_over : {T : Type 0} {U N A B F O D : List Field} → AttributeSet → (address : Layout (List ℕ)) → Variant T U (Unit {0}) → (id : Variant T N ℕ)
    → (destination source : Variant T A (List ℕ)) → (limit class : Variant T B ℕ) → (flags : Variant T F ℕ)
    → (options : Variant T O (List OfOption.family.Meaning)) → (other : Variant T D Item)
    → VariantRows (U ∷ N ∷ A ∷ A ∷ B ∷ B ∷ F ∷ O ∷ D ∷ []) × Names T (U ∷ N ∷ A ∷ A ∷ B ∷ B ∷ F ∷ O ∷ D ∷ [])
rows_over family address unspecified id destination source limit class flags options other =
    row family 0 dropped unspecified  -- LWTUNNEL_IP_UNSPEC
    or row family 1 (exactly be64) id  -- LWTUNNEL_IP_ID
    or row family 2 (exactly address) destination  -- LWTUNNEL_IP_DST
    or row family 3 (exactly address) source  -- LWTUNNEL_IP_SRC
    or row family 4 (exactly byte) limit  -- LWTUNNEL_IP_TTL, LWTUNNEL_IP6_HOPLIMIT
    or row family 5 (exactly byte) class  -- LWTUNNEL_IP_TOS, LWTUNNEL_IP6_TC
    or row family 6 (exactly be16) flags  -- LWTUNNEL_IP_FLAGS
    or marked_row family 8 (list_of AtOption OfOption.attributes) options  -- LWTUNNEL_IP_OPTS
    or others other

abbrev pub table : EnumTable enum
table =
    table_of enum
    (rows_over Ip octets4 (nothing RouteIpTunnel.Unspecified) (value RouteIpTunnel.Id) (value RouteIpTunnel.Destination) (value RouteIpTunnel.Source)
    (value RouteIpTunnel.Ttl) (value RouteIpTunnel.Tos) (seen ip_flag_bits.number RouteIpTunnel.Flags)
    (listed OfOption.family.meaning RouteIpTunnel.Opts) (value RouteIpTunnel.Other)) refl refl

abbrev pub table6 : EnumTable enum6
table6 =
    table_of enum6
    (rows_over Ip6 octets16 (nothing RouteIp6Tunnel.Unspecified) (value RouteIp6Tunnel.Id) (value RouteIp6Tunnel.Destination) (value RouteIp6Tunnel.Source)
    (value RouteIp6Tunnel.Hoplimit) (value RouteIp6Tunnel.Tc) (seen ip6_flag_bits.number RouteIp6Tunnel.Flags)
    (listed OfOption.family.meaning RouteIp6Tunnel.Opts) (value RouteIp6Tunnel.Other)) refl refl

-- the families
unfoldable pub attributes : Reading (writing_of table)
attributes = attributes_of table

unfoldable pub attributes6 : Reading (writing_of table6)
attributes6 = attributes_of table6

abbrev pub family : Family RouteIpTunnel (Unit {0})
family = family_of_table table (λ c. attributes)

abbrev pub family6 : Family RouteIp6Tunnel (Unit {0})
family6 = family_of_table table6 (λ c. attributes6)

-- it holds options
abbrev pub has_options : family.Meaning → Bool
has_options m = is_some (found_at table 8 m)

-- the text of a member over version 4
abbrev pub ip_tunnel_text : family.Meaning → Option (List ℕ)
ip_tunnel_text =
    made_of table (
    (λ u. Some (codes "unspecified"))
    also (λ n. Some (codes "id " ++ decimal n))
    also (λ a. Some (codes "dst " ++ ipv4_text a))
    also (λ a. Some (codes "src " ++ ipv4_text a))
    also (λ n. Some (codes "ttl " ++ decimal n))
    also (λ n. Some (codes "tos " ++ decimal n))
    also (λ bits. Some (flags_text bits))
    also joined_by (codes ", ") OfOption.tunnel_option_text
    also nla_text)

-- and over version 6, where `src` has a comma behind it
abbrev pub ip6_tunnel_text : family6.Meaning → Option (List ℕ)
ip6_tunnel_text =
    made_of table6 (
    (λ u. Some (codes "unspecified"))
    also (λ n. Some (codes "id " ++ decimal n))
    also (λ a. Some (codes "dst " ++ ipv6_text (segments_of a)))
    also (λ a. Some (codes "src, " ++ ipv6_text (segments_of a)))
    also (λ n. Some (codes "hoplimit " ++ decimal n))
    also (λ n. Some (codes "tc " ++ decimal n))
    also (λ bits. Some (flags_text bits))
    also joined_by (codes ", ") OfOption.tunnel_option_text
    also nla_text)
