-- The attributes of a neighbour message (linux/neighbour.h, NDA_*), by their table.
use Rattle.std.specs.Prelude.{◌≢◌, ℕ, List, Option, Some, None}
use Rattle.std.proofs.Common.{◌≡◌, refl}
use Rattle.netlink_packet_route.specs.Fields.{le_four, ◌fills◌, ◌then◌, last, structure}
use Rattle.netlink_packet_route.specs.declared.framing.AttributeSet.TheVariants.{Value}
use Rattle.netlink_packet_route.specs.declared.net.IpAddr.{IpAddr}
use Rattle.netlink_packet_route.specs.Layout.{Layout}
use Rattle.netlink_packet_route.specs.Found.{IsFirst}
use Rattle.netlink_packet_route.specs.Tables.{EnumTable, table_of, row, others, ◌or◌, value, items, exactly, leading, raw, ip, le32, Family}
use Rattle.netlink_packet_route.specs.Tables.{attributes_of, family_of_table}
use Rattle.template.specs.contracts.neighbour.NeighbourAttribute.{enum}
use Rattle.template.specs.contracts.neighbour.NeighbourCacheInfo.{struct}
use Rattle.template.specs.declared.neighbour.NeighbourCacheInfo.{NeighbourCacheInfo}
use Rattle.template.specs.declared.neighbour.NeighbourAttribute.{NeighbourAttribute}
use Rattle.template.specs.declared.neighbour.NeighbourAttribute.TheVariants.{Destination, LinkLocalAddress}

-- what the kernel remembers of a neighbour (struct nda_cacheinfo): four numbers of four bytes, in this order
abbrev pub cache_info : Layout NeighbourCacheInfo
cache_info =
    structure struct
    (NeighbourCacheInfo.confirmed fills le_four then NeighbourCacheInfo.used fills le_four then NeighbourCacheInfo.updated fills le_four
    then last (NeighbourCacheInfo.references fills le_four)) refl (λ v. tt)

-- the table, in the order of the variants: a place that a refusal names is in no family of the library
abbrev pub table : EnumTable enum
table =
    table_of enum (
    row Value 1 ip (value NeighbourAttribute.Destination)  -- NDA_DST
    or row Value 2 raw (items NeighbourAttribute.LinkLocalAddress)  -- NDA_LLADDR
    or row Value 3 (leading cache_info) (value NeighbourAttribute.CacheInfo)  -- NDA_CACHEINFO
    or row Value 4 (exactly le32) (value NeighbourAttribute.Probes)  -- NDA_PROBES
    or others (value NeighbourAttribute.Other)) refl refl

-- the family
abbrev pub family : Family NeighbourAttribute (Unit {0})
family = family_of_table table (λ c. attributes_of table)

-- the address of a destination
abbrev pub destination_in : NeighbourAttribute → Option IpAddr
destination_in (Destination ip) = Some ip
destination_in a = None

-- the bytes of a link-layer address
abbrev pub link_layer_in : NeighbourAttribute → Option (List ℕ)
link_layer_in (LinkLocalAddress bytes) = Some bytes.items
link_layer_in a = None

-- what is found for a destination: where the first one among the attributes is this, their first link-layer address
pub record IsAddressOf (ip : IpAddr) (attributes : List NeighbourAttribute) (found : Option (List ℕ)) : Type 0 where
  pub about : Option IpAddr
  pub first : IsFirst destination_in attributes about
  pub same : about ≡ Some ip → IsFirst link_layer_in attributes found
  pub other : about ≢ Some ip → found ≡ None
