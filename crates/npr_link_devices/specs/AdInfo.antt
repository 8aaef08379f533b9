-- What ports of a bond agreed on by IEEE 802.3ad (linux/if_link.h, IFLA_BOND_AD_INFO_*), by the table.
use Rattle.npr_base.specs.declared.attribute_set.AttributeSet.TheVariants.{BondAdInfo as AtAdInfo}
use Rattle.npr_base.specs.Tables.{EnumTable, table_of, row, others, ◌or◌, exactly, le16, octets, value, refl, Reading, Family, writing_of, attributes_of}
use Rattle.npr_base.specs.Tables.{family_of_table}
use Rattle.npr_link_devices.specs.contracts.ad_info.BondAdInfo.{enum}
use Rattle.npr_link_devices.specs.declared.ad_info.BondAdInfo.{BondAdInfo}

-- the table, in the order of the variants
abbrev pub table : EnumTable enum
table =
    table_of enum (
    row AtAdInfo 1 (exactly le16) (value BondAdInfo.Aggregator)  -- IFLA_BOND_AD_INFO_AGGREGATOR
    or row AtAdInfo 2 (exactly le16) (value BondAdInfo.NumPorts)  -- IFLA_BOND_AD_INFO_NUM_PORTS
    or row AtAdInfo 3 (exactly le16) (value BondAdInfo.ActorKey)  -- IFLA_BOND_AD_INFO_ACTOR_KEY
    or row AtAdInfo 4 (exactly le16) (value BondAdInfo.PartnerKey)  -- IFLA_BOND_AD_INFO_PARTNER_KEY
    or row AtAdInfo 5 (exactly (octets 6)) (value BondAdInfo.PartnerMac)  -- IFLA_BOND_AD_INFO_PARTNER_MAC
    or others (value BondAdInfo.Other)) refl refl

-- the family
unfoldable pub attributes : Reading (writing_of table)
attributes = attributes_of table

abbrev pub family : Family BondAdInfo (Unit {0})
family = family_of_table table (λ c. attributes)
