-- The data of a port of a bond (linux/if_link.h, IFLA_BOND_SLAVE_*), by the table.
use Rattle.npr_base.specs.declared.attribute_set.AttributeSet.TheVariants.{InfoBondPort as AtBondPort}
use Rattle.npr_base.specs.Tables.{EnumTable, table_of, row, others, ◌or◌, byte, exactly, items, le16, le32, raw, signed32, value, refl, Reading, Family}
use Rattle.npr_base.specs.Tables.{writing_of, attributes_of, family_of_table}
use Rattle.npr_link_devices.specs.BondPortState.{bond_port_state}
use Rattle.npr_link_devices.specs.MiiStatus.{mii_status}
use Rattle.npr_link_devices.specs.contracts.bond_port.InfoBondPort.{enum}
use Rattle.npr_link_devices.specs.declared.bond_port.InfoBondPort.{InfoBondPort}

-- the table, in the order of the variants
abbrev pub table : EnumTable enum
table =
    table_of enum (
    row AtBondPort 1 (exactly bond_port_state) (value InfoBondPort.BondPortState)  -- IFLA_BOND_SLAVE_STATE
    or row AtBondPort 2 (exactly mii_status) (value InfoBondPort.MiiStatus)  -- IFLA_BOND_SLAVE_MII_STATUS
    or row AtBondPort 3 (exactly le32) (value InfoBondPort.LinkFailureCount)  -- IFLA_BOND_SLAVE_LINK_FAILURE_COUNT
    or row AtBondPort 4 raw (items InfoBondPort.PermHwaddr)  -- IFLA_BOND_SLAVE_PERM_HWADDR
    or row AtBondPort 5 (exactly le16) (value InfoBondPort.QueueId)  -- IFLA_BOND_SLAVE_QUEUE_ID
    or row AtBondPort 6 (exactly le16) (value InfoBondPort.AdAggregatorId)  -- IFLA_BOND_SLAVE_AD_AGGREGATOR_ID
    or row AtBondPort 7 (exactly byte) (value InfoBondPort.AdActorOperPortState)  -- IFLA_BOND_SLAVE_AD_ACTOR_OPER_PORT_STATE
    or row AtBondPort 8 (exactly le16) (value InfoBondPort.AdPartnerOperPortState)  -- IFLA_BOND_SLAVE_AD_PARTNER_OPER_PORT_STATE
    or row AtBondPort 9 (exactly signed32) (value InfoBondPort.Prio)  -- IFLA_BOND_SLAVE_PRIO
    or row AtBondPort 10 (exactly le16) (value InfoBondPort.ActorPortPrio)  -- IFLA_BOND_SLAVE_ACTOR_PORT_PRIO
    or row AtBondPort 11 (exactly byte) (value InfoBondPort.AdChurnActorState)  -- IFLA_BOND_SLAVE_AD_CHURN_ACTOR_STATE
    or row AtBondPort 12 (exactly byte) (value InfoBondPort.AdChurnPartnerState)  -- IFLA_BOND_SLAVE_AD_CHURN_PARTNER_STATE
    or others (value InfoBondPort.Other)) refl refl

-- the family
unfoldable pub attributes : Reading (writing_of table)
attributes = attributes_of table

abbrev pub family : Family InfoBondPort (Unit {0})
family = family_of_table table (λ c. attributes)
