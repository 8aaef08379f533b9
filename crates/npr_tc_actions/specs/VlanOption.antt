-- What is said of an action over VLANs (linux/tc_act/tc_vlan.h, TCA_VLAN_*), by the table.
use Rattle.npr_base.specs.declared.attribute_set.AttributeSet.TheVariants.{TcActionVlan as AtTcActionVlan}
use Rattle.npr_base.specs.Tables.{EnumTable, table_of, row, others, ◌or◌, be16, byte, exactly, le16, leading, octets, value, refl, Reading, Family}
use Rattle.npr_base.specs.Tables.{writing_of, attributes_of, family_of_table}
use Rattle.npr_tc_actions.specs.Tcf.{tcf}
use Rattle.npr_tc_actions.specs.Vlan.{vlan}
use Rattle.npr_tc_actions.specs.contracts.vlan_option.TcActionVlanOption.{enum}
use Rattle.npr_tc_actions.specs.declared.vlan_option.TcActionVlanOption.{TcActionVlanOption}

-- the table, in the order of the variants
abbrev pub table : EnumTable enum
table =
    table_of enum (
    row AtTcActionVlan 1 (leading tcf) (value TcActionVlanOption.Tm)  -- TCA_VLAN_TM
    or row AtTcActionVlan 2 (leading vlan) (value TcActionVlanOption.Parms)  -- TCA_VLAN_PARMS
    or row AtTcActionVlan 3 (exactly le16) (value TcActionVlanOption.PushVlanId)  -- TCA_VLAN_PUSH_VLAN_ID
    or row AtTcActionVlan 4 (exactly be16) (value TcActionVlanOption.PushVlanProtocol)  -- TCA_VLAN_PUSH_VLAN_PROTOCOL
    or row AtTcActionVlan 6 (exactly byte) (value TcActionVlanOption.PushVlanPriority)  -- TCA_VLAN_PUSH_VLAN_PRIORITY
    or row AtTcActionVlan 7 (exactly (octets 6)) (value TcActionVlanOption.PushEthDst)  -- TCA_VLAN_PUSH_ETH_DST
    or row AtTcActionVlan 8 (exactly (octets 6)) (value TcActionVlanOption.PushEthSrc)  -- TCA_VLAN_PUSH_ETH_SRC
    or others (value TcActionVlanOption.Other)) refl refl

-- the family
unfoldable pub attributes : Reading (writing_of table)
attributes = attributes_of table

abbrev pub family : Family TcActionVlanOption (Unit {0})
family = family_of_table table (λ c. attributes)
