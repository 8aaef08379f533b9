-- What is said of an action over connections (linux/tc_act/tc_ct.h, TCA_CT_*), by the table.
use Rattle.npr_base.specs.declared.attribute_set.AttributeSet.TheVariants.{TcActionCt as AtTcActionCt}
use Rattle.npr_base.specs.Tables.{EnumTable, table_of, row, others, ◌or◌, be16, byte, exactly, items, le16, le32, leading, name, octets16, octets4}
use Rattle.npr_base.specs.Tables.{raw, text, value, refl, Reading, Family, writing_of, attributes_of, family_of_table}
use Rattle.npr_tc_actions.specs.CtFlags.{ct_flags}
use Rattle.npr_tc_actions.specs.Generic.{generic}
use Rattle.npr_tc_actions.specs.Tcf.{tcf}
use Rattle.npr_tc_actions.specs.contracts.ct_option.TcActionCtOption.{enum}
use Rattle.npr_tc_actions.specs.declared.ct_option.TcActionCtOption.{TcActionCtOption}

-- the table, in the order of the variants
abbrev pub table : EnumTable enum
table =
    table_of enum (
    row AtTcActionCt 1 (leading generic) (value TcActionCtOption.Parms)  -- TCA_CT_PARMS
    or row AtTcActionCt 2 (leading tcf) (value TcActionCtOption.Tm)  -- TCA_CT_TM
    or row AtTcActionCt 3 (exactly ct_flags) (value TcActionCtOption.Action)  -- TCA_CT_ACTION
    or row AtTcActionCt 4 (exactly le16) (value TcActionCtOption.Zone)  -- TCA_CT_ZONE
    or row AtTcActionCt 5 (exactly le32) (value TcActionCtOption.Mark)  -- TCA_CT_MARK
    or row AtTcActionCt 6 (exactly le32) (value TcActionCtOption.MarkMask)  -- TCA_CT_MARK_MASK
    or row AtTcActionCt 7 raw (items TcActionCtOption.Labels)  -- TCA_CT_LABELS
    or row AtTcActionCt 8 raw (items TcActionCtOption.LabelsMask)  -- TCA_CT_LABELS_MASK
    or row AtTcActionCt 9 (exactly octets4) (value TcActionCtOption.NatIpv4Min)  -- TCA_CT_NAT_IPV4_MIN
    or row AtTcActionCt 10 (exactly octets4) (value TcActionCtOption.NatIpv4Max)  -- TCA_CT_NAT_IPV4_MAX
    or row AtTcActionCt 11 (exactly octets16) (value TcActionCtOption.NatIpv6Min)  -- TCA_CT_NAT_IPV6_MIN
    or row AtTcActionCt 12 (exactly octets16) (value TcActionCtOption.NatIpv6Max)  -- TCA_CT_NAT_IPV6_MAX
    or row AtTcActionCt 13 (exactly be16) (value TcActionCtOption.NatPortMin)  -- TCA_CT_NAT_PORT_MIN
    or row AtTcActionCt 14 (exactly be16) (value TcActionCtOption.NatPortMax)  -- TCA_CT_NAT_PORT_MAX
    or row AtTcActionCt 16 name (text TcActionCtOption.HelperName)  -- TCA_CT_HELPER_NAME
    or row AtTcActionCt 17 (exactly byte) (value TcActionCtOption.HelperFamily)  -- TCA_CT_HELPER_FAMILY
    or row AtTcActionCt 18 (exactly byte) (value TcActionCtOption.HelperProto)  -- TCA_CT_HELPER_PROTO
    or others (value TcActionCtOption.Other)) refl refl

-- the family
unfoldable pub attributes : Reading (writing_of table)
attributes = attributes_of table

abbrev pub family : Family TcActionCtOption (Unit {0})
family = family_of_table table (λ c. attributes)
