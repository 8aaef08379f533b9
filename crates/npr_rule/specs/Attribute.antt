-- The attributes of a rule message (linux/fib_rules.h, FRA_*), by their table.
use Rattle.std.specs.Prelude.{ℕ, Option}
use Rattle.npr_base.specs.declared.attribute_set.AttributeSet.TheVariants.{Rule}
use Rattle.npr_base.specs.Tables.{EnumTable, table_of, row, others, ◌or◌, value, text, exactly, ip, name, le32, be64, boolean}
use Rattle.npr_base.specs.Tables.{be32, byte, le16, refl, Reading, Family, ValueAt, value_at, found_at, writing_of, attributes_of, family_of_table}
use Rattle.npr_route_values.specs.Realm.{route_realm}
use Rattle.npr_route_values.specs.RouteProtocol.{route_protocol}
use Rattle.npr_route_values.specs.IpProtocolByte.{ip_protocol_byte}
use Rattle.npr_rule.specs.PortRange.{port_range}
use Rattle.npr_rule.specs.UidRange.{uid_range}
use Rattle.npr_rule.specs.declared.attribute.RuleAttribute.{RuleAttribute}
use Rattle.npr_rule.specs.contracts.attribute.RuleAttribute.{enum}

-- the table, in the order of the variants
abbrev pub table : EnumTable enum
table =
    table_of enum (
    row Rule 1 ip (value RuleAttribute.Destination)  -- FRA_DST
    or row Rule 2 ip (value RuleAttribute.Source)  -- FRA_SRC
    or row Rule 3 name (text RuleAttribute.Iifname)  -- FRA_IIFNAME
    or row Rule 4 (exactly le32) (value RuleAttribute.Goto)  -- FRA_GOTO
    or row Rule 6 (exactly le32) (value RuleAttribute.Priority)  -- FRA_PRIORITY
    or row Rule 10 (exactly le32) (value RuleAttribute.FwMark)  -- FRA_FWMARK
    or row Rule 11 (exactly route_realm) (value RuleAttribute.Realm)  -- FRA_FLOW
    or row Rule 12 (exactly be64) (value RuleAttribute.TunId)  -- FRA_TUN_ID
    or row Rule 13 (exactly le32) (value RuleAttribute.SuppressIfGroup)  -- FRA_SUPPRESS_IFGROUP
    or row Rule 14 (exactly le32) (value RuleAttribute.SuppressPrefixLen)  -- FRA_SUPPRESS_PREFIXLEN
    or row Rule 15 (exactly le32) (value RuleAttribute.Table)  -- FRA_TABLE
    or row Rule 16 (exactly le32) (value RuleAttribute.FwMask)  -- FRA_FWMASK
    or row Rule 17 name (text RuleAttribute.Oifname)  -- FRA_OIFNAME
    or row Rule 19 (exactly boolean) (value RuleAttribute.L3MDev)  -- FRA_L3MDEV
    or row Rule 20 (exactly uid_range) (value RuleAttribute.UidRange)  -- FRA_UID_RANGE
    or row Rule 21 (exactly route_protocol) (value RuleAttribute.Protocol)  -- FRA_PROTOCOL
    or row Rule 22 ip_protocol_byte (value RuleAttribute.IpProtocol)  -- FRA_IP_PROTO
    or row Rule 23 (exactly port_range) (value RuleAttribute.SourcePortRange)  -- FRA_SPORT_RANGE
    or row Rule 24 (exactly port_range) (value RuleAttribute.DestinationPortRange)  -- FRA_DPORT_RANGE
    or row Rule 25 (exactly byte) (value RuleAttribute.Dscp)  -- FRA_DSCP
    or row Rule 26 (exactly be32) (value RuleAttribute.FlowLabel)  -- FRA_FLOWLABEL
    or row Rule 27 (exactly be32) (value RuleAttribute.FlowLabelMask)  -- FRA_FLOWLABEL_MASK
    or row Rule 28 (exactly le16) (value RuleAttribute.SourcePortMask)  -- FRA_SPORT_MASK
    or row Rule 29 (exactly le16) (value RuleAttribute.DestinationPortMask)  -- FRA_DPORT_MASK
    or row Rule 30 (exactly byte) (value RuleAttribute.DscpMask)  -- FRA_DSCP_MASK
    or others (value RuleAttribute.Other)) refl refl

-- the family
abbrev pub attributes : Reading (writing_of table)
attributes = attributes_of table

abbrev pub family : Family RuleAttribute (Unit {0})
family = family_of_table table (λ c. attributes)

-- by the number of its row: the attribute that has such a value, and the value, where it stands there
abbrev pub attribute : (number : ℕ) → ValueAt table number → family.Meaning
attribute number v = value_at table number v

abbrev pub value_of : (number : ℕ) → family.Meaning → Option (ValueAt table number)
value_of number m = found_at table number m
