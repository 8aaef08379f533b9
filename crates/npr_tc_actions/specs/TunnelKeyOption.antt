-- What is said of an action over the metadata of tunnels (linux/tc_act/tc_tunnel_key.h, TCA_TUNNEL_KEY_*), by the table.
use Rattle.npr_base.specs.declared.attribute_set.AttributeSet.TheVariants.{TcActionTunnelKey as AtTcActionTunnelKey, TcEnc as AtTcEnc}
use Rattle.npr_base.specs.Tables.{EnumTable, table_of, row, others, ◌or◌, exactly, leading, dropped, boolean, byte, be16, be32, octets4, octets16}
use Rattle.npr_base.specs.Tables.{list_of, listed, nothing, value, refl, Reading, Family, writing_of, attributes_of, family_of_table}
use Rattle.npr_tc_actions.specs.EncOption as OfEnc
use Rattle.npr_tc_actions.specs.Tcf.{tcf}
use Rattle.npr_tc_actions.specs.TunnelKey.{tunnel_key}
use Rattle.npr_tc_actions.specs.contracts.tunnel_key_option.TcActionTunnelKeyOption.{enum}
use Rattle.npr_tc_actions.specs.declared.tunnel_key_option.TcActionTunnelKeyOption.{TcActionTunnelKeyOption}

-- the table, in the order of the variants
abbrev pub table : EnumTable enum
table =
    table_of enum (
    row AtTcActionTunnelKey 1 (leading tcf) (value TcActionTunnelKeyOption.Tm)  -- TCA_TUNNEL_KEY_TM
    or row AtTcActionTunnelKey 2 (leading tunnel_key) (value TcActionTunnelKeyOption.Parms)  -- TCA_TUNNEL_KEY_PARMS
    or row AtTcActionTunnelKey 3 (exactly octets4) (value TcActionTunnelKeyOption.EncIpv4Src)  -- TCA_TUNNEL_KEY_ENC_IPV4_SRC
    or row AtTcActionTunnelKey 4 (exactly octets4) (value TcActionTunnelKeyOption.EncIpv4Dst)  -- TCA_TUNNEL_KEY_ENC_IPV4_DST
    or row AtTcActionTunnelKey 5 (exactly octets16) (value TcActionTunnelKeyOption.EncIpv6Src)  -- TCA_TUNNEL_KEY_ENC_IPV6_SRC
    or row AtTcActionTunnelKey 6 (exactly octets16) (value TcActionTunnelKeyOption.EncIpv6Dst)  -- TCA_TUNNEL_KEY_ENC_IPV6_DST
    or row AtTcActionTunnelKey 7 (exactly be32) (value TcActionTunnelKeyOption.EncKeyId)  -- TCA_TUNNEL_KEY_ENC_KEY_ID
    or row AtTcActionTunnelKey 9 (exactly be16) (value TcActionTunnelKeyOption.EncDstPort)  -- TCA_TUNNEL_KEY_ENC_DST_PORT
    or row AtTcActionTunnelKey 10 (exactly boolean) (value TcActionTunnelKeyOption.NoCsum)  -- TCA_TUNNEL_KEY_NO_CSUM
    or row AtTcActionTunnelKey 11 (list_of AtTcEnc OfEnc.attributes) (listed OfEnc.family.meaning TcActionTunnelKeyOption.EncOpts)  -- TCA_TUNNEL_KEY_ENC_OPTS
    or row AtTcActionTunnelKey 12 (exactly byte) (value TcActionTunnelKeyOption.EncTos)  -- TCA_TUNNEL_KEY_ENC_TOS
    or row AtTcActionTunnelKey 13 (exactly byte) (value TcActionTunnelKeyOption.EncTtl)  -- TCA_TUNNEL_KEY_ENC_TTL
    or row AtTcActionTunnelKey 14 dropped (nothing TcActionTunnelKeyOption.NoFrag)  -- TCA_TUNNEL_KEY_NO_FRAG
    or others (value TcActionTunnelKeyOption.Other)) refl refl

-- the family
unfoldable pub attributes : Reading (writing_of table)
attributes = attributes_of table

abbrev pub family : Family TcActionTunnelKeyOption (Unit {0})
family = family_of_table table (λ c. attributes)
