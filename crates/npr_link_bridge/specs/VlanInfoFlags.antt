-- What is said of a VLAN of a port: every bit is kept (BRIDGE_VLAN_INFO_* of linux/if_bridge.h).
use Rattle.std.specs.Prelude.{ℕ}
use Rattle.std.proofs.Common.{refl}
use Rattle.npr_base.specs.Layout.{Layout, le16, formed}
use Rattle.npr_base.specs.Numbering.{Numbering}
use Rattle.npr_link_bridge.specs.declared.vlan_info_flags.BridgeVlanInfoFlags.{BridgeVlanInfoFlags}

-- the set of these bits, and the bits of a set
abbrev pub vlan_info_flag_bits : Numbering ℕ BridgeVlanInfoFlags
vlan_info_flag_bits = record { of = λ bits. record { 0 = bits }; number = λ flags. flags.0; back = λ bits. refl }

-- how one is read and written
abbrev pub vlan_info_flags : Layout BridgeVlanInfoFlags
vlan_info_flags = formed le16 vlan_info_flag_bits
