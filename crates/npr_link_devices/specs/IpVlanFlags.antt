-- The flags of an IPVLAN: every bit is kept (IPVLAN_F_* of linux/if_link.h).
use Rattle.std.specs.Prelude.{ℕ}
use Rattle.std.proofs.Common.{refl}
use Rattle.npr_base.specs.Layout.{Layout, le16, formed}
use Rattle.npr_base.specs.Numbering.{Numbering}
use Rattle.npr_link_devices.specs.declared.ip_vlan_flags.IpVlanFlags.{IpVlanFlags}

-- the set of these bits, and the bits of a set
abbrev pub ip_vlan_flag_bits : Numbering ℕ IpVlanFlags
ip_vlan_flag_bits = record { of = λ bits. record { 0 = bits }; number = λ flags. flags.0; back = λ bits. refl }

-- how one is read and written
abbrev pub ip_vlan_flags : Layout IpVlanFlags
ip_vlan_flags = formed le16 ip_vlan_flag_bits
