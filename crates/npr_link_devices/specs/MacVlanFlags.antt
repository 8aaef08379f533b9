-- The flags of a MACVLAN: every bit is kept (MACVLAN_FLAG_* of linux/if_link.h).
use Rattle.std.specs.Prelude.{ℕ}
use Rattle.std.proofs.Common.{refl}
use Rattle.npr_base.specs.Layout.{Layout, le16, formed}
use Rattle.npr_base.specs.Numbering.{Numbering}
use Rattle.npr_link_devices.specs.declared.mac_vlan_flags.MacVlanFlags.{MacVlanFlags}

-- the set of these bits, and the bits of a set
abbrev pub mac_vlan_flag_bits : Numbering ℕ MacVlanFlags
mac_vlan_flag_bits = record { of = λ bits. record { 0 = bits }; number = λ flags. flags.0; back = λ bits. refl }

-- how one is read and written
abbrev pub mac_vlan_flags : Layout MacVlanFlags
mac_vlan_flags = formed le16 mac_vlan_flag_bits
