-- The flags of a VLAN: every bit is kept (VLAN_FLAG_* of linux/if_vlan.h).
use Rattle.std.specs.Prelude.{ℕ}
use Rattle.std.proofs.Common.{refl}
use Rattle.npr_base.specs.Layout.{Layout, le32, formed}
use Rattle.npr_base.specs.Numbering.{Numbering}
use Rattle.npr_link.specs.declared.vlan_flags.VlanFlags.{VlanFlags}

-- the set of these bits, and the bits of a set
abbrev pub vlan_flag_bits : Numbering ℕ VlanFlags
vlan_flag_bits = record { of = λ bits. record { 0 = bits }; number = λ flags. flags.0; back = λ bits. refl }

-- how one is read and written
abbrev pub vlan_flags : Layout VlanFlags
vlan_flags = formed le32 vlan_flag_bits
