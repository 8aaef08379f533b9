-- Two numbers, one behind the other.
--     two_numbers     four bytes each, little endian
--     two_flags       two sets of flags of a VLAN, likewise (linux/if_link.h, struct ifla_vlan_flags)
--     both            what stands in a variant of two fields
use Rattle.std.specs.Prelude.{ℕ}
use Rattle.npr_base.specs.Fields.{le_four, ◌holding◌, ◌and◌, fields}
use Rattle.npr_base.specs.Layout.{Layout}
use Rattle.npr_link.specs.VlanFlags.{vlan_flag_bits}
use Rattle.npr_link.specs.declared.vlan_flags.VlanFlags.{VlanFlags}

abbrev pub two_numbers : Layout (ℕ × ℕ)
two_numbers = fields (le_four and le_four)

abbrev pub two_flags : Layout (VlanFlags × VlanFlags)
two_flags = fields (le_four holding vlan_flag_bits and le_four holding vlan_flag_bits)

abbrev pub both : {D A B : Type 0} → (A → B → D) → (A × (B × Unit {0}) → A × B) × (A × (B × Unit {0}) → D)
both variant = (λ f. (f.0, f.1.0), λ f. variant f.0 f.1.0)
