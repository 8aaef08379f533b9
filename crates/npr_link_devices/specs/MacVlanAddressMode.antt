-- What is done with the sources of a MACVLAN, by the table: `MACVLAN_MACADDR_*` of `linux/if_link.h`.
use Rattle.std.specs.Prelude.{ℕ, List, [], ◌∷◌}
use Rattle.std.proofs.Common.{refl}
use Rattle.npr_base.specs.Layout.{Layout, le32, formed}
use Rattle.npr_base.specs.Numbering.{Numbering}
use Rattle.npr_base.specs.Enumeration.{enumeration}
use Rattle.npr_link_devices.specs.declared.mac_vlan_address_mode.MacVlanMacAddressMode.{MacVlanMacAddressMode}
use Rattle.npr_link_devices.specs.declared.mac_vlan_address_mode.MacVlanMacAddressMode.TheVariants.{Add, Del, Flush, Set, Other}
use Rattle.npr_link_devices.specs.contracts.mac_vlan_address_mode.MacVlanMacAddressMode.{enum}

-- in the order of the variants
abbrev pub mac_vlan_address_mode_rows : List (ℕ × MacVlanMacAddressMode)
mac_vlan_address_mode_rows =
    (0, Add) ∷ (1, Del) ∷ (2, Flush) ∷ (3, Set) ∷ []

-- the value that a number reads as, and the number that one is written as
abbrev pub mac_vlan_address_modes : Numbering ℕ MacVlanMacAddressMode
mac_vlan_address_modes = enumeration enum mac_vlan_address_mode_rows Other (λ f. f.0) (λ d. refl) refl

-- how one is read and written
abbrev pub mac_vlan_address_mode : Layout MacVlanMacAddressMode
mac_vlan_address_mode = formed le32 mac_vlan_address_modes
