-- Whom a MACVLAN talks to, by the table: `MACVLAN_MODE_*` of `linux/if_link.h`.
use Rattle.std.specs.Prelude.{ℕ, List, [], ◌∷◌}
use Rattle.std.proofs.Common.{refl}
use Rattle.npr_base.specs.Layout.{Layout, le32, formed}
use Rattle.npr_base.specs.Numbering.{Numbering}
use Rattle.npr_base.specs.Enumeration.{enumeration}
use Rattle.npr_link_devices.specs.declared.mac_vlan_mode.MacVlanMode.{MacVlanMode}
use Rattle.npr_link_devices.specs.declared.mac_vlan_mode.MacVlanMode.TheVariants.{Private, Vepa, Bridge, Passthrough, Source, Other}
use Rattle.npr_link_devices.specs.contracts.mac_vlan_mode.MacVlanMode.{enum}

-- in the order of the variants
abbrev pub mac_vlan_mode_rows : List (ℕ × MacVlanMode)
mac_vlan_mode_rows =
    (1, Private) ∷ (2, Vepa) ∷ (4, Bridge) ∷ (8, Passthrough) ∷ (16, Source) ∷ []

-- the value that a number reads as, and the number that one is written as
abbrev pub mac_vlan_modes : Numbering ℕ MacVlanMode
mac_vlan_modes = enumeration enum mac_vlan_mode_rows Other (λ f. f.0) (λ d. refl) refl

-- how one is read and written
abbrev pub mac_vlan_mode : Layout MacVlanMode
mac_vlan_mode = formed le32 mac_vlan_modes
