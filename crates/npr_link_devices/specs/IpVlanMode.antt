-- At which layer an IPVLAN hands packets on, by the table: `IPVLAN_MODE_*` of `linux/if_link.h`.
use Rattle.std.specs.Prelude.{ℕ, List, [], ◌∷◌}
use Rattle.std.proofs.Common.{refl}
use Rattle.npr_base.specs.Layout.{Layout, le16, formed}
use Rattle.npr_base.specs.Numbering.{Numbering}
use Rattle.npr_base.specs.Enumeration.{enumeration}
use Rattle.npr_link_devices.specs.declared.ip_vlan_mode.IpVlanMode.{IpVlanMode}
use Rattle.npr_link_devices.specs.declared.ip_vlan_mode.IpVlanMode.TheVariants.{L2, L3, L3S, Other}
use Rattle.npr_link_devices.specs.contracts.ip_vlan_mode.IpVlanMode.{enum}

-- in the order of the variants
abbrev pub ip_vlan_mode_rows : List (ℕ × IpVlanMode)
ip_vlan_mode_rows =
    (0, L2) ∷ (1, L3) ∷ (2, L3S) ∷ []

-- the value that a number reads as, and the number that one is written as
abbrev pub ip_vlan_modes : Numbering ℕ IpVlanMode
ip_vlan_modes = enumeration enum ip_vlan_mode_rows Other (λ f. f.0) (λ d. refl) refl

-- how one is read and written
abbrev pub ip_vlan_mode : Layout IpVlanMode
ip_vlan_mode = formed le16 ip_vlan_modes
