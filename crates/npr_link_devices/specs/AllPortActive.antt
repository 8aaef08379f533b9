-- What becomes of a packet at a port that is not active, by the table: the option `all_slaves_active` of the kernel's `net/bond_options.h`.
use Rattle.std.specs.Prelude.{ℕ, List, [], ◌∷◌}
use Rattle.std.proofs.Common.{refl}
use Rattle.npr_base.specs.Layout.{Layout, byte, formed}
use Rattle.npr_base.specs.Numbering.{Numbering}
use Rattle.npr_base.specs.Enumeration.{enumeration}
use Rattle.npr_link_devices.specs.declared.all_port_active.BondAllPortActive.{BondAllPortActive}
use Rattle.npr_link_devices.specs.declared.all_port_active.BondAllPortActive.TheVariants.{Dropped, Delivered, Other}
use Rattle.npr_link_devices.specs.contracts.all_port_active.BondAllPortActive.{enum}

-- in the order of the variants
abbrev pub all_port_active_rows : List (ℕ × BondAllPortActive)
all_port_active_rows =
    (0, Dropped) ∷ (1, Delivered) ∷ []

-- the value that a number reads as, and the number that one is written as
abbrev pub all_port_actives : Numbering ℕ BondAllPortActive
all_port_actives = enumeration enum all_port_active_rows Other (λ f. f.0) (λ d. refl) refl

-- how one is read and written
abbrev pub all_port_active : Layout BondAllPortActive
all_port_active = formed byte all_port_actives
