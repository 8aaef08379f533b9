-- What a port of a bond is, by the table: `BOND_STATE_*` of `linux/if_bonding.h`.
use Rattle.std.specs.Prelude.{ℕ, List, [], ◌∷◌}
use Rattle.std.proofs.Common.{refl}
use Rattle.npr_base.specs.Layout.{Layout, byte, formed}
use Rattle.npr_base.specs.Numbering.{Numbering}
use Rattle.npr_base.specs.Enumeration.{enumeration}
use Rattle.npr_link_devices.specs.declared.bond_port_state.BondPortState.{BondPortState}
use Rattle.npr_link_devices.specs.declared.bond_port_state.BondPortState.TheVariants.{Active, Backup, Other}
use Rattle.npr_link_devices.specs.contracts.bond_port_state.BondPortState.{enum}

-- in the order of the variants
abbrev pub bond_port_state_rows : List (ℕ × BondPortState)
bond_port_state_rows =
    (0, Active) ∷ (1, Backup) ∷ []

-- the value that a number reads as, and the number that one is written as
abbrev pub bond_port_states : Numbering ℕ BondPortState
bond_port_states = enumeration enum bond_port_state_rows Other (λ f. f.0) (λ d. refl) refl

-- how one is read and written
abbrev pub bond_port_state : Layout BondPortState
bond_port_state = formed byte bond_port_states
