-- How a network card bridges, by the table: `BRIDGE_MODE_*` of `linux/if_bridge.h`.
use Rattle.std.specs.Prelude.{ℕ, List, [], ◌∷◌}
use Rattle.std.proofs.Common.{refl}
use Rattle.npr_base.specs.Layout.{Layout, le16, formed}
use Rattle.npr_base.specs.Numbering.{Numbering}
use Rattle.npr_base.specs.Enumeration.{enumeration}
use Rattle.npr_link_bridge.specs.declared.bridge_mode.BridgeMode.{BridgeMode}
use Rattle.npr_link_bridge.specs.declared.bridge_mode.BridgeMode.TheVariants.{Veb, Vepa, Other}
use Rattle.npr_link_bridge.specs.contracts.bridge_mode.BridgeMode.{enum}

-- in the order of the variants
abbrev pub bridge_mode_rows : List (ℕ × BridgeMode)
bridge_mode_rows =
    (0, Veb) ∷ (1, Vepa) ∷ []

-- the value that a number reads as, and the number that one is written as
abbrev pub bridge_modes : Numbering ℕ BridgeMode
bridge_modes = enumeration enum bridge_mode_rows Other (λ f. f.0) (λ d. refl) refl

-- how one is read and written
abbrev pub bridge_mode : Layout BridgeMode
bridge_mode = formed le16 bridge_modes
