-- Whom a request about a bridge is for, by the table: `BRIDGE_FLAGS_*` of `linux/if_bridge.h`.
use Rattle.std.specs.Prelude.{ℕ, List, [], ◌∷◌}
use Rattle.std.proofs.Common.{refl}
use Rattle.npr_base.specs.Layout.{Layout, le16, formed}
use Rattle.npr_base.specs.Numbering.{Numbering}
use Rattle.npr_base.specs.Enumeration.{enumeration}
use Rattle.npr_link_bridge.specs.declared.bridge_flag.BridgeFlag.{BridgeFlag}
use Rattle.npr_link_bridge.specs.declared.bridge_flag.BridgeFlag.TheVariants.{Controller, LowerDev, Other}
use Rattle.npr_link_bridge.specs.contracts.bridge_flag.BridgeFlag.{enum}

-- in the order of the variants
abbrev pub bridge_flag_rows : List (ℕ × BridgeFlag)
bridge_flag_rows =
    (1, Controller) ∷ (2, LowerDev) ∷ []

-- the value that a number reads as, and the number that one is written as
abbrev pub bridge_flags : Numbering ℕ BridgeFlag
bridge_flags = enumeration enum bridge_flag_rows Other (λ f. f.0) (λ d. refl) refl

-- how one is read and written
abbrev pub bridge_flag : Layout BridgeFlag
bridge_flag = formed le16 bridge_flags
