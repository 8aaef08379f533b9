-- The state of a port of a bridge (IEEE 802.1D), by the table: `BR_STATE_*` of `linux/if_bridge.h`.
use Rattle.std.specs.Prelude.{ℕ, List, [], ◌∷◌}
use Rattle.std.proofs.Common.{refl}
use Rattle.npr_base.specs.Layout.{Layout, byte, formed}
use Rattle.npr_base.specs.Numbering.{Numbering}
use Rattle.npr_base.specs.Enumeration.{enumeration}
use Rattle.npr_link_bridge.specs.declared.port_state.BridgePortState.{BridgePortState}
use Rattle.npr_link_bridge.specs.declared.port_state.BridgePortState.TheVariants.{Disabled, Listening, Learning, Forwarding, Blocking, Other}
use Rattle.npr_link_bridge.specs.contracts.port_state.BridgePortState.{enum}

-- in the order of the variants
abbrev pub port_state_rows : List (ℕ × BridgePortState)
port_state_rows =
    (0, Disabled) ∷ (1, Listening) ∷ (2, Learning) ∷ (3, Forwarding) ∷ (4, Blocking) ∷ []

-- the value that a number reads as, and the number that one is written as
abbrev pub port_states : Numbering ℕ BridgePortState
port_states = enumeration enum port_state_rows Other (λ f. f.0) (λ d. refl) refl

-- how one is read and written
abbrev pub port_state : Layout BridgePortState
port_state = formed byte port_states
