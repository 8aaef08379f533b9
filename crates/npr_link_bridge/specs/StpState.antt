-- Who runs the spanning tree of a bridge, by the table: `BR_NO_STP`, `BR_KERNEL_STP` and `BR_USER_STP` of `net/bridge/br_private.h`.
use Rattle.std.specs.Prelude.{ℕ, List, [], ◌∷◌}
use Rattle.std.proofs.Common.{refl}
use Rattle.npr_base.specs.Layout.{Layout, le32, formed}
use Rattle.npr_base.specs.Numbering.{Numbering}
use Rattle.npr_base.specs.Enumeration.{enumeration}
use Rattle.npr_link_bridge.specs.declared.stp_state.BridgeStpState.{BridgeStpState}
use Rattle.npr_link_bridge.specs.declared.stp_state.BridgeStpState.TheVariants.{Disabled, KernelStp, UserStp, Other}
use Rattle.npr_link_bridge.specs.contracts.stp_state.BridgeStpState.{enum}

-- in the order of the variants
abbrev pub stp_state_rows : List (ℕ × BridgeStpState)
stp_state_rows =
    (0, Disabled) ∷ (1, KernelStp) ∷ (2, UserStp) ∷ []

-- the value that a number reads as, and the number that one is written as
abbrev pub stp_states : Numbering ℕ BridgeStpState
stp_states = enumeration enum stp_state_rows Other (λ f. f.0) (λ d. refl) refl

-- how one is read and written
abbrev pub stp_state : Layout BridgeStpState
stp_state = formed le32 stp_states
