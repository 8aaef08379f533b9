-- By what `cake` tells flows apart (linux/pkt_sched.h, CAKE_FLOW_*), by the table.
use Rattle.std.specs.Prelude.{ℕ, List, [], ◌∷◌}
use Rattle.std.proofs.Common.{refl}
use Rattle.npr_base.specs.Enumeration.{enumeration}
use Rattle.npr_base.specs.Layout.{Layout, formed, le32}
use Rattle.npr_base.specs.Numbering.{Numbering}
use Rattle.npr_tc_qdiscs.specs.contracts.cake_flow_mode.TcCakeFlowMode.{enum}
use Rattle.npr_tc_qdiscs.specs.declared.cake_flow_mode.TcCakeFlowMode.{TcCakeFlowMode}
use Rattle.npr_tc_qdiscs.specs.declared.cake_flow_mode.TcCakeFlowMode.TheVariants.{None, SrcIp, DstIp, Hosts, Flows, DualSrc, DualDst, Triple, Other}

-- in the order of the variants
abbrev pub cake_flow_mode_rows : List (ℕ × TcCakeFlowMode)
cake_flow_mode_rows = (0, None) ∷ (1, SrcIp) ∷ (2, DstIp) ∷ (3, Hosts) ∷ (4, Flows) ∷ (5, DualSrc) ∷ (6, DualDst) ∷ (7, Triple) ∷ []

abbrev pub cake_flow_modes : Numbering ℕ TcCakeFlowMode
cake_flow_modes = enumeration enum cake_flow_mode_rows Other (λ f. f.0) (λ d. refl) refl

-- four bytes, little endian
abbrev pub cake_flow_mode : Layout TcCakeFlowMode
cake_flow_mode = formed le32 cake_flow_modes
