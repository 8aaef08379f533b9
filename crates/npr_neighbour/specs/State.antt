-- How far a neighbour is known (linux/neighbour.h, NUD_*): every bit is kept.
use Rattle.std.specs.Prelude.{ℕ}
use Rattle.std.proofs.Common.{refl}
use Rattle.npr_base.specs.Layout.{Layout, le16, formed}
use Rattle.npr_base.specs.Numbering.{Numbering}
use Rattle.npr_neighbour.specs.declared.state.NeighbourState.{NeighbourState}

-- the set of these bits, and the bits of a set
abbrev pub state_bits : Numbering ℕ NeighbourState
state_bits = record { of = λ bits. record { 0 = bits }; number = λ flags. flags.0; back = λ bits. refl }

-- how a mask of them is read and written
abbrev pub state_mask : Layout NeighbourState
state_mask = formed le16 state_bits
