-- The operational state of a link (RFC 2863), by the table: `IF_OPER_*` of `linux/if.h`.
use Rattle.std.specs.Prelude.{ℕ, List, [], ◌∷◌}
use Rattle.std.proofs.Common.{refl}
use Rattle.npr_base.specs.Layout.{Layout, byte, formed}
use Rattle.npr_base.specs.Numbering.{Numbering}
use Rattle.npr_base.specs.Enumeration.{enumeration}
use Rattle.npr_link.specs.declared.state.State.{State}
use Rattle.npr_link.specs.declared.state.State.TheVariants.{Unknown, NotPresent, Down, LowerLayerDown, Testing, Dormant, Up, Other}
use Rattle.npr_link.specs.contracts.state.State.{enum}

-- in the order of the variants
abbrev pub state_rows : List (ℕ × State)
state_rows =
    (0, Unknown) ∷ (1, NotPresent) ∷ (2, Down) ∷ (3, LowerLayerDown) ∷ (4, Testing) ∷ (5, Dormant) ∷ (6, Up) ∷ []

-- the value that a number reads as, and the number that one is written as
abbrev pub states : Numbering ℕ State
states = enumeration enum state_rows Other (λ f. f.0) (λ d. refl) refl

-- how one is read and written
abbrev pub state : Layout State
state = formed byte states
