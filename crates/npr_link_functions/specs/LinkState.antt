-- What state the link of a virtual function has, by the table: `IFLA_VF_LINK_STATE_*` of `linux/if_link.h`.
use Rattle.std.specs.Prelude.{ℕ, List, [], ◌∷◌}
use Rattle.std.proofs.Common.{refl}
use Rattle.npr_base.specs.Layout.{Layout, le32, formed}
use Rattle.npr_base.specs.Numbering.{Numbering}
use Rattle.npr_base.specs.Enumeration.{enumeration}
use Rattle.npr_link_functions.specs.declared.link_state.VfLinkState.{VfLinkState}
use Rattle.npr_link_functions.specs.declared.link_state.VfLinkState.TheVariants.{Auto, Enable, Disable, Other}
use Rattle.npr_link_functions.specs.contracts.link_state.VfLinkState.{enum}

-- in the order of the variants
abbrev pub vf_link_state_rows : List (ℕ × VfLinkState)
vf_link_state_rows =
    (0, Auto) ∷ (1, Enable) ∷ (2, Disable) ∷ []

-- the value that a number reads as, and the number that one is written as
abbrev pub vf_link_states : Numbering ℕ VfLinkState
vf_link_states = enumeration enum vf_link_state_rows Other (λ f. f.0) (λ d. refl) refl

-- how one is read and written
abbrev pub vf_link_state : Layout VfLinkState
vf_link_state = formed le32 vf_link_states
