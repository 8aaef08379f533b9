-- What packets of a netkit begin with, by the table: `enum netkit_mode` of `linux/if_link.h`.
use Rattle.std.specs.Prelude.{ℕ, List, [], ◌∷◌}
use Rattle.std.proofs.Common.{refl}
use Rattle.npr_base.specs.Layout.{Layout, le32, formed}
use Rattle.npr_base.specs.Numbering.{Numbering}
use Rattle.npr_base.specs.Enumeration.{enumeration}
use Rattle.npr_link.specs.declared.netkit_mode.NetkitMode.{NetkitMode}
use Rattle.npr_link.specs.declared.netkit_mode.NetkitMode.TheVariants.{L2, L3, Other}
use Rattle.npr_link.specs.contracts.netkit_mode.NetkitMode.{enum}

-- in the order of the variants
abbrev pub netkit_mode_rows : List (ℕ × NetkitMode)
netkit_mode_rows =
    (0, L2) ∷ (1, L3) ∷ []

-- the value that a number reads as, and the number that one is written as
abbrev pub netkit_modes : Numbering ℕ NetkitMode
netkit_modes = enumeration enum netkit_mode_rows Other (λ f. f.0) (λ d. refl) refl

-- how one is read and written
abbrev pub netkit_mode : Layout NetkitMode
netkit_mode = formed le32 netkit_modes
