-- What becomes of what a packet carries besides its bytes, by the table: `enum netkit_scrub` of `linux/if_link.h`.
use Rattle.std.specs.Prelude.{ℕ, List, [], ◌∷◌}
use Rattle.std.proofs.Common.{refl}
use Rattle.npr_base.specs.Layout.{Layout, le32, formed}
use Rattle.npr_base.specs.Numbering.{Numbering}
use Rattle.npr_base.specs.Enumeration.{enumeration}
use Rattle.npr_link.specs.declared.netkit_scrub.NetkitScrub.{NetkitScrub}
use Rattle.npr_link.specs.declared.netkit_scrub.NetkitScrub.TheVariants.{None, Default, Other}
use Rattle.npr_link.specs.contracts.netkit_scrub.NetkitScrub.{enum}

-- in the order of the variants
abbrev pub netkit_scrub_rows : List (ℕ × NetkitScrub)
netkit_scrub_rows =
    (0, None) ∷ (1, Default) ∷ []

-- the value that a number reads as, and the number that one is written as
abbrev pub netkit_scrubs : Numbering ℕ NetkitScrub
netkit_scrubs = enumeration enum netkit_scrub_rows Other (λ f. f.0) (λ d. refl) refl

-- how one is read and written
abbrev pub netkit_scrub : Layout NetkitScrub
netkit_scrub = formed le32 netkit_scrubs
