-- What a link is up for, by the table: `IF_LINK_MODE_*` of `linux/if.h`.
use Rattle.std.specs.Prelude.{ℕ, List, [], ◌∷◌, codes, decimal, ◌++◌}
use Rattle.std.proofs.Common.{refl}
use Rattle.npr_base.specs.Layout.{Layout, byte, formed}
use Rattle.npr_base.specs.Numbering.{Numbering}
use Rattle.npr_base.specs.Rows.{Named, numbered, text_in}
use Rattle.npr_base.specs.Enumeration.{enumeration}
use Rattle.npr_link.specs.declared.link_mode.LinkMode.{LinkMode}
use Rattle.npr_link.specs.declared.link_mode.LinkMode.TheVariants.{Default, Dormant, Testing, Other}
use Rattle.npr_link.specs.contracts.link_mode.LinkMode.{enum}

-- in the order of the variants
abbrev pub link_mode_rows : List (Named LinkMode)
link_mode_rows =
    (0, Default, codes "DEFAULT") ∷ (1, Dormant, codes "DORMANT") ∷ (2, Testing, codes "TESTING") ∷ []

-- the value that a number reads as, and the number that one is written as
abbrev pub link_modes : Numbering ℕ LinkMode
link_modes = enumeration enum (numbered link_mode_rows) Other (λ f. f.0) (λ d. refl) refl

-- how one is read and written
abbrev pub link_mode : Layout LinkMode
link_mode = formed byte link_modes

-- the text of one: its name, and of any other its number
abbrev pub link_mode_text : LinkMode → List ℕ
link_mode_text x = text_in enum link_mode_rows (λ f. codes "UNKNOWN:" ++ decimal f.0) x
