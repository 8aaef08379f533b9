-- How a link makes its address of IP version 6, by the table: `IN6_ADDR_GEN_MODE_*` of `linux/if_link.h`.
use Rattle.std.specs.Prelude.{ℕ, List, [], ◌∷◌, codes}
use Rattle.std.proofs.Common.{refl}
use Rattle.npr_base.specs.Layout.{Layout, byte, formed}
use Rattle.npr_base.specs.Numbering.{Numbering}
use Rattle.npr_base.specs.Rows.{Named, numbered, text_in}
use Rattle.npr_base.specs.Enumeration.{enumeration}
use Rattle.npr_base.specs.Text.{other_text}
use Rattle.npr_link.specs.declared.address_mode.In6AddrGenMode.{In6AddrGenMode}
use Rattle.npr_link.specs.declared.address_mode.In6AddrGenMode.TheVariants.{Eui64, None, StablePrivacy, Random, Other}
use Rattle.npr_link.specs.contracts.address_mode.In6AddrGenMode.{enum}

-- in the order of the variants
abbrev pub address_mode_rows : List (Named In6AddrGenMode)
address_mode_rows =
    (0, Eui64, codes "eui64") ∷ (1, None, codes "none") ∷ (2, StablePrivacy, codes "stable_secret") ∷ (3, Random, codes "random") ∷ []

-- the value that a number reads as, and the number that one is written as
abbrev pub address_modes : Numbering ℕ In6AddrGenMode
address_modes = enumeration enum (numbered address_mode_rows) Other (λ f. f.0) (λ d. refl) refl

-- how one is read and written
abbrev pub address_mode : Layout In6AddrGenMode
address_mode = formed byte address_modes

-- the text of one: its name, and of any other its number
abbrev pub address_mode_text : In6AddrGenMode → List ℕ
address_mode_text x = text_in enum address_mode_rows (λ f. other_text f.0) x
