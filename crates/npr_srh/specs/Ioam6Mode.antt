-- How an IOAM trace is put in (linux/ioam6_iptunnel.h, IOAM6_IPTUNNEL_MODE_*), by its table.
use Rattle.std.specs.Prelude.{ℕ, List, [], ◌∷◌, codes}
use Rattle.std.proofs.Common.{refl}
use Rattle.npr_base.specs.Layout.{Layout, byte, formed}
use Rattle.npr_base.specs.Numbering.{Numbering}
use Rattle.npr_base.specs.Rows.{Named, numbered, text_in}
use Rattle.npr_base.specs.Enumeration.{enumeration}
use Rattle.npr_base.specs.Text.{other_text}
use Rattle.npr_srh.specs.declared.ioam6.Ioam6Mode.{Ioam6Mode}
use Rattle.npr_srh.specs.declared.ioam6.Ioam6Mode.TheVariants.{Inline, Encap, Auto, Other}
use Rattle.npr_srh.specs.contracts.ioam6.Ioam6Mode.{enum}

-- in the order of the variants
abbrev pub ioam6_mode_rows : List (Named Ioam6Mode)
ioam6_mode_rows = (1, Inline, codes "inline") ∷ (2, Encap, codes "encap") ∷ (3, Auto, codes "auto") ∷ []

-- the mode that a number reads as, and the number that one is written as
abbrev pub ioam6_modes : Numbering ℕ Ioam6Mode
ioam6_modes = enumeration enum (numbered ioam6_mode_rows) Other (λ f. f.0) (λ d. refl) refl

-- how one is read and written
abbrev pub ioam6_mode : Layout Ioam6Mode
ioam6_mode = formed byte ioam6_modes

-- the text of a mode
abbrev pub ioam6_mode_text : Ioam6Mode → List ℕ
ioam6_mode_text x = text_in enum ioam6_mode_rows (λ f. other_text f.0) x
