-- How a SEG6 header is put in (linux/seg6_iptunnel.h, SEG6_IPTUN_MODE_*), by its table.
use Rattle.std.specs.Prelude.{◌≡◌, ℕ, true, List, [], ◌∷◌}
use Rattle.std.proofs.Common.{refl}
use Rattle.npr_base.specs.Numbering.{Numbering}
use Rattle.npr_base.specs.Rows.{agrees, number_in}
use Rattle.npr_base.specs.Enumeration.{by_rows}
use Rattle.npr_srh.specs.declared.seg6_mode.Seg6Mode.{Seg6Mode}
use Rattle.npr_srh.specs.declared.seg6_mode.Seg6Mode.TheVariants.{Inline, Encap, L2Encap, EncapRed, L2EncapRed, Other}
use Rattle.npr_srh.specs.contracts.seg6_mode.Seg6Mode.{enum}

-- the table of today, in the order of the variants
abbrev pub mode_rows : List (ℕ × Seg6Mode)
mode_rows = (0, Inline) ∷ (1, Encap) ∷ (2, L2Encap) ∷ (3, EncapRed) ∷ (4, L2EncapRed) ∷ []

-- the number that a mode is written as
abbrev pub mode_number : Seg6Mode → ℕ
mode_number mode = number_in enum mode_rows (λ f. f.0) mode

-- a table of modes, each by the number that it is written as
pub record ModeTable : Type 0 where
  pub rows : List (ℕ × Seg6Mode)
  pub agree : agrees mode_number rows ≡ true

-- the first table, in which two modes have a name
abbrev pub first_modes : ModeTable
first_modes = record { rows = (0, Inline) ∷ (1, Encap) ∷ []; agree = refl }

abbrev pub modes : ModeTable
modes = record { rows = mode_rows; agree = refl }

-- the modes by a table, and by that of today
abbrev pub modes_by : ModeTable → Numbering ℕ Seg6Mode
modes_by table = by_rows mode_number Other table.rows (λ d. refl) table.agree

abbrev pub seg6_modes : Numbering ℕ Seg6Mode
seg6_modes = modes_by modes
