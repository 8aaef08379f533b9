-- By which classes of service `cake` tells its tins apart (linux/pkt_sched.h, CAKE_DIFFSERV_*), by the table.
use Rattle.std.specs.Prelude.{ℕ, List, [], ◌∷◌}
use Rattle.std.proofs.Common.{refl}
use Rattle.npr_base.specs.Enumeration.{enumeration}
use Rattle.npr_base.specs.Layout.{Layout, formed, le32}
use Rattle.npr_base.specs.Numbering.{Numbering}
use Rattle.npr_tc_qdiscs.specs.contracts.cake_diffserv_mode.TcCakeDiffservMode.{enum}
use Rattle.npr_tc_qdiscs.specs.declared.cake_diffserv_mode.TcCakeDiffservMode.{TcCakeDiffservMode}
use Rattle.npr_tc_qdiscs.specs.declared.cake_diffserv_mode.TcCakeDiffservMode.TheVariants.{Diffserv3, Diffserv4, Diffserv8, BestEffort, Precedence, Other}

-- in the order of the variants
abbrev pub cake_diffserv_mode_rows : List (ℕ × TcCakeDiffservMode)
cake_diffserv_mode_rows = (0, Diffserv3) ∷ (1, Diffserv4) ∷ (2, Diffserv8) ∷ (3, BestEffort) ∷ (4, Precedence) ∷ []

abbrev pub cake_diffserv_modes : Numbering ℕ TcCakeDiffservMode
cake_diffserv_modes = enumeration enum cake_diffserv_mode_rows Other (λ f. f.0) (λ d. refl) refl

-- four bytes, little endian
abbrev pub cake_diffserv_mode : Layout TcCakeDiffservMode
cake_diffserv_mode = formed le32 cake_diffserv_modes
