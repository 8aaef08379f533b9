-- In which cells a link of `cake` sends (linux/pkt_sched.h, CAKE_ATM_*), by the table.
use Rattle.std.specs.Prelude.{ℕ, List, [], ◌∷◌}
use Rattle.std.proofs.Common.{refl}
use Rattle.npr_base.specs.Enumeration.{enumeration}
use Rattle.npr_base.specs.Layout.{Layout, formed, le32}
use Rattle.npr_base.specs.Numbering.{Numbering}
use Rattle.npr_tc_qdiscs.specs.contracts.cake_atm.TcCakeAtm.{enum}
use Rattle.npr_tc_qdiscs.specs.declared.cake_atm.TcCakeAtm.{TcCakeAtm}
use Rattle.npr_tc_qdiscs.specs.declared.cake_atm.TcCakeAtm.TheVariants.{None, Atm, Ptm, Other}

-- in the order of the variants
abbrev pub cake_atm_rows : List (ℕ × TcCakeAtm)
cake_atm_rows = (0, None) ∷ (1, Atm) ∷ (2, Ptm) ∷ []

abbrev pub cake_atms : Numbering ℕ TcCakeAtm
cake_atms = enumeration enum cake_atm_rows Other (λ f. f.0) (λ d. refl) refl

-- four bytes, little endian
abbrev pub cake_atm : Layout TcCakeAtm
cake_atm = formed le32 cake_atms
