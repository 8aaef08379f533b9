-- How an action changes addresses: every bit is kept (linux/tc_act/tc_nat.h).
use Rattle.std.specs.Prelude.{ℕ}
use Rattle.std.proofs.Common.{refl}
use Rattle.npr_base.specs.Numbering.{Numbering}
use Rattle.npr_tc_actions.specs.declared.nat_flags.TcNatFlags.{TcNatFlags}

-- the set of these bits, and the bits of a set
abbrev pub nat_flag_bits : Numbering ℕ TcNatFlags
nat_flag_bits = record { of = λ bits. record { 0 = bits }; number = λ flags. flags.0; back = λ bits. refl }
