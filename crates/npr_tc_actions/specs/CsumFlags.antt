-- Which checksums an action makes anew: every bit is kept (linux/tc_act/tc_csum.h).
use Rattle.std.specs.Prelude.{ℕ}
use Rattle.std.proofs.Common.{refl}
use Rattle.npr_base.specs.Layout.{Layout, formed, le32}
use Rattle.npr_base.specs.Numbering.{Numbering}
use Rattle.npr_tc_actions.specs.declared.csum_flags.TcCsumFlags.{TcCsumFlags}

-- the set of these bits, and the bits of a set
abbrev pub csum_flag_bits : Numbering ℕ TcCsumFlags
csum_flag_bits = record { of = λ bits. record { 0 = bits }; number = λ flags. flags.0; back = λ bits. refl }

-- 4 bytes, little endian
abbrev pub csum_flags : Layout TcCsumFlags
csum_flags = formed le32 csum_flag_bits
