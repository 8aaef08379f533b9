-- What a u32 filter does where it matches: every bit is kept (TC_U32_* of linux/pkt_cls.h).
use Rattle.std.specs.Prelude.{ℕ}
use Rattle.std.proofs.Common.{refl}
use Rattle.npr_base.specs.Numbering.{Numbering}
use Rattle.npr_tc_filters.specs.declared.u32_selector_flags.TcU32SelectorFlags.{TcU32SelectorFlags}

-- the set of these bits, and the bits of a set
abbrev pub u32_selector_flag_bits : Numbering ℕ TcU32SelectorFlags
u32_selector_flag_bits = record { of = λ bits. record { 0 = bits }; number = λ flags. flags.0; back = λ bits. refl }
