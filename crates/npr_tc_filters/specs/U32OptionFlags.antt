-- What devices do with a filter: every bit is kept (TCA_CLS_FLAGS_* of linux/pkt_cls.h).
use Rattle.std.specs.Prelude.{ℕ}
use Rattle.std.proofs.Common.{refl}
use Rattle.npr_base.specs.Layout.{Layout, le32, formed}
use Rattle.npr_base.specs.Numbering.{Numbering}
use Rattle.npr_tc_filters.specs.declared.u32_option_flags.TcU32OptionFlags.{TcU32OptionFlags}

-- the set of these bits, and the bits of a set
abbrev pub u32_option_flag_bits : Numbering ℕ TcU32OptionFlags
u32_option_flag_bits = record { of = λ bits. record { 0 = bits }; number = λ flags. flags.0; back = λ bits. refl }

-- how one is read and written
abbrev pub u32_option_flags : Layout TcU32OptionFlags
u32_option_flags = formed le32 u32_option_flag_bits
