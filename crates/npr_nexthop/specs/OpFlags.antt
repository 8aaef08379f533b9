-- What is asked of a next hop, or answered: every bit is kept (NHA_OP_FLAG_* of linux/nexthop.h).
use Rattle.std.specs.Prelude.{ℕ}
use Rattle.std.proofs.Common.{refl}
use Rattle.npr_base.specs.Layout.{Layout, le32, formed}
use Rattle.npr_base.specs.Numbering.{Numbering}
use Rattle.npr_nexthop.specs.declared.op_flags.NextHopOpFlags.{NextHopOpFlags}

-- the set of these bits, and the bits of a set
abbrev pub op_flag_bits : Numbering ℕ NextHopOpFlags
op_flag_bits = record { of = λ bits. record { 0 = bits }; number = λ flags. flags.0; back = λ bits. refl }

-- how one is read and written
abbrev pub op_flags : Layout NextHopOpFlags
op_flags = formed le32 op_flag_bits
