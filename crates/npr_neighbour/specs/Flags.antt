-- Sets of flags of a neighbour (linux/neighbour.h, NTF_*, NTF_EXT_* and FDB_NOTIFY_*): every bit is kept.
use Rattle.std.specs.Prelude.{ℕ}
use Rattle.std.proofs.Common.{refl}
use Rattle.npr_base.specs.Layout.{Layout, byte, le32, formed}
use Rattle.npr_base.specs.Numbering.{Numbering}
use Rattle.npr_neighbour.specs.declared.flags.NeighbourFlags.{NeighbourFlags}
use Rattle.npr_neighbour.specs.declared.flags.NeighbourExtFlags.{NeighbourExtFlags}
use Rattle.npr_neighbour.specs.declared.flags.NeighbourFdbNotify.{NeighbourFdbNotify}

-- the set of these bits, and the bits of a set
abbrev pub flag_bits : Numbering ℕ NeighbourFlags
flag_bits = record { of = λ bits. record { 0 = bits }; number = λ flags. flags.0; back = λ bits. refl }

abbrev pub ext_flag_bits : Numbering ℕ NeighbourExtFlags
ext_flag_bits = record { of = λ bits. record { 0 = bits }; number = λ flags. flags.0; back = λ bits. refl }

abbrev pub fdb_notify_bits : Numbering ℕ NeighbourFdbNotify
fdb_notify_bits = record { of = λ bits. record { 0 = bits }; number = λ flags. flags.0; back = λ bits. refl }

-- how one is read and written
abbrev pub flag_mask : Layout NeighbourFlags
flag_mask = formed byte flag_bits

abbrev pub fdb_notify : Layout NeighbourFdbNotify
fdb_notify = formed byte fdb_notify_bits

abbrev pub ext_flags : Layout NeighbourExtFlags
ext_flags = formed le32 ext_flag_bits
