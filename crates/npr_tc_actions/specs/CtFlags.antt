-- What an action does with the connection of a packet: every bit is kept (linux/tc_act/tc_ct.h).
use Rattle.std.specs.Prelude.{ℕ}
use Rattle.std.proofs.Common.{refl}
use Rattle.npr_base.specs.Layout.{Layout, formed, le16}
use Rattle.npr_base.specs.Numbering.{Numbering}
use Rattle.npr_tc_actions.specs.declared.ct_flags.TcCtFlags.{TcCtFlags}

-- the set of these bits, and the bits of a set
abbrev pub ct_flag_bits : Numbering ℕ TcCtFlags
ct_flag_bits = record { of = λ bits. record { 0 = bits }; number = λ flags. flags.0; back = λ bits. refl }

-- 2 bytes, little endian
abbrev pub ct_flags : Layout TcCtFlags
ct_flags = formed le16 ct_flag_bits
