-- What a link does for IP version 6: every bit is kept (IF_RS_SENT and the like of net/if_inet6.h).
use Rattle.std.specs.Prelude.{ℕ}
use Rattle.std.proofs.Common.{refl}
use Rattle.npr_base.specs.Layout.{Layout, le32, formed}
use Rattle.npr_base.specs.Numbering.{Numbering}
use Rattle.npr_link.specs.declared.inet6_flags.Inet6IfaceFlags.{Inet6IfaceFlags}

-- the set of these bits, and the bits of a set
abbrev pub inet6_flag_bits : Numbering ℕ Inet6IfaceFlags
inet6_flag_bits = record { of = λ bits. record { 0 = bits }; number = λ flags. flags.0; back = λ bits. refl }

-- how one is read and written
abbrev pub inet6_flags : Layout Inet6IfaceFlags
inet6_flags = formed le32 inet6_flag_bits
