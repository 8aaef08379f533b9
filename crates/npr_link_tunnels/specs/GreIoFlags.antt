-- What stands in the headers of GRE: every bit is kept (GRE_* of linux/if_tunnel.h).
use Rattle.std.specs.Prelude.{ℕ}
use Rattle.std.proofs.Common.{refl}
use Rattle.npr_base.specs.Layout.{Layout, be16, formed}
use Rattle.npr_base.specs.Numbering.{Numbering}
use Rattle.npr_link_tunnels.specs.declared.gre_io_flags.GreIOFlags.{GreIOFlags}

-- the set of these bits, and the bits of a set
abbrev pub gre_io_flag_bits : Numbering ℕ GreIOFlags
gre_io_flag_bits = record { of = λ bits. record { 0 = bits }; number = λ flags. flags.0; back = λ bits. refl }

-- how one is read and written
abbrev pub gre_io_flags : Layout GreIOFlags
gre_io_flags = formed be16 gre_io_flag_bits
