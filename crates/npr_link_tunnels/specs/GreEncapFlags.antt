-- The checksums of what stands between IP and a tunnel of GRE: every bit is kept (TUNNEL_ENCAP_FLAG_* of linux/if_tunnel.h).
use Rattle.std.specs.Prelude.{ℕ}
use Rattle.std.proofs.Common.{refl}
use Rattle.npr_base.specs.Layout.{Layout, le16, formed}
use Rattle.npr_base.specs.Numbering.{Numbering}
use Rattle.npr_link_tunnels.specs.declared.gre_encap_flags.GreEncapFlags.{GreEncapFlags}

-- the set of these bits, and the bits of a set
abbrev pub gre_encap_flag_bits : Numbering ℕ GreEncapFlags
gre_encap_flag_bits = record { of = λ bits. record { 0 = bits }; number = λ flags. flags.0; back = λ bits. refl }

-- how one is read and written
abbrev pub gre_encap_flags : Layout GreEncapFlags
gre_encap_flags = formed le16 gre_encap_flag_bits
