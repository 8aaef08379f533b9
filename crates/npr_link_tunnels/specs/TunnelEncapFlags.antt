-- The checksums of what stands between IP and a tunnel of IP: every bit is kept (TUNNEL_ENCAP_FLAG_* of linux/if_tunnel.h).
use Rattle.std.specs.Prelude.{ℕ}
use Rattle.std.proofs.Common.{refl}
use Rattle.npr_base.specs.Layout.{Layout, le16, formed}
use Rattle.npr_base.specs.Numbering.{Numbering}
use Rattle.npr_link_tunnels.specs.declared.tunnel_encap_flags.TunnelEncapFlags.{TunnelEncapFlags}

-- the set of these bits, and the bits of a set
abbrev pub tunnel_encap_flag_bits : Numbering ℕ TunnelEncapFlags
tunnel_encap_flag_bits = record { of = λ bits. record { 0 = bits }; number = λ flags. flags.0; back = λ bits. refl }

-- how one is read and written
abbrev pub tunnel_encap_flags : Layout TunnelEncapFlags
tunnel_encap_flags = formed le16 tunnel_encap_flag_bits
