-- The flags of a tunnel over IP version 6: every bit is kept (IP6_TNL_F_* of linux/ip6_tunnel.h, and of the kernel's net/ip6_tunnel.h).
use Rattle.std.specs.Prelude.{ℕ}
use Rattle.std.proofs.Common.{refl}
use Rattle.npr_base.specs.Layout.{Layout, le32, formed}
use Rattle.npr_base.specs.Numbering.{Numbering}
use Rattle.npr_link_tunnels.specs.declared.ip6_tunnel_flags.Ip6TunnelFlags.{Ip6TunnelFlags}

-- the set of these bits, and the bits of a set
abbrev pub ip6_tunnel_flag_bits : Numbering ℕ Ip6TunnelFlags
ip6_tunnel_flag_bits = record { of = λ bits. record { 0 = bits }; number = λ flags. flags.0; back = λ bits. refl }

-- how one is read and written
abbrev pub ip6_tunnel_flags : Layout Ip6TunnelFlags
ip6_tunnel_flags = formed le32 ip6_tunnel_flag_bits
