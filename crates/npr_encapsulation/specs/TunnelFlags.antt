-- Sets of flags of tunnels over IP: every bit is kept.
use Rattle.std.specs.Prelude.{ℕ, List, [], ◌++◌, if◌then◌else◌, codes}
use Rattle.std.proofs.Common.{refl}
use Rattle.npr_base.specs.Text.{is_set}
use Rattle.npr_base.specs.Numbering.{Numbering}
use Rattle.npr_encapsulation.specs.declared.flags.RouteIpTunnelFlags.{RouteIpTunnelFlags}
use Rattle.npr_encapsulation.specs.declared.flags.RouteIp6TunnelFlags.{RouteIp6TunnelFlags}

-- the set of these bits, and the bits of a set
abbrev pub ip_flag_bits : Numbering ℕ RouteIpTunnelFlags
ip_flag_bits = record { of = λ bits. record { 0 = bits }; number = λ flags. flags.0; back = λ bits. refl }

abbrev pub ip6_flag_bits : Numbering ℕ RouteIp6TunnelFlags
ip6_flag_bits = record { of = λ bits. record { 0 = bits }; number = λ flags. flags.0; back = λ bits. refl }

-- the name of a flag and a space, where its bit is set
abbrev pub flag_text : ℕ → ℕ → List ℕ → List ℕ
flag_text bits flag name = if is_set bits flag then name ++ codes " " else []

-- the text of a set: `TUNNEL_KEY`, `TUNNEL_CSUM` and `TUNNEL_SEQ` of linux/if_tunnel.h, in this order
abbrev pub flags_text : ℕ → List ℕ
flags_text bits = flag_text bits 0x4 (codes "key") ++ flag_text bits 0x1 (codes "csum") ++ flag_text bits 0x8 (codes "seq")
