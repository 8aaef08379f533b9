-- What `==` answers of the values of tunnels that hold no vector: whether they are equal.
use Rattle.std.specs.Cmp.{unsigned_Decides}
use Rattle.std.proofs.Common.{refl, rules}
use Rattle.npr_base.specs.Equality.{IsEquality}
use Rattle.npr_base.proofs.EqualityLaws.{bare_equality, enum_equality, one_equality}
use Rattle.npr_link_tunnels.specs.contracts.form.InfoForm.{the_type as forms}
use Rattle.npr_link_tunnels.specs.contracts.form.InfoFormPartialEq.TheImpl as FormEq
use Rattle.npr_link_tunnels.specs.contracts.geneve_df.GeneveDf.{enum as geneve_df_enum}
use Rattle.npr_link_tunnels.specs.contracts.geneve_df.GeneveDfPartialEq.TheImpl as GeneveDfEq
use Rattle.npr_link_tunnels.specs.contracts.gre_encap_type.GreEncapType.{enum as gre_encap_type_enum}
use Rattle.npr_link_tunnels.specs.contracts.gre_encap_type.GreEncapTypePartialEq.TheImpl as GreEncapTypeEq
use Rattle.npr_link_tunnels.specs.contracts.tunnel_encap_type.TunnelEncapType.{enum as tunnel_encap_type_enum}
use Rattle.npr_link_tunnels.specs.contracts.tunnel_encap_type.TunnelEncapTypePartialEq.TheImpl as TunnelEncapTypeEq
use Rattle.npr_link_tunnels.specs.contracts.gre_io_flags.GreIOFlagsPartialEq.TheImpl as GreIOFlagsEq
use Rattle.npr_link_tunnels.specs.contracts.gre_encap_flags.GreEncapFlagsPartialEq.TheImpl as GreEncapFlagsEq
use Rattle.npr_link_tunnels.specs.contracts.tunnel_encap_flags.TunnelEncapFlagsPartialEq.TheImpl as TunnelEncapFlagsEq
use Rattle.npr_link_tunnels.specs.contracts.ip6_tunnel_flags.Ip6TunnelFlagsPartialEq.TheImpl as Ip6TunnelFlagsEq
use Rattle.npr_link_tunnels.specs.contracts.ovpn_mode.OvpnMode.{enum as ovpn_mode_enum}
use Rattle.npr_link_tunnels.specs.contracts.ovpn_mode.OvpnModePartialEq.TheImpl as OvpnModeEq

-- ---- enumerations

pub form_equality : IsEquality FormEq.ghosts.eq
form_equality = bare_equality forms tt

pub geneve_df_equality : IsEquality GeneveDfEq.ghosts.eq
geneve_df_equality = enum_equality geneve_df_enum _ refl (one_equality unsigned_Decides, tt)

pub gre_encap_type_equality : IsEquality GreEncapTypeEq.ghosts.eq
gre_encap_type_equality = enum_equality gre_encap_type_enum _ refl (one_equality unsigned_Decides, tt)

pub tunnel_encap_type_equality : IsEquality TunnelEncapTypeEq.ghosts.eq
tunnel_encap_type_equality = enum_equality tunnel_encap_type_enum _ refl (one_equality unsigned_Decides, tt)

pub ovpn_mode_equality : IsEquality OvpnModeEq.ghosts.eq
ovpn_mode_equality = enum_equality ovpn_mode_enum _ refl (one_equality unsigned_Decides, tt)

-- ---- flags

pub gre_io_flags_equality : IsEquality GreIOFlagsEq.ghosts.eq
gre_io_flags_equality = search rules

pub gre_encap_flags_equality : IsEquality GreEncapFlagsEq.ghosts.eq
gre_encap_flags_equality = search rules

pub tunnel_encap_flags_equality : IsEquality TunnelEncapFlagsEq.ghosts.eq
tunnel_encap_flags_equality = search rules

pub ip6_tunnel_flags_equality : IsEquality Ip6TunnelFlagsEq.ghosts.eq
ip6_tunnel_flags_equality = search rules
