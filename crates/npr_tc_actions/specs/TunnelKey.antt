-- What an action does with the metadata of tunnels (linux/tc_act/tc_tunnel_key.h, struct tc_tunnel_key).
use Rattle.std.proofs.Common.{refl}
use Rattle.npr_base.specs.Fields.{◌fills◌, ◌then◌, last, structure}
use Rattle.npr_base.specs.Layout.{Layout}
use Rattle.npr_base.specs.MoreFields.{signed_four}
use Rattle.npr_tc_actions.specs.Generic.{generic_field}
use Rattle.npr_tc_actions.specs.contracts.tunnel_key.TcTunnelKey.{struct}
use Rattle.npr_tc_actions.specs.declared.tunnel_key.TcTunnelKey.{TcTunnelKey}

-- what every action has, and a number, little endian
abbrev pub tunnel_key : Layout TcTunnelKey
tunnel_key = structure struct (TcTunnelKey.generic fills generic_field then last (TcTunnelKey.t_action fills signed_four)) refl (λ v. tt)
