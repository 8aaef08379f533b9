use Rattle.std.proofs.Common.{◌≡◌, rules, ap, ◌∙◌}
use mir.Syntax.{w32}
use mir.Val.{to_z, of_z}
use Rattle.npr_route_values.specs.IpProtocol.{ip_protocols}
use Rattle.npr_route_values.proofs.ip_protocol.IpProtocolFromU8.from.Goals as goal

pub returns : goal.returns
returns c =
    let e : to_z w32 (of_z w32 c.from.result) ≡ c.from.result = search rules in
    c.from-2.ensures ∙ ap ip_protocols.of (e ∙ c.from.ensures)
