use Rattle.std.proofs.Common.{◌≡◌, rules, sym, ap, ◌∙◌}
use mir.Syntax.{w32}
use mir.Val.{to_z, of_z}
use Rattle.npr_route_values.specs.declared.ip_protocol.IpProtocol.TheVariants.{Other}
use Rattle.npr_route_values.specs.IpProtocol.{ip_protocol_rows}
use Rattle.npr_route_values.proofs.Numbers.{IsAbsent, signed_form_in-other}
use Rattle.npr_route_values.proofs.ip_protocol.IpProtocolFromI32.from.Goals as goal

pub returns-in_default : goal.returns-in_default
returns-in_default c =
    let absent : IsAbsent ip_protocol_rows c.args.number = search rules in
    let e : to_z w32 (of_z w32 c.args.number) ≡ c.args.number = search rules in
    ap Other e ∙ sym (signed_form_in-other Other ip_protocol_rows c.args.number absent)
