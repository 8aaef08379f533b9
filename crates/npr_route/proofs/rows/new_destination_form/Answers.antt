use Rattle.std.proofs.Common.{◌∙◌}
use Rattle.npr_route.proofs.RouteRows.{labels_form, address_form}
use Rattle.npr_route.proofs.rows.new_destination_form.Goals as goal

pub returns-in-Mpls : goal.returns-in-Mpls
returns-in-Mpls c = labels_form c.args.family c.in-Mpls.is

pub returns-in_default : goal.returns-in_default
returns-in_default c = c.form.ensures ∙ address_form c.args.family c.in_default.not-Mpls
