use Rattle.std.proofs.Common.{sym, rules}
use Rattle.npr_base.specs.Rows.{numbered}
use Rattle.npr_link.specs.declared.layer_type.LinkLayerType.TheVariants.{Other}
use Rattle.npr_link.specs.LayerType.{layer_type_rows}
use Rattle.npr_link.proofs.Absent.{IsAbsent, form_in-other}
use Rattle.npr_link.proofs.layer_type.LinkLayerTypeFromU16.from.Goals as goal

pub returns-in_default : goal.returns-in_default
returns-in_default c =
    let absent : IsAbsent (numbered layer_type_rows) c.args.number = search rules depth 200 in
    sym (form_in-other Other (numbered layer_type_rows) c.args.number absent)
