use Rattle.std.proofs.lemmas.Option.{IfSome_then}
use Rattle.npr_names.proofs.Lengths.{name_fits}
use Rattle.npr_names.proofs.names.attribute_name.Goals as goal

pub returns-clause-longest : goal.returns-clause-longest
returns-clause-longest c =
    IfSome_then c.listed_name.result c.listed_name.ensures.name (λ name at. name_fits c.args.set c.args.number name.now at)
