use Rattle.std.proofs.Common.{refl, rules}
use Rattle.npr_base.specs.Name.{IsName}
use Rattle.npr_link.specs.InfoKind.{info_kind_names, info_kind_of}
use Rattle.npr_link.specs.Kinds.{known_reads}
use Rattle.npr_link.proofs.info_kind.InfoKind.read.Goals as goal

pub returns-in_ok-named-in-Ok-clause-ok : goal.returns-in_ok-named-in-Ok-clause-ok
returns-in_ok-named-in-Ok-clause-ok c =
    let text = c.in-Ok.text.now in
    let name : IsName c.args.bytes.now text = search rules in
    known_reads info_kind_names c.args.bytes.now text text (info_kind_of c.in_ok-named-in-Ok.field-0) name refl c.in_ok-named-in-Ok.ensures.ok
