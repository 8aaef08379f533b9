use Rattle.std.proofs.Common.{◌≡◌, sym, ◌∙◌, subst}
use Rattle.npr_base.specs.Counts.{SawEach}
use Rattle.npr_base.proofs.attribute.Attribute.read.Goals as goal

pub returns-clause-counted : goal.returns-clause-counted
returns-clause-counted g c =
    let family = g.Self.Attribute.family in
    let (a, put, reads) = c.in_ok-read_into.ensures.ok in
    let same : a ≡ c.in-Some.attribute = let e = sym put ∙ c.in-Some.is in cc in
    let saw = (family.reading c.args.context).saw c.args.item.now (family.meaning a) c.args.looks.now c.read_into.new.looks reads (c.in_ok-read_into.ensures.exact tt) in
    subst (λ (b : _). SawEach c.args.looks.now c.read_into.new.looks (family.writing.members (family.meaning b))) same saw
