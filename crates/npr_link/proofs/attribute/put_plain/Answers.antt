use Rattle.std.proofs.Common.{rules, sym, subst}
use Rattle.npr_base.specs.Framing.{number_of}
use Rattle.npr_link.specs.Attribute.{IsFlat}
use Rattle.npr_link.specs.declared.attribute.LinkAttribute.{LinkAttribute}
use Rattle.npr_link.proofs.Unlisted.{NoneOf, flat_numbers, flat-kept}
use Rattle.npr_link.proofs.attribute.put_plain.Goals as goal

-- where the search comes to its bound
pub flat_rows-put_exactly-requires-in-10-clause-row : goal.flat_rows-put_exactly-requires-in-10-clause-row
unfolding IsFlat
flat_rows-put_exactly-requires-in-10-clause-row g c =
    λ x a reads is. subst (λ (b : LinkAttribute). IsFlat 10 c.args.item.now b) (sym is) reads

pub returns-in_Continue-flat_rows-flat_rows-clause-ok : goal.returns-in_Continue-flat_rows-flat_rows-clause-ok
returns-in_Continue-flat_rows-flat_rows-clause-ok g c =
    let none = subst (NoneOf flat_numbers) c.flat_rows-kind.ensures c.in_default.in_default-own.rest in
    search (rules, flat-kept (number_of c.args.item.now.kind) none)
