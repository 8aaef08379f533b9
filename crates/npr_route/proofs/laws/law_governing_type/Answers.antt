use Rattle.npr_base.specs.lemmas.FirstTold.{governs-one}
use Rattle.npr_encapsulation.specs.declared.encap_type.RouteLwEnCapType.TheVariants.{None as NoEncapsulation}
use Rattle.npr_route.specs.Attribute.{attributes_of, typed}
use Rattle.npr_route.specs.Governing.{item_type}
use Rattle.npr_route.specs.lemmas.Governing.{first_governs, all_read}
use Rattle.npr_route.proofs.laws.law_governing_type.Goals as goal

pub returns : goal.returns
returns c = record {
  one = λ outer a b bytes p q. governs-one item_type outer bytes a b p q;
  first = λ under bytes xs p. first_governs NoEncapsulation (under.0, under.1, p.0) bytes (attributes_of xs) (all_read (under.0, under.1, p.0) bytes xs p.2);
  inside = λ k bytes ms p. first_governs k.2 (typed k p.0) bytes ms p.2;
}
