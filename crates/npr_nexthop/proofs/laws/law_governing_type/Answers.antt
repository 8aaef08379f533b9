use Rattle.npr_base.specs.lemmas.FirstTold.{governs-one, first_governs}
use Rattle.npr_encapsulation.specs.declared.encap_type.RouteLwEnCapType.TheVariants.{None as NoEncapsulation}
use Rattle.npr_nexthop.specs.Attribute.{attributes}
use Rattle.npr_nexthop.specs.Governing.{alike, item_type, meaning_type}
use Rattle.npr_nexthop.specs.Message.{context_of}
use Rattle.npr_nexthop.proofs.laws.law_governing_type.Goals as goal

pub returns : goal.returns
returns c = record {
  one = λ a b bytes p q. governs-one item_type NoEncapsulation bytes a b p q;
  first = λ h bytes xs p.
      first_governs item_type NoEncapsulation meaning_type (attributes (context_of h p.0)).Reads (alike (context_of h p.0)) bytes xs p.2;
}
