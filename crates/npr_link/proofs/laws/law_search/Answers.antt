use Rattle.npr_link.specs.lemmas.Governing.{search-governs}
use Rattle.npr_link.specs.InfoList.{read-searched, searched-reads, fault-searched}
use Rattle.npr_link.proofs.laws.law_search.Goals as goal

pub returns : goal.returns
returns c = record {
  governs = search-governs;
  reads = read-searched;
  back = λ bytes ms c old new s is. searched-reads bytes ms c old new is s;
  refused = fault-searched;
}
