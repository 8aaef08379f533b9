use Rattle.npr_encapsulation.specs.EncapType.{encap_types}
use Rattle.npr_encapsulation.proofs.laws.law_encap_type_number.Goals as goal

pub returns : goal.returns
returns c = encap_types.back
