use Rattle.std.proofs.Common.{refl}
use Rattle.npr_base.specs.AddressFamily.{families}
use Rattle.npr_base.proofs.laws.law_family_number.Goals as goal

pub returns-clause-back : goal.returns-clause-back
returns-clause-back c = families.back

pub returns-clause-rows : goal.returns-clause-rows
returns-clause-rows c = refl
