use Rattle.npr_address.specs.AddressProtocol.{protocols}
use Rattle.npr_address.specs.AddressScope.{scopes}
use Rattle.npr_address.proofs.laws.law_numbers.Goals as goal

pub returns-clause-protocol : goal.returns-clause-protocol
returns-clause-protocol c = protocols.back

pub returns-clause-scope : goal.returns-clause-scope
returns-clause-scope c = scopes.back
