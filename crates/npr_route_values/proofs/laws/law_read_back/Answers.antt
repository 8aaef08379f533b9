use Rattle.std.specs.Prelude.{refl}
use Rattle.npr_route_values.specs.RouteAddress.{route_address}
use Rattle.npr_route_values.specs.RouteVia.{via-back}
use Rattle.npr_route_values.proofs.laws.law_read_back.Goals as goal

pub returns-clause-address : goal.returns-clause-address
returns-clause-address c = λ family a h. (route_address family).reads_back 0 a h refl

pub returns-clause-via : goal.returns-clause-via
returns-clause-via c = via-back
