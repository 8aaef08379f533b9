use Rattle.std.specs.Prelude.{refl}
use Rattle.npr_neighbour.specs.NeighbourAddress.{neighbour_address}
use Rattle.npr_neighbour.proofs.laws.law_read_back.Goals as goal

pub returns : goal.returns
returns c = λ family a h. (neighbour_address family).reads_back 0 a h refl
