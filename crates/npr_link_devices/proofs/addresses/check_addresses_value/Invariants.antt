use Rattle.std.proofs.Common.{ℕ, List}
use Rattle.npr_base.specs.Lists.{ReadsTo}
use Rattle.npr_link_devices.specs.Targets.{IsTarget}
use Rattle.npr_link_devices.proofs.addresses.check_addresses_value.Given as goal

abbrev pub invariant-loop-next : goal.invariant-loop-next
invariant-loop-next g l = (xs : List (List ℕ)) × ReadsTo (IsTarget g.A.Address.size) l.bytes xs l.walk
