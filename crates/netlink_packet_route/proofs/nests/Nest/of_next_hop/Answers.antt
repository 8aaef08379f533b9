use Rattle.std.proofs.Common.{arith, refl}
use Rattle.npr_base.specs.Framing.{IsBytes}
use Rattle.netlink_packet_route.proofs.NumberLaws.{hop-bytes}
use Rattle.netlink_packet_route.proofs.nests.Nest.of_next_hop.Goals as goal

pub returns-in-Route-clause-nest : goal.returns-in-Route-clause-nest
returns-in-Route-clause-nest c = rw c.in-Route.is (c.governing_type-encap_type.result, c.governing_type-encap_type.ensures.governs, refl)

pub returns-in-Route-clause-numbers : goal.returns-in-Route-clause-numbers
returns-in-Route-clause-numbers c = λ from.
    let is : IsBytes c.args.attributes.now = λ i. omega (arith, c.type_inv.attributes i) in
    let here = returns-in-Route-clause-nest c in
    hop-bytes c.args.self.set c.args.self.context c.args.attributes.now _ is here from

pub returns-in_default-clause-numbers : goal.returns-in_default-clause-numbers
returns-in_default-clause-numbers c = λ from. from
