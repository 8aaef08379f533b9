use Rattle.std.proofs.Common.{refl, lit<}
use Rattle.netlink_packet_route.specs.declared.kind.MessageKind.TheVariants as Kind
use Rattle.netlink_packet_route.proofs.laws.law_message_kinds.Goals as goal

pub returns-clause-all : goal.returns-clause-all
returns-clause-all c Kind.Address = (0, lit< tt, refl)
returns-clause-all c Kind.Route = (1, lit< tt, refl)
returns-clause-all c Kind.Rule = (2, lit< tt, refl)
returns-clause-all c Kind.Neighbour = (3, lit< tt, refl)
returns-clause-all c Kind.Link = (4, lit< tt, refl)
returns-clause-all c Kind.NextHop = (5, lit< tt, refl)
returns-clause-all c Kind.Nsid = (6, lit< tt, refl)
returns-clause-all c Kind.Netconf = (7, lit< tt, refl)
returns-clause-all c Kind.AddressLabel = (8, lit< tt, refl)
returns-clause-all c Kind.NeighbourTable = (9, lit< tt, refl)
returns-clause-all c Kind.Prefix = (10, lit< tt, refl)
returns-clause-all c Kind.Tc = (11, lit< tt, refl)
returns-clause-all c Kind.TcAction = (12, lit< tt, refl)
returns-clause-all c Kind.Stats = (13, lit< tt, refl)
