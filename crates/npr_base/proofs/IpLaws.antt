-- What `==` answers of addresses of IP: whether two are equal.
use Rattle.std.proofs.Common.{rules}
use Rattle.npr_base.specs.Equality.{IsEquality}
use Rattle.npr_base.specs.contracts.ip.IpAddrPartialEq.TheImpl as IpEq
use Rattle.npr_base.specs.contracts.ip.Ipv4AddrPartialEq.TheImpl as Ipv4Eq
use Rattle.npr_base.specs.contracts.ip.Ipv6AddrPartialEq.TheImpl as Ipv6Eq

pub ip_equality : IsEquality IpEq.ghosts.eq
ip_equality = search rules

pub ipv4_equality : IsEquality Ipv4Eq.ghosts.eq
ipv4_equality = search rules

pub ipv6_equality : IsEquality Ipv6Eq.ghosts.eq
ipv6_equality = search rules
