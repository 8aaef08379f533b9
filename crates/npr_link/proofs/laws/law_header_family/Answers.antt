use Rattle.npr_link.proofs.HeaderFamilies.{stands-inet6, stands-port, stands-whole, stands-unspec, stands-bridge, stands-bytes, stands-other}
use Rattle.std.proofs.Common.{refl}
use Rattle.npr_link.proofs.laws.law_header_family.Goals as goal

pub returns : goal.returns
returns c = record {
  proto_inet6 = stands-inet6;
  proto_bridge = stands-port;
  proto_unknown = stands-whole;
  unspec = stands-unspec;
  bridge = stands-bridge;
  unknown = stands-bytes;
  other = stands-other;
  nested = λ v. refl;
}
