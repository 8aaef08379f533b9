use Rattle.std.proofs.Common.{refl}
use Rattle.std.specs.Cmp.{unsigned_Decides}
use Rattle.npr_base.specs.Equality.{IsEquality}
use Rattle.npr_base.proofs.EqualityLaws.{enum_equality, one_equality}
use Rattle.npr_base.proofs.StructLaws.{◌beside◌}
use Rattle.netlink_packet_route.specs.contracts.canonical_bytes.CanonicalError.{enum as errors}
use Rattle.netlink_packet_route.specs.contracts.canonical_bytes.CanonicalErrorPartialEq.TheImpl as ErrorEq
use Rattle.netlink_packet_route.specs.contracts.canonical_bytes.WriteCanonicalError.{enum as write_errors}
use Rattle.netlink_packet_route.proofs.laws.law_canonical_equality.Goals as goal

pub returns : goal.returns
returns c =
    let same = c.law_equality.ensures in
    let error : IsEquality ErrorEq.ghosts.eq = enum_equality errors _ refl (one_equality same.decode_error, (one_equality same.emit_error, tt)) in
    record {
      error = error;
      write_error = enum_equality write_errors _ refl (one_equality error, (unsigned_Decides beside one_equality unsigned_Decides, tt));
    }
