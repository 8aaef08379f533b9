use Rattle.std.proofs.Common.{refl}
use Rattle.netlink_packet_route.specs.EqualityLaws.{enum_equality, one_equality}
use Rattle.netlink_report.specs.contracts.error.RunError.{enum}
use Rattle.netlink_report.proofs.error.law_equality.Goals as goal

pub returns : goal.returns
returns c =
    let same = c.law_equality.ensures in
    enum_equality enum _ refl (one_equality same.decode_error, (one_equality same.emit_error, tt))
