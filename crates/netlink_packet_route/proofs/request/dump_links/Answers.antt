use Rattle.std.proofs.Common.{subst}
use Rattle.npr_base.specs.Message.{View}
use Rattle.npr_link.specs.Message.{links}
use Rattle.netlink_packet_core.specs.Message.{message_of}
use Rattle.netlink_packet_core.specs.Request.{IsRequest, dump_flags}
use Rattle.netlink_packet_route.specs.RouteNetlinkMessage.{meaning_of, rtnetlink, link}
use Rattle.netlink_packet_route.specs.declared.message_type.Action.TheVariants.{Get}
use Rattle.netlink_packet_route.proofs.request.dump_links.Goals as goal

pub returns : goal.returns
returns c =
    subst (λ (m : View links). IsRequest rtnetlink dump_flags c.args.sequence_number (link Get m) (message_of meaning_of c.dump.result))
    c.in_ok-masked.ensures c.dump.ensures
