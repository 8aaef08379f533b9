-- The header of an envelope (linux/netlink.h, struct nlmsghdr).
use Rattle.std.proofs.Common.{refl}
use Rattle.npr_base.specs.Fields.{le_two, le_four, ◌fills◌, ◌then◌, last, structure}
use Rattle.npr_base.specs.Layout.{Layout}
use Rattle.netlink_packet_core.specs.contracts.header.NetlinkHeader.{struct}
use Rattle.netlink_packet_core.specs.declared.header.NetlinkHeader.{NetlinkHeader}

-- in this order, each little endian
abbrev pub header : Layout NetlinkHeader
header =
    structure struct
    (NetlinkHeader.length fills le_four then NetlinkHeader.message_type fills le_two then NetlinkHeader.flags fills le_two
    then NetlinkHeader.sequence_number fills le_four then last (NetlinkHeader.port_number fills le_four)) refl (λ v. tt)

-- each field at 0
abbrev pub default_header : NetlinkHeader
default_header = record { length = 0; message_type = 0; flags = 0; sequence_number = 0; port_number = 0 }
