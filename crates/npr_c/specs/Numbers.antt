-- The numbers of refusals and of causes.
use Rattle.std.specs.Prelude.{ℕ}
use Rattle.netlink_packet_route.specs.declared.framing.DecodeError.{DecodeError}
use Rattle.netlink_packet_route.specs.declared.framing.DecodeError.TheVariants.{OutOfMemory, HeaderTooShort, AttributeTooShort, AttributeLength}
use Rattle.netlink_packet_route.specs.declared.framing.DecodeError.TheVariants.{NextHopTooShort, NextHopLength, ValueLength, NotUtf8, Seg6Header}
use Rattle.netlink_packet_route.specs.declared.framing.DecodeError.TheVariants.{GeneveOrder, GeneveChild, ViaFamily, Unsupported}
use Rattle.netlink_packet_route.specs.declared.framing.EmitError.{EmitError}
use Rattle.netlink_packet_route.specs.declared.framing.EmitError.TheVariants.{TooLong, NextHopTooLong, TooManySegments, IpProtocol, Total}

abbrev pub refusal_number : DecodeError → ℕ
refusal_number OutOfMemory = 1
refusal_number (HeaderTooShort got want) = 2
refusal_number (AttributeTooShort got) = 3
refusal_number (AttributeLength length left) = 4
refusal_number (NextHopTooShort got) = 5
refusal_number (NextHopLength length left) = 6
refusal_number (ValueLength at got) = 7
refusal_number (NotUtf8 at) = 8
refusal_number (Seg6Header fault) = 9
refusal_number (GeneveOrder kind) = 10
refusal_number (GeneveChild kind) = 11
refusal_number (ViaFamily family) = 12
refusal_number (Unsupported at) = 13

abbrev pub cause_number : EmitError → ℕ
cause_number (TooLong kind len) = 1
cause_number (NextHopTooLong len) = 2
cause_number (TooManySegments count) = 3
cause_number (IpProtocol number) = 4
cause_number Total = 5
