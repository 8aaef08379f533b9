-- A protocol over IP as a value of one byte. A number that no byte holds can't be written.
use Rattle.std.specs.Prelude.{ℕ, Option, Some, None}
use Rattle.std.proofs.Common.{refl}
use Rattle.npr_base.specs.declared.refusal.EmitError.{EmitError}
use Rattle.npr_base.specs.declared.refusal.EmitError.TheVariants.{IpProtocol as NoByte}
use Rattle.npr_base.specs.Codec.{Codec, exactly, no_members}
use Rattle.npr_route_values.specs.IpProtocol.{byte_of, ip_protocols, ip_protocol}
use Rattle.npr_route_values.specs.declared.ip_protocol.IpProtocol.{IpProtocol}

abbrev pub unfit_unless : Option ℕ → EmitError → Option EmitError
unfit_unless (Some byte) cause = None
unfit_unless None cause = Some cause

-- why it can't be written, if so
abbrev pub protocol_unfit : IpProtocol → Option EmitError
protocol_unfit x = unfit_unless (byte_of (ip_protocols.number x)) (NoByte (ip_protocols.number x))

abbrev pub ip_protocol_byte : Codec IpProtocol
ip_protocol_byte = record {
  Reads = (exactly ip_protocol).Reads;
  Wrong = (exactly ip_protocol).Wrong;
  encode = ip_protocol.encode;
  unfit = λ kind x. protocol_unfit x;
  Holds = ip_protocol.Holds;
  members = no_members;
  one_reading = (exactly ip_protocol).one_reading;
  no_fault = (exactly ip_protocol).no_fault;
  reads_holds = (exactly ip_protocol).reads_holds;
  reads_back = λ kind x h fits. (exactly ip_protocol).reads_back 0 x h refl;
  grows = (exactly ip_protocol).grows;
  showing = (exactly ip_protocol).showing;
}
