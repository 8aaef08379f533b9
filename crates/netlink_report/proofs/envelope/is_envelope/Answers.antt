use Rattle.std.proofs.Common.{◌≡◌, ap, sym, ◌∙◌, arith}
use Rattle.std.specs.Prelude.{is_some}
use Rattle.netlink_packet_route.specs.MessageKind.{kind_of_type}
use Rattle.netlink_packet_route.specs.MessageTypes.{type_of}
use Rattle.netlink_report.proofs.Places.{envelope-begins, envelope-fits, no-envelope}
use Rattle.netlink_report.proofs.envelope.is_envelope.Goals as goal
use Rattle.netlink_report.proofs.envelope.is_envelope.Goals.{then-length-lt-NETLINK_HEADER_LEN-via-then-length-lt-NETLINK_HEADER_LEN, then-length-lt-NETLINK_HEADER_LEN-via-else-length-lt-NETLINK_HEADER_LEN+then-length-bytes}

pub returns-in_default : goal.returns-in_default
returns-in_default c = (λ no. cc, λ p. absurd (no-envelope c.args.bytes.now c.in_default.field-0 c.in_default.ensures.refused p))

pub returns-then-length-lt-NETLINK_HEADER_LEN : goal.returns-then-length-lt-NETLINK_HEADER_LEN
returns-then-length-lt-NETLINK_HEADER_LEN c = (
  λ no. cc,
  λ p.
      let fits = envelope-fits c.args.bytes.now c.in-Ok.header c.in-Ok.ensures.ok p in
      elim c.then-length-lt-NETLINK_HEADER_LEN.branch [
        | then-length-lt-NETLINK_HEADER_LEN-via-then-length-lt-NETLINK_HEADER_LEN w ↦
            let short = w.if-length-lt-NETLINK_HEADER_LEN.true in
            absurd (omega (arith, fits.0, short))
        | then-length-lt-NETLINK_HEADER_LEN-via-else-length-lt-NETLINK_HEADER_LEN+then-length-bytes w ↦
            let long = w.if-length-bytes.true in
            absurd (omega (arith, fits.1, long))
      ],
)

pub returns : goal.returns
returns c =
    let least = c.if-length-lt-NETLINK_HEADER_LEN.false in
    let most = c.if-length-bytes.false in
    let reads = c.in-Ok.ensures.ok in
    let kind : c.is_some.result ≡ is_some (kind_of_type (type_of c.in-Ok.header.message_type)) =
    c.is_some.ensures ∙ ap is_some (c.kind.ensures ∙ ap kind_of_type c.of.ensures) in (
      λ yes. envelope-begins c.args.bytes.now c.in-Ok.header reads (omega (arith, least)) (omega (arith, most)) (sym kind ∙ yes),
      λ p. let fits = envelope-fits c.args.bytes.now c.in-Ok.header reads p in kind ∙ fits.2,
    )
