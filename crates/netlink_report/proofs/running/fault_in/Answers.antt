use Rattle.netlink_report.proofs.Places.{message-place, refused-none}
use Rattle.netlink_report.proofs.running.fault_in.Goals as goal

pub returns-in-Ok : goal.returns-in-Ok
returns-in-Ok c = λ e refused. absurd (refused-none c.args.kind c.args.bytes.now e refused c.in-Ok.ensures.ok)

pub returns-in-Err : goal.returns-in-Err
returns-in-Err c = λ e refused.
    let found = c.in-Err in
    message-place c.args.kind c.args.bytes.now found.located c.is_envelope.result (found.ensures.refused, found.ensures.place) c.is_envelope.ensures
