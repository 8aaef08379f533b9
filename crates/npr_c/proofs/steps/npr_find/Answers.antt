use Rattle.std.proofs.Common.{◌≢◌, arith}
use Rattle.netlink_packet_route.specs.Framing.{number_of}
use Rattle.npr_c.proofs.Searches.{found_by, none_passed, one_more}
use Rattle.npr_c.proofs.steps.npr_find.Goals as goal

pub attributes-init : goal.attributes-init
attributes-init c = none_passed c.args.bytes.now c.args.at c.args.number

pub attributes-preserved : goal.attributes-preserved
attributes-preserved c =
    let step = c.npr_step_at-step.result in
    let found = found_by c.args.bytes.now c.attributes.at step c.npr_step_at-step.ensures (omega (arith, c.if-step-ne-FOUND.false)) in
    let other : number_of step.kind ≢ c.args.number = c.if-step-number.false in
    one_more c.args.bytes.now c.args.at c.args.number c.attributes.at step c.attributes.invariant found other
