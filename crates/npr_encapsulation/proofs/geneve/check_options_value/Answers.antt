use Rattle.npr_base.specs.Framing.{Front}
use Rattle.npr_encapsulation.proofs.Checked.{none_checked, child_checked}
use Rattle.npr_encapsulation.proofs.geneve.check_options_value.Goals as goal

pub loop-next-init : goal.loop-next-init
loop-next-init c = rw c.new-walk.ensures (none_checked c.args.bytes.now)

pub loop-next-preserved : goal.loop-next-preserved
loop-next-preserved c =
    let child = c.in_ok-child.child in
    let rest = c.next.new.self in
    let f : Front c.loop-next.walk child rest = rw c.in_ok-child.was at c.in-Some.ensures.steps in
    let stands = c.in_ok-check_child.ensures.ok in
    child_checked c.args.bytes.now c.loop-next.inside c.loop-next.walk rest child stands.0 c.loop-next.invariant f stands.1 stands.2
