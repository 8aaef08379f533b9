use Rattle.netlink_report.specs.Where.{IsTextPlace}
use Rattle.netlink_report.proofs.running.bytes_in.Goals as goal

pub returns-in-Err-Bad-clause-place : goal.returns-in-Err-Bad-clause-place
unfolding IsTextPlace
returns-in-Err-Bad-clause-place c =
    let bad = c.in-Err-Bad in
    (bad.place, bad.ensures.bad bad.place cc, c.behind.ensures)
