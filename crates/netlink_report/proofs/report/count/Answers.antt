use Rattle.std.proofs.Common.{[], ◌∷◌, ◌++◌, length, ap, ◌∙◌, arith}
use Rattle.std.proofs.lemmas.List.{length_push}
use Rattle.netlink_packet_route.specs.Framing.{Item, Front}
use Rattle.netlink_packet_route.specs.FrontLaws.{Passes-more}
use Rattle.netlink_packet_route.specs.LookBounds.{Passes-length}
use Rattle.netlink_report.proofs.ReportLines.{unstopped, walked}
use Rattle.netlink_report.proofs.report.count.Goals as goal

pub overflow_add-found : goal.overflow_add-found
overflow_add-found c =
    let (passed, p, is) = c.loop-next.invariant in
    omega (arith, is, Passes-length passed c.args.attributes.now c.loop-next.walk p)

pub loop-next-preserved : goal.loop-next-preserved
loop-next-preserved c =
    let (passed, p, is) = c.loop-next.invariant in
    let x : Item = c.in-Ok.field-0 in
    let front : Front c.loop-next.walk x c.next.new.self = rw c.in-Ok.is at c.in-Some.ensures.steps in (
      passed ++ x ∷ [],
      Passes-more passed x c.args.attributes.now c.loop-next.walk c.next.new.self p front,
      omega (arith, is, length_push passed x),
    )

pub returns-in-Err : goal.returns-in-Err
returns-in-Err c = λ items cut.
    let (passed, p, is) = c.loop-next.invariant in
    let step = rw c.in-Err.is at c.in-Some.ensures.steps in
    absurd (unstopped c.args.attributes.now c.loop-next.walk c.next.new.self passed items c.in-Err.field-0 p step cut)

pub returns : goal.returns
returns c = λ items cut.
    let (passed, p, is) = c.loop-next.invariant in
    is ∙ ap length (walked c.args.attributes.now c.loop-next.walk c.next.new.self passed items p c.in_default.ensures.steps cut)
