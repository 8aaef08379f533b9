use Rattle.std.proofs.Common.{◌≡◌, ℕ, List, [], ◌∷◌, ◌++◌, length, refl, sym, ap, ◌∙◌, append_assoc, string_bytes}
use Rattle.netlink_packet_route.specs.Framing.{Item, Front}
use Rattle.netlink_packet_route.specs.FrontLaws.{Passes-more}
use Rattle.netlink_report.specs.Report.{line_text, lines_text}
use Rattle.netlink_report.proofs.ReportLines.{lines_text-append, unstopped, walked}
use Rattle.netlink_report.proofs.report.lines.Goals as goal

pub loop-next-preserved : goal.loop-next-preserved
loop-next-preserved c =
    let (passed, p, text) = c.loop-next.invariant in
    let x : Item = c.in-Ok.item in
    let front : Front c.loop-next.walk x c.next.new.self = rw c.in-Ok.is at c.in-Some.ensures.steps in
    let start = string_bytes c.args.out.now in
    let line = line_text c.raw_kind.result (length c.value.result.now) in
    let same : line ≡ line_text x.kind (length x.value) = rw (c.raw_kind.ensures, c.value.ensures) refl in (
      passed ++ x ∷ [],
      Passes-more passed x c.args.attributes.now c.loop-next.walk c.next.new.self p front,
      c.in_ok-line-in-Ok.ensures.ok ∙ ap (λ (t : List ℕ). t ++ line) text ∙ append_assoc start (lines_text passed) line
          ∙ ap (λ (t : List ℕ). start ++ (lines_text passed ++ t)) same
          ∙ ap (λ (t : List ℕ). start ++ t) (sym (lines_text-append passed x)),
    )

pub returns-in-Err-clause-ok : goal.returns-in-Err-clause-ok
returns-in-Err-clause-ok c = λ items cut.
    let (passed, p, text) = c.loop-next.invariant in
    let step = rw c.in-Err.is at c.in-Some.ensures.steps in
    absurd (unstopped c.args.attributes.now c.loop-next.walk c.next.new.self passed items c.in-Err.field-0 p step cut)

pub returns-clause-ok : goal.returns-clause-ok
returns-clause-ok c = λ items cut.
    let (passed, p, text) = c.loop-next.invariant in
    let same = walked c.args.attributes.now c.loop-next.walk c.next.new.self passed items p c.in_default.ensures.steps cut in
    text ∙ ap (λ (xs : List Item). string_bytes c.args.out.now ++ lines_text xs) same
