use Rattle.std.proofs.Common.{rules, arith, refl, ap, length, ◌<◌, Ok, Some}
use Rattle.std.proofs.lemmas.List.{take_all}
use Rattle.std.proofs.Output.{displays_on_IsOk_append, displays_on_ok_of_eq, displays_on_ok_weaken}
use Rattle.npr_base.specs.Text.{each_after}
use Rattle.npr_base.proofs.Texts.{each_after-more}
use Rattle.npr_base.proofs.text.write_after.Goals as goal

pub loop-part-preserved : goal.loop-part-preserved
loop-part-preserved g c =
    let took = g.W.Write.write_str_gives in
    let text = g.T.Display.output in
    let i = c.loop-part.part-index in
    let part = c.part-item.result in
    let separator = c.args.separator.now in
    let parts = c.args.parts.now in
    let first = displays_on_IsOk_append took c.loop-part.f c.write_str.new.self c.fmt.new.f c.write_str.result c.fmt.result (Some separator) (text part) (λ ok. search rules) c.write_str.ensures.writes c.fmt.ensures.writes in
    let all = displays_on_IsOk_append took c.args.f.now c.loop-part.f c.fmt.new.f (Ok tt) c.fmt.result _ _ (λ ok. refl) c.loop-part.invariant first in
    let inside : i < length parts = omega arith in
    displays_on_ok_of_eq took c.args.f.now c.fmt.new.f (Ok tt) _ _ (each_after-more separator text parts i part inside c.part-item.is)
    (displays_on_ok_weaken took c.args.f.now c.fmt.new.f c.args.f.now c.fmt.new.f c.fmt.result (Ok tt) _ (λ bs w plain ok. w plain (search rules)) all)

pub returns : goal.returns
returns g c =
    let took = g.W.Write.write_str_gives in
    let all = take_all c.loop-part.part-index c.args.parts.now c.loop-part-test.false in
    displays_on_ok_of_eq took c.args.f.now c.loop-part.f (Ok tt) _ _ (ap (each_after c.args.separator.now g.T.Display.output) all) c.loop-part.invariant
