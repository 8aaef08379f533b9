use Rattle.std.proofs.Common.{rules, Ok}
use Rattle.std.proofs.Output.{displays_on_IsOk_append, displays_on_ok_of_eq, displays_on_ok_weaken}
use Rattle.npr_base.proofs.Texts.{joined_first}
use Rattle.npr_base.proofs.text.write_joined.Goals as goal

pub returns-in_ok-write_after : goal.returns-in_ok-write_after
returns-in_ok-write_after g c =
    let took = g.W.Write.write_str_gives in
    let head = c.first-item.result in
    let all = displays_on_IsOk_append took c.args.f.now c.fmt.new.f c.write_after.new.f c.fmt.result c.write_after.result _ _ (λ ok. search rules) c.fmt.ensures.writes c.write_after.ensures in
    displays_on_ok_of_eq took c.args.f.now c.write_after.new.f (Ok tt) _ _ (joined_first c.args.separator.now g.T.Display.output c.args.parts.now head c.in-len1-up.len_at_least c.first-item.is)
    (displays_on_ok_weaken took c.args.f.now c.write_after.new.f c.args.f.now c.write_after.new.f c.write_after.result (Ok tt) _ (λ bs w plain ok. w plain (search rules)) all)
