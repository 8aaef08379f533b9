use Rattle.std.proofs.Common.{◌-◌, drop, length, arith, length-drop, ◌∙◌}
use Rattle.std.proofs.lemmas.List.{take_all}
use Rattle.npr_tc_filters.proofs.ematch.TcEmatchAttribute.read_into.Goals as goal

pub returns-clause-ok : goal.returns-clause-ok
returns-clause-ok g c =
    let header = rw c.value-value.ensures at c.in_ok-header.ensures.ok in
    let bytes = rw c.value-value.ensures at c.in_ok-data.ensures.ok in
    let v = c.args.item.now.value in
    let whole = take_all (length v - 8) (drop 8 v) (omega (arith, length-drop 8 v)) in
    (record { tab = c.kind.result; header = c.in_ok-header.header; «data» = c.in_ok-data.data }, c.put.ensures, (c.kind.ensures, (header, bytes ∙ whole)))
