use Rattle.std.proofs.lemmas.Result.{on_ok_weaker}
use Rattle.netlink_show.proofs.Naming.{learns, learns-no-name, learns-no-number}
use Rattle.netlink_show.proofs.interfaces.Interfaces.note_new.Goals as goal

pub returns-in-Some-clause-ok : goal.returns-in-Some-clause-ok
returns-in-Some-clause-ok c =
    on_ok_weaker c.note_name.result
    (λ learned.
    learns c.args.self.now c.note_name.new.self c.args.bytes.now c.in-Ok-begin.attributes.now c.in-Some.name.now c.in-Ok-begin.nest c.in-Ok.header
    c.in-Ok.ensures.ok c.in-Ok-begin.ensures.ok c.in-Some.ensures c.if-header-ne0.true learned)
    c.note_name.ensures.ok

pub returns-in_default-first_name-clause-ok : goal.returns-in_default-first_name-clause-ok
returns-in_default-first_name-clause-ok c =
    learns-no-number c.args.self.now c.args.bytes.now c.in-Ok-begin.attributes.now c.in-Some.name.now c.in-Ok-begin.nest c.in-Ok.header c.in-Ok.ensures.ok
    c.in-Ok-begin.ensures.ok c.in-Some.ensures cc

pub returns-in_default-first_name-2-clause-ok : goal.returns-in_default-first_name-2-clause-ok
returns-in_default-first_name-2-clause-ok c =
    learns-no-name c.args.self.now c.args.bytes.now c.in-Ok-begin.attributes.now c.in-Ok-begin.nest c.in-Ok.header c.in-Ok.ensures.ok
    c.in-Ok-begin.ensures.ok (rw c.in_default-first_name.is at c.first_name.ensures)
