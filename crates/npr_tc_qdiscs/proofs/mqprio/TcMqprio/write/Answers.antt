use Rattle.std.proofs.Common.{◌++◌, refl, arith, length-append}
use Rattle.npr_base.proofs.Writing.{Writes-before}
use Rattle.npr_base.specs.Family.{written_by}
use Rattle.npr_base.specs.Lists.{encodings}
use Rattle.npr_tc_qdiscs.specs.Mqprio.{mqprio_of, space}
use Rattle.npr_tc_qdiscs.specs.MqprioOption.{family}
use Rattle.npr_tc_qdiscs.specs.MqprioQopt.{mqprio_qopt}
use Rattle.npr_tc_qdiscs.proofs.mqprio.TcMqprio.write.Goals as goal

pub returns-clause-after : goal.returns-clause-after
returns-clause-after c =
    let head = mqprio_qopt.encode c.args.self.now.qopt in
    let behind = space ++ encodings (written_by family.writing) (mqprio_of c.args.self.now).attributes in
    Writes-before c.args.out.now c.write_behind-len.new.out c.emit.new.out head behind 82 refl
    (omega (arith, c.requires.room, length-append head behind)) c.write_behind-len.ensures.after c.emit.ensures
