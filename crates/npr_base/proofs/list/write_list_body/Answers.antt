use Rattle.std.proofs.Common.{[], ◌∙◌, sym, arith, length-append}
use Rattle.std.proofs.lemmas.List.{append-nil}
use Rattle.npr_base.specs.Framing.{encoding}
use Rattle.npr_base.specs.Lists.{encodings}
use Rattle.npr_base.proofs.Checking.{first-none}
use Rattle.npr_base.proofs.Joined.{joined-append}
use Rattle.npr_base.proofs.Writing.{room_for, wrote_next}
use Rattle.npr_base.specs.lemmas.List.{length-encoding}
use Rattle.npr_base.proofs.list.write_list_body.Goals as goal
use Rattle.npr_base.specs.Family.{shaped_item, shaped_unfit}

pub write_attribute-at-requires-clause-fits : goal.write_attribute-at-requires-clause-fits
write_attribute-at-requires-clause-fits g c =
    (first-none (shaped_unfit g.A.Nla.shape) c.args.list.now c.loop-x.x-index c.x-item.result c.loop-x-test.true c.x-item.is c.loop-x.invariant.fits).0

pub write_attribute-at-requires-clause-room : goal.write_attribute-at-requires-clause-room
write_attribute-at-requires-clause-room g c =
    let x = c.x-item.result in
    let item = shaped_item g.A.Nla.shape in
    let room =
    room_for (encodings item) (joined-append (λ y. encoding (item y))) c.args.list.now c.loop-x.x-index x c.loop-x-test.true c.x-item.is c.args.out.now
    c.requires.room c.loop-x.out c.loop-x.at c.loop-x.invariant.len c.loop-x.auto.out in
    omega (arith, room, length-append (encoding (item x)) [], length-encoding (item x))

pub loop-x-preserved : goal.loop-x-preserved
loop-x-preserved g c =
    let x = c.x-item.result in
    let item = shaped_item g.A.Nla.shape in
    let past = c.loop-x.invariant in
    let wrote =
    wrote_next (encodings item) (joined-append (λ y. encoding (item y))) c.args.list.now c.loop-x.x-index x c.loop-x-test.true c.x-item.is c.args.out.now
    c.requires.room c.loop-x.out c.loop-x.at past.len past.after c.write_attribute-at.new.out (encoding (item x)) c.write_attribute-at.result
    (append-nil (encoding (item x))) (c.write_attribute-at.ensures.len ∙ sym (length-encoding (item x))) c.write_attribute-at.ensures.after in
    record {
      fits = (first-none (shaped_unfit g.A.Nla.shape) c.args.list.now c.loop-x.x-index x c.loop-x-test.true c.x-item.is past.fits).1;
      len = wrote.len;
      after = wrote.after;
    }
