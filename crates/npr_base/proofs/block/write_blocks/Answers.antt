use Rattle.std.proofs.Common.{[], arith, length-append}
use Rattle.std.proofs.lemmas.List.{append-nil}
use Rattle.npr_base.specs.Blocks.{block_bytes}
use Rattle.npr_base.proofs.Joined.{joined-append}
use Rattle.npr_base.proofs.Writing.{room_for, wrote_next}
use Rattle.npr_base.proofs.block.write_blocks.Goals as goal

pub write-at-requires : goal.write-at-requires
write-at-requires g c =
    let L = g.T.Block.width.layout in
    let x = c.block-item.result in
    let room =
    room_for (block_bytes L) (joined-append L.encode) c.args.blocks.now c.loop-block.block-index x c.loop-block-test.true c.block-item.is
    c.args.out.now c.requires c.loop-block.out c.loop-block.at c.loop-block.invariant.len c.loop-block.auto.out in
    omega (arith, room, length-append (L.encode x) [], g.T.Block.width.long x)

pub loop-block-preserved : goal.loop-block-preserved
loop-block-preserved g c =
    let L = g.T.Block.width.layout in
    let x = c.block-item.result in
    let past = c.loop-block.invariant in
    let wrote =
    wrote_next (block_bytes L) (joined-append L.encode) c.args.blocks.now c.loop-block.block-index x c.loop-block-test.true c.block-item.is
    c.args.out.now c.requires c.loop-block.out c.loop-block.at past.len past.after c.write-at.new.out (L.encode x) c.write-at.result
    (append-nil (L.encode x)) (omega (arith, c.write-at.ensures.len, g.T.Block.width.long x)) c.write-at.ensures.after in
    record { len = wrote.len; after = wrote.after }
