use Rattle.std.proofs.Common.{ℕ, List, ◌++◌, length, take, sym, ap, ◌∙◌, arith, length-append}
use Rattle.npr_base.specs.Blocks.{block_bytes}
use Rattle.npr_base.proofs.Joined.{joined-append}
use Rattle.npr_base.proofs.Writing.{room_behind, wrote_more}
use Rattle.npr_link_statistics.proofs.numbers.write_grown.Goals as goal

pub write_blocks-at-requires : goal.write_blocks-at-requires
write_blocks-at-requires g c =
    let write = block_bytes g.T.Block.width.layout in
    let front : List g.row.T.Denot = take c.saturating_sub.result c.args.fields.now in
    let is = ap (λ (n : ℕ). write (take n c.args.fields.now ++ c.args.more.now)) c.saturating_sub.ensures in
    omega (arith, c.requires, ap length (sym is ∙ joined-append g.T.Block.width.layout.encode front c.args.more.now), length-append (write front) (write c.args.more.now))

pub write_blocks-requires : goal.write_blocks-requires
write_blocks-requires g c =
    let write = block_bytes g.T.Block.width.layout in
    let front : List g.row.T.Denot = take c.saturating_sub.result c.args.fields.now in
    let is = ap (λ (n : ℕ). write (take n c.args.fields.now ++ c.args.more.now)) c.saturating_sub.ensures in
    let at = c.write_blocks-at in
    room_behind c.args.out.now at.new.out at.result (write front) _ (write c.args.more.now) at.ensures.len
    (sym is ∙ joined-append g.T.Block.width.layout.encode front c.args.more.now) c.requires at.auto.out

pub returns : goal.returns
returns g c =
    let write = block_bytes g.T.Block.width.layout in
    let front : List g.row.T.Denot = take c.saturating_sub.result c.args.fields.now in
    let is = ap (λ (n : ℕ). write (take n c.args.fields.now ++ c.args.more.now)) c.saturating_sub.ensures in
    let at = c.write_blocks-at in
    let wrote =
    wrote_more c.args.out.now at.new.out at.result (write front) _ (write c.args.more.now) at.ensures.len
    (sym is ∙ joined-append g.T.Block.width.layout.encode front c.args.more.now) c.requires at.ensures.after c.write_blocks.new.out
    c.write_blocks.result c.write_blocks.ensures.len c.write_blocks.ensures.after in
    record { len = wrote.len; after = wrote.after }
