use Rattle.std.proofs.Common.{◌≡◌, length, arith}
use Rattle.npr_base.proofs.Writing.{Writes-more}
use Rattle.npr_base.specs.Blocks.{block_bytes}
use Rattle.npr_tc_actions.specs.PeditKey.{pedit_key}
use Rattle.npr_tc_actions.specs.PeditSelector.{pedit_front, pedit_parts}
use Rattle.npr_tc_actions.proofs.pedit_selector.TcPeditSelector.write.Goals as goal

pub returns-clause-after : goal.returns-clause-after
returns-clause-after c =
    let front = pedit_front.encode (pedit_parts c.args.self.now).0 in
    let keys = block_bytes pedit_key c.args.self.now.keys.items in
    let at : c.write_array-at.result ≡ length front = omega (arith, c.write_array-at.ensures.len) in
    Writes-more c.args.out.now c.write_array-at.new.out c.write_blocks.new.out front keys c.write_array-at.result at (omega (arith, c.requires))
    (rw c.front_bytes.ensures at c.write_array-at.ensures.after) (rw c.as_slice.ensures.value at c.write_blocks.ensures.after)
