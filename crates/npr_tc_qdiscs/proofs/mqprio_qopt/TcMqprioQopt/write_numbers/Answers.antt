use Rattle.std.proofs.Common.{◌≡◌, List, ℕ, length, take, drop, ◌-◌, ◌*◌, ap, arith, subst, sym, ◌∙◌, length-append, length-drop, length-take}
use borrow.Rule.Slice.PartMut.{put_mid}
use Rattle.npr_base.proofs.Writing.{Writes-before}
use Rattle.npr_base.specs.Blocks.{block_bytes}
use Rattle.npr_base.specs.Framing.{Writes}
use Rattle.npr_base.specs.Layout.{le16}
use Rattle.npr_base.specs.MoreFields.{bytes_at, bytes-long, bytes-own}
use Rattle.npr_tc_qdiscs.specs.WordsField.{bytes-written}
use Rattle.npr_tc_qdiscs.proofs.mqprio_qopt.TcMqprioQopt.write_numbers.Goals as goal

pub write_blocks-requires : goal.write_blocks-requires
write_blocks-requires c =
    let long : length c.args.self.now.offset ≡ 16 = omega arith in
    let out = c.args.out.now in
    omega (
      arith,
      bytes-written c.as_slice.result.now,
      ap length c.as_slice.ensures,
      long,
      length-take (length out - 32) (drop 32 out),
      length-drop 32 out,
      c.requires,
    )

pub write_blocks-requires-2 : goal.write_blocks-requires-2
write_blocks-requires-2 c =
    let long : length c.args.self.now.count ≡ 16 = omega arith in
    let out = c.args.out.now in
    omega (
      arith,
      bytes-written c.as_slice-2.result.now,
      ap length c.as_slice-2.ensures,
      long,
      length-append (take 32 out) (c.write_blocks.new.out),
      length-take 32 out,
      c.requires,
    )

pub returns : goal.returns
returns c =
    let counts : length c.args.self.now.count ≡ 16 = omega arith in
    let offsets : length c.args.self.now.offset ≡ 16 = omega arith in
    let out = c.args.out.now in
    let part = c.write_blocks.new.out in
    let behind =
    subst (λ (ws : List ℕ). Writes (take (length out - 32) (drop 32 out)) part (block_bytes le16 ws))
    (c.as_slice.ensures ∙ sym (bytes-own 16 c.args.self.now.offset offsets)) c.write_blocks.ensures.after in
    let front =
    subst (λ (ws : List ℕ). Writes (put_mid 32 (length out - 32) out part) c.write_blocks-2.new.out (block_bytes le16 ws))
    (c.as_slice-2.ensures ∙ sym (bytes-own 16 c.args.self.now.count counts)) c.write_blocks-2.ensures.after in
    Writes-before out part c.write_blocks-2.new.out (block_bytes le16 (bytes_at 16 c.args.self.now.count 0))
    (block_bytes le16 (bytes_at 16 c.args.self.now.offset 0)) 32
    (sym (bytes-written (bytes_at 16 c.args.self.now.count 0) ∙ ap (λ (k : ℕ). 2 * k) (bytes-long 16 c.args.self.now.count 0)))
    (omega (arith, c.requires)) behind front
