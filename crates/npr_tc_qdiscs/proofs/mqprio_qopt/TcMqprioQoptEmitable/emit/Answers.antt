use Rattle.std.proofs.Common.{List, ℕ, ◌-◌, ◌∷◌, ◌++◌, [], length, arith, refl, subst}
use borrow.Rule.Slice.PartMut.{put_mid}
use Rattle.npr_base.proofs.Writing.{Writes-before}
use Rattle.npr_base.specs.Framing.{Writes}
use Rattle.npr_base.specs.MoreFields.{bytes_at}
use Rattle.npr_tc_qdiscs.specs.WordsField.{words_field}
use Rattle.npr_tc_qdiscs.proofs.mqprio_qopt.TcMqprioQoptEmitable.emit.Goals as goal

pub returns : goal.returns
returns c =
    let x = c.args.self.now in
    let out = c.args.out.now in
    let behind = put_mid 18 (length out - 18) out c.write_numbers.new.out in
    let head = x.num_tc ∷ (bytes_at 16 x.prio_tc_map 0 ++ (x.hw ∷ [])) in
    let front = subst (λ (h : List ℕ). Writes behind c.write_array.new.out h) c.front.ensures c.write_array.ensures.after in
    Writes-before out c.write_numbers.new.out c.write_array.new.out head
    ((words_field 16).encode x.count ++ (words_field 16).encode x.offset) 18 refl (omega (arith, c.requires.room)) c.write_numbers.ensures front
