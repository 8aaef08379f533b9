use Rattle.std.proofs.Common.{subst, arith}
use Rattle.npr_base.specs.Framing.{Writes}
use Rattle.npr_base.proofs.Writing.{Writes-more}
use Rattle.npr_srh.specs.Seg6.{seg6_of, encode_message, front_of, body_bytes}
use Rattle.npr_srh.proofs.seg6_header.Seg6HeaderNla.write_value.Goals as goal

pub returns-clause-after : goal.returns-clause-after
returns-clause-after c =
    let h = seg6_of c.args.self.now in
    let written = c.write_array-front in
    let first = subst (Writes c.args.out.now written.new.out) c.front.ensures written.ensures.after in
    Writes-more c.args.out.now written.new.out c.write_body.new.out (encode_message (front_of h)) (body_bytes h) written.result written.ensures.len (omega (arith, c.requires.room)) first c.write_body.ensures.after
