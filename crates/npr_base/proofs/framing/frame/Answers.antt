use Rattle.std.proofs.Common.{◌≡◌, ◌+◌, ◌-◌, ℕ, arith, length, take, drop, subst, replicate}
use Rattle.npr_base.specs.Framing.{Writes, pad}
use Rattle.npr_base.proofs.Writing.{Writes-framed}
use Rattle.npr_base.proofs.framing.frame.Goals as goal

pub returns-clause-after : goal.returns-clause-after
returns-clause-after c =
    let cur = c.write_header.new.out in
    let len = c.args.len in
    let count : c.next_multiple_of-end.result - (4 + len) ≡ pad len = omega (arith, c.next_multiple_of-end.ensures.value) in
    let zeros = subst (λ (n : ℕ). Writes (take (length cur - (4 + len)) (drop (4 + len) cur)) c.write_zeros.new.out (replicate n 0)) count c.write_zeros.ensures in
    Writes-framed c.args.out.now cur c.write_zeros.new.out c.args.kind len c.requires.room c.write_header.ensures zeros
