-- What was written is the length of what stands between the places.
use Rattle.std.proofs.Common.{arith}
use Rattle.npr_c.proofs.WrittenHops.{end_hop_found}
use Rattle.npr_c.proofs.WrittenPlaces.{end_found, end_inside}
use Rattle.npr_c.proofs.ends.npr_end_at.Goals as goal

pub returns-clause-found : goal.returns-clause-found
returns-clause-found c =
    let ends = c.attribute_ends.ensures.0 c.if-not-attribute_ends.false in
    let w = rw c.to_le_bytes.ensures at c.write_array.ensures.after in
    λ written.
    end_found c.args.out.now c.write_array.new.out c.args.start c.args.end ends (omega arith) w (λ i. omega (arith, c.type_inv.out i))

pub returns-clause-inside : goal.returns-clause-inside
returns-clause-inside c =
    let ends = c.attribute_ends.ensures.0 c.if-not-attribute_ends.false in
    let w = rw c.to_le_bytes.ensures at c.write_array.ensures.after in
    λ written. end_inside c.args.out.now c.write_array.new.out c.args.start c.args.end ends (omega arith) w

pub returns-clause-hop : goal.returns-clause-hop
returns-clause-hop c =
    let ends = c.attribute_ends.ensures.0 c.if-not-attribute_ends.false in
    let w = rw c.to_le_bytes.ensures at c.write_array.ensures.after in
    λ written least.
    end_hop_found c.args.out.now c.write_array.new.out c.args.start c.args.end ends (omega arith) w (λ i. omega (arith, c.type_inv.out i)) least
