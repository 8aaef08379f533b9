use Rattle.std.proofs.Common.{◌≡◌, ℕ, subst, length, take, drop, ◌-◌}
use Rattle.npr_base.specs.Framing.{Writes, Item, encoding, marked}
use Rattle.npr_base.proofs.Writing.{Writes-encoding}
use borrow.Rule.Slice.PartMut.{put_mid}
use Rattle.std.proofs.Common.{refl}
use Rattle.npr_base.proofs.traits.write_attribute.Goals as goal

pub returns-clause-after : goal.returns-clause-after
returns-clause-after g c =
    let x : Item = (g.A.Nla.shape c.args.attribute.now).item in
    let out = c.args.out.now in
    let body = c.write_value-len.new.out in
    let len = c.write_value-len.result in
    let mid = put_mid 4 (length out - 4) out body in
    let kind : c.marked_kind-kind.result ≡ marked (g.A.Nla.shape c.args.attribute.now).nested x.kind = rw (c.marked_kind-kind.ensures, c.is_nested.ensures, c.kind.ensures) refl in
    let framed = subst (λ (k : ℕ). Writes mid c.frame.new.out (encoding (record { kind = k; value = take len (drop 4 mid) }))) kind c.frame.ensures.after in
    Writes-encoding out body c.frame.new.out x.value (marked (g.A.Nla.shape c.args.attribute.now).nested x.kind) len c.write_value-len.ensures.len c.requires.room c.write_value-len.ensures.after framed
