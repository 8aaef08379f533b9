use Rattle.std.proofs.Common.{◌∙◌, ℕ, arith, sym, length-append, length-take}
use Rattle.npr_base.specs.Message.{canonical_bytes, view}
use Rattle.npr_base.proofs.Messages.{list_fits}
use Rattle.npr_base.proofs.Writing.{Writes-before}
use Rattle.npr_base.proofs.message.MessageAttributeEmitable.emit.Goals as goal

pub write_list-requires-clause-fits : goal.write_list-requires-clause-fits
write_list-requires-clause-fits g c =
    let gr = g.H.Header.grammar in
    let xs = c.args.self.now.attributes.items in
    let same = g.met.H.Header.by_family in
    rw (c.as_slice.ensures.value, same.unfit xs, same.written xs) (list_fits gr (view gr c.args.self.now) c.requires.fits)

pub returns : goal.returns
unfolding canonical_bytes
returns g c =
    let m = c.args.self.now in
    let head = g.met.H.Header.by_layout m.header in
    let list = rw (c.as_slice.ensures.value, g.met.H.Header.by_family.written m.attributes.items) at c.write_list.ensures.after in
    Writes-before c.args.out.now c.write_list.new.out c.emit.new.out _ _ c.size.result (c.size.ensures ∙ sym head.2)
    (omega (arith, c.requires.room, c.size.ensures, head.2, length-append {A = ℕ})) list (rw head.0 at c.emit.ensures)

pub write_list-requires-clause-room : goal.write_list-requires-clause-room
unfolding canonical_bytes
write_list-requires-clause-room g c =
    let m = c.args.self.now in
    rw (c.as_slice.ensures.value, g.met.H.Header.by_family.written m.attributes.items)
    (omega (arith, c.requires.room, c.size.ensures, (g.met.H.Header.by_layout m.header).2, length-append {A = ℕ}))

pub emit-requires-clause-room : goal.emit-requires-clause-room
unfolding canonical_bytes
emit-requires-clause-room g c =
    let head = g.met.H.Header.by_layout c.args.self.now.header in
    rw head.0 (omega (arith, c.requires.room, c.size.ensures, head.2, length-append {A = ℕ}, length-take {A = ℕ}))
