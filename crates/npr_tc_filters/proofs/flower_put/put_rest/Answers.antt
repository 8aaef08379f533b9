use Rattle.std.proofs.Common.{refl, sym, subst}
use Rattle.npr_base.specs.Framing.{Item, number_of}
use Rattle.npr_base.specs.RowReading.{reads_at}
use Rattle.npr_tc_filters.specs.Flower.{table, no_row}
use Rattle.npr_tc_filters.specs.contracts.flower_option.TcFilterFlowerOption.{enum}
use Rattle.npr_tc_filters.specs.declared.flower_option.TcFilterFlowerOption.{TcFilterFlowerOption}
use Rattle.npr_base.proofs.OtherRows.{other-reads}
use Rattle.npr_tc_filters.proofs.flower_put.put_rest.Goals as goal

pub returns-clause-ok : goal.returns-clause-ok
returns-clause-ok g c =
    let x = c.args.item.now in
    let number = number_of x.kind in
    let reads =
    subst (λ (d : Item). reads_at table number x (TcFilterFlowerOption.Other d)) (sym c.in_ok-read.ensures.ok)
    (other-reads no_row number c.requires.none enum.parts table.rows refl x) in
    (TcFilterFlowerOption.Other c.in_ok-read.field-0, c.put.ensures, reads)
