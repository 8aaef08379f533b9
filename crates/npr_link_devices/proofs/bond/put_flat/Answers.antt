use Rattle.std.proofs.Common.{sym, subst}
use Rattle.npr_base.specs.RowReading.{reads_at}
use Rattle.npr_link_devices.specs.Bond.{table}
use Rattle.npr_link_devices.specs.declared.bond.InfoBond.{InfoBond}
use Rattle.npr_link_devices.proofs.bond.put_flat.Goals as goal

-- where the search comes to its bound
pub flat_rows-put_exactly-requires-in-11-clause-row : goal.flat_rows-put_exactly-requires-in-11-clause-row
flat_rows-put_exactly-requires-in-11-clause-row g c =
    λ x a reads is. subst (λ (b : InfoBond). reads_at table 11 c.args.item.now b) (sym is) reads
