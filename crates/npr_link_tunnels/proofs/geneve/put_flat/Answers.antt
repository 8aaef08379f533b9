use Rattle.std.proofs.Common.{sym, subst}
use Rattle.npr_base.specs.RowReading.{reads_at}
use Rattle.npr_link_tunnels.specs.Geneve.{table}
use Rattle.npr_link_tunnels.specs.declared.geneve.InfoGeneve.{InfoGeneve}
use Rattle.npr_link_tunnels.proofs.geneve.put_flat.Goals as goal

-- where the search comes to its bound
pub flat_rows-put_big-requires-in-11-clause-row : goal.flat_rows-put_big-requires-in-11-clause-row
flat_rows-put_big-requires-in-11-clause-row g c =
    λ x a reads is. subst (λ (b : InfoGeneve). reads_at table 11 c.args.item.now b) (sym is) reads
