-- The reading of statistics that no kind governs ends at its first failed look.
use Rattle.npr_base.specs.lemmas.Fails.{FailsOnce, rows-once}
use Rattle.npr_tc_values.specs.Stats2 as OfStats2
use Rattle.npr_tc_values.specs.contracts.stats2.TcStats2.{enum as stats2_enum}
use Rattle.npr_tc_values.specs.declared.form.TcForm.TheVariants.{Kept}

pub stats2_once : FailsOnce (OfStats2.attributes Kept).looks
unfolding OfStats2.attributes
stats2_once = rows-once stats2_enum.parts (OfStats2.table Kept).rows tt
