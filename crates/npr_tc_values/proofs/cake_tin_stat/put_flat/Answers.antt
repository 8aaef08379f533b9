use Rattle.npr_tc_values.proofs.cake_tin_stat.put_flat.Goals as goal

pub flat_rows-put_exactly-requires-in-12-clause-row : goal.flat_rows-put_exactly-requires-in-12-clause-row
flat_rows-put_exactly-requires-in-12-clause-row g c x a reads made = rw made reads
