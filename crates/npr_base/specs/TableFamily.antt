-- The family of a table: what its rows read, refuse and write, with the laws that a family owes.
use Rattle.std.proofs.Common.{◌≡◌, false, ap}
use Rattle.npr_base.specs.Framing.{Item, number_of}
use Rattle.npr_base.specs.lemmas.Fit.{unfit_of-none}
use Rattle.npr_base.specs.Family.{Reading}
use Rattle.npr_base.specs.Showing.{Seeing}
use Rattle.npr_base.specs.Table.{ReadsAt, WrongAt, form_from, first_family, has_row, seen_by, item_of, plain_item, slot_unfit, slot_kind, slot_nested}
use Rattle.npr_base.specs.Table.{slot_members, writing_by, Table, looks_of}
use Rattle.npr_base.specs.lemmas.Table.{table-one, table-sound, table-coherent, table-grows, marked-small, rows-bounded, rows-saw, rows-show, rows-whole}
use Rattle.npr_base.specs.lemmas.Table.{rows-wrong}

abbrev pub table_seeing : {M : Type 0} (t : Table M)
    → Seeing (λ x m. ReadsAt t.other t.rows (number_of x.kind) x m) (λ x e. WrongAt t.rows (number_of x.kind) x e)
table_seeing t =
    let family = first_family t.rows in
    record {
      form_at = form_from family t.rows;
      sees = λ x m. seen_by t.slot_of m x.value;
      shows = λ x s m p q. rows-show t.other t.slot_of t.Coherent family t.rows t.aligned t.other_is (number_of x.kind) x s m p q;
      whole = λ x s w p. rows-whole t.other t.slot_of t.Coherent family t.rows (number_of x.kind) x s w p;
      wrong = λ x e p. rows-wrong t.other t.slot_of t.Coherent family t.rows (number_of x.kind) x e p;
    }

-- the family of a table
abbrev pub table_family : {M : Type 0} → (t : Table M) → Reading (writing_by t.slot_of)
table_family t = record {
  Reads = λ x m. ReadsAt t.other t.rows (number_of x.kind) x m;
  Faulty = λ x e. WrongAt t.rows (number_of x.kind) x e;
  looks = looks_of t.rows;
  Coherent = t.Coherent;
  one_reading = λ x m n p q. table-one t.other t.rows (number_of x.kind) x m n p q;
  no_fault = λ x m e p q. table-sound t.other t.rows (number_of x.kind) x m e p q;
  reads_coherent =
      λ x m proper p.
      let alone = λ (a : has_row t.rows (number_of x.kind) ≡ false). t.other_coherent x (record { proper = proper; alone = a }) in
      table-coherent t.other t.slot_of t.Coherent t.rows t.aligned (number_of x.kind) x proper.value alone m p;
  kinds = λ m c. marked-small (slot_nested (t.slot_of m)) (slot_kind (t.slot_of m)) (t.kinds m c);
  reads_back = λ m c h. t.back m c (unfit_of-none (slot_unfit (t.slot_of m)) (plain_item (t.slot_of m)) h);
  grows =
      λ x m proper p.
      let same = λ (y : Item). ap item_of (t.other_is y) in
      table-grows t.other t.slot_of t.Coherent t.rows t.aligned same (number_of x.kind) x proper.value m p;
  bounded = rows-bounded t.rows;
  saw = rows-saw t.other t.slot_of t.Coherent t.rows t.aligned (λ x. ap slot_members (t.other_is x));
  seeing = table_seeing t;
}
