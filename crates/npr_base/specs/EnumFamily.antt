-- A table of an enum's variants is a family.
--     attributes_in        what attributes mean by such a table, whose numbers are apart
--     rewritten            a family under one context, written as under another
use Rattle.std.proofs.Common.{◌≡◌, ◌+◌, ◌*◌, ◌<◌, ◌≤◌, ◌^◌, length, true, List, refl, sym, ap, subst, ◌∙◌}
use Rattle.npr_base.specs.declared.attribute_set.At.{At}
use Rattle.npr_base.specs.declared.value.Form.{Form}
use Rattle.npr_base.specs.lemmas.Fit.{unfit_of-none}
use Rattle.npr_base.specs.Counts.{SawEach}
use Rattle.npr_base.specs.Framing.{Item, framed, number_of}
use Rattle.npr_base.specs.Looks.{Looking}
use Rattle.npr_base.specs.EnumTable.{VariantRows, MeaningIn, other_in, slot_in, numbered, ReadsIn}
use Rattle.npr_base.specs.EnumTable.{WrongIn, looks_in, family_in, form_in, writing_in, all_rows, CoherentIn}
use Rattle.npr_base.specs.Family.{Writing, Reading, unfit_as, written_as}
use Rattle.npr_base.specs.Showing.{Seeing}
use Rattle.npr_base.specs.Value.{Shows}
use Rattle.npr_base.specs.Table.{slot_unfit, IsSlot, Table}
use Rattle.npr_base.specs.Table.{seen_by, item_of, plain_item, table_with}
use Rattle.npr_base.specs.lemmas.Table.{rows-show}
use Rattle.npr_base.specs.TableFamily.{table_family}
use denote.Struct.Field.{Field}
use Rattle.npr_base.specs.lemmas.EnumTable.{reads-in, wrong-in, looks-in, form-in, kinds-in, aligned-in, whole-in, wrong-shown, slot-other}
use Rattle.npr_base.specs.lemmas.EnumTable.{back-read, rows-read}

module _ (Fss : List (List Field)) (rows : VariantRows Fss) where
  abbrev pub enum_table : numbered Fss rows ≡ true → Table (MeaningIn Fss rows)
  enum_table h =
      table_with (all_rows Fss rows) (other_in Fss rows) (slot_in Fss rows) (CoherentIn Fss rows)
      (aligned-in (all_rows Fss rows) (slot_in Fss rows) Fss rows (λ m. m) (λ m. refl) h) (slot-other Fss rows)
      (λ x is. subst (IsSlot (all_rows Fss rows)) (sym (slot-other Fss rows x)) is) (kinds-in (all_rows Fss rows) Fss rows h)
      (λ m c fits.
      let x = item_of (slot_in Fss rows m) in
      reads-in (other_in Fss rows) Fss rows (λ n. n) (λ y. refl) (number_of x.kind) x m (back-read Fss rows h m c fits))

  abbrev pub enum_seeing : numbered Fss rows ≡ true
      → Seeing (λ x m. ReadsIn Fss rows (number_of x.kind) x m) (λ x e. WrongIn Fss rows (number_of x.kind) x e)
  enum_seeing h =
      let t = enum_table h in
      let family = family_in Fss rows in
      let same = form-in family Fss rows (λ n. n) in
      record {
        form_at = form_in family Fss rows;
        sees = λ x m. seen_by (slot_in Fss rows) m x.value;
        shows = λ x s m p q.
            rows-show t.other t.slot_of t.Coherent family t.rows t.aligned t.other_is (number_of x.kind) x s m
            (subst (λ (f : At × Form). Shows f.1 x.value s) (same (number_of x.kind)) p) (rows-read Fss rows x m q);
        whole = λ x s w p. whole-in family Fss rows (number_of x.kind) x s w p;
        wrong = λ x e p. wrong-shown family Fss rows (number_of x.kind) x e p;
      }

  -- the family of the attributes
  abbrev pub attributes_in : numbered Fss rows ≡ true → Reading (writing_in Fss rows)
  attributes_in h0 =
      let t = table_family (enum_table h0) in
      let same = looks-in Fss rows (λ n. n) in
      record {
        Reads = λ x m. ReadsIn Fss rows (number_of x.kind) x m;
        Faulty = λ x e. WrongIn Fss rows (number_of x.kind) x e;
        looks = looks_in Fss rows;
        Coherent = CoherentIn Fss rows;
        one_reading = λ x m n p q. t.one_reading x m n (rows-read Fss rows x m p) (rows-read Fss rows x n q);
        no_fault = λ x m e p q. t.no_fault x m e (rows-read Fss rows x m p) (wrong-in Fss rows (λ n. n) (number_of x.kind) x e q);
        reads_coherent = λ x m proper p. t.reads_coherent x m proper (rows-read Fss rows x m p);
        kinds = t.kinds;
        reads_back = λ m c h. back-read Fss rows h0 m c (unfit_of-none (slot_unfit (slot_in Fss rows m)) (plain_item (slot_in Fss rows m)) h);
        grows = λ x m proper p. t.grows x m proper (rows-read Fss rows x m p);
        bounded = λ x old new takes. t.bounded x old new (subst (λ (l : Looking Item). l.Takes x old new) same takes);
        saw = λ x m old new p takes. t.saw x m old new (rows-read Fss rows x m p) (subst (λ (l : Looking Item). l.Takes x old new) same takes);
        seeing = enum_seeing h0;
      }

-- the same family, where meanings are written as the rows of another context write them
abbrev pub rewritten : {M : Type 0} {v : Writing M} (f : Reading v) (w : Writing M) → ((m : M) → w.shape m ≡ v.shape m)
    → ((m : M) → w.members m ≡ v.members m) → Reading w
rewritten f w same counted = record {
  Reads = f.Reads;
  Faulty = f.Faulty;
  looks = f.looks;
  Coherent = f.Coherent;
  one_reading = f.one_reading;
  no_fault = f.no_fault;
  reads_coherent = f.reads_coherent;
  kinds = λ m c. subst (λ (x : Item). x.kind < 2 ^ 16) (sym (ap written_as (same m))) (f.kinds m c);
  reads_back = λ m c fits. subst (λ (x : Item). f.Reads x m) (sym (ap written_as (same m))) (f.reads_back m c (sym (ap unfit_as (same m)) ∙ fits));
  grows =
      λ x m proper p. subst (λ (y : Item). 2 * framed (length y.value) ≤ 5 * (4 + length x.value)) (sym (ap written_as (same m))) (f.grows x m proper p);
  bounded = f.bounded;
  saw = λ x m old new p takes. subst (SawEach old new) (sym (counted m)) (f.saw x m old new p takes);
  seeing = f.seeing;
}
