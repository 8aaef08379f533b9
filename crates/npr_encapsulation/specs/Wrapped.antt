-- A family seen through a variant of another type, and the family of attributes that are kept as they stand.
use Rattle.std.specs.Prelude.{◌≡◌, ◌+◌, ◌*◌, ◌<◌, ◌≤◌, ◌^◌, length, None}
use Rattle.std.proofs.Common.{refl, sym, ap, subst, ◌∙◌}
use Rattle.npr_base.specs.declared.attribute_set.AttributeSet.TheVariants.{Value as OfValue}
use Rattle.npr_base.specs.declared.value.Form.TheVariants.{Raw}
use Rattle.npr_base.specs.Codec.{raw}
use Rattle.npr_base.specs.Framing.{Item, Proper, framed}
use Rattle.npr_base.specs.Counts.{SawEach}
use Rattle.npr_base.specs.lemmas.Looks.{none-most, none-saw}
use Rattle.npr_base.specs.Looking.{no_looking}
use Rattle.npr_base.specs.Family.{Writing, Reading, written_as, unfit_as, written_by, unfit_by}
use Rattle.npr_base.specs.Refusal.{at_number}
use Rattle.npr_base.specs.Showing.{Seeing}
use Rattle.npr_base.specs.Value.{Shown, are_bytes}
use Rattle.npr_base.specs.Table.{slot_other, writing_by}

-- `made` is the variant, and what is written of it is what the family writes, and what it is seen as what the family sees
module _ {M W : Type 0} {v : Writing M} (F : Reading v) (made : M → W) (w : Writing W) (view : Item → W → Shown)
    (same : (m : M) → w.shape (made m) ≡ v.shape m) (counted : (m : M) → w.members (made m) ≡ v.members m)
    (seen : (x : Item) (m : M) → view x (made m) ≡ F.seeing.sees x m) where
  pub shape-is : (x : W) (m : M) → x ≡ made m → w.shape x ≡ v.shape m
  shape-is x m e = ap w.shape e ∙ same m

  pub written-is : (x : W) (m : M) → x ≡ made m → written_by w x ≡ written_by v m
  written-is x m e = ap written_as (shape-is x m e)

  pub fits-is : (x : W) (m : M) → x ≡ made m → unfit_by w x ≡ None → unfit_by v m ≡ None
  fits-is x m e h = sym (ap unfit_as (shape-is x m e)) ∙ h

  abbrev pub wrapped-seeing : Seeing (λ x n. (m : M) × F.Reads x m × (n ≡ made m)) F.Faulty
  wrapped-seeing = record {
    form_at = F.seeing.form_at;
    sees = view;
    shows = λ x s n p q. F.seeing.shows x s q.0 p q.1 ∙ sym (ap (view x) q.2 ∙ seen x q.0);
    whole = λ x s whole p. let m = F.seeing.whole x s whole p in (made m.0, (m.0, m.1, refl));
    wrong = F.seeing.wrong;
  }

  abbrev pub wrapped : Reading w
  wrapped = record {
    Reads = λ x n. (m : M) × F.Reads x m × (n ≡ made m);
    Faulty = F.Faulty;
    looks = F.looks;
    Coherent = λ n. (m : M) × F.Coherent m × (n ≡ made m);
    one_reading = λ x n o p q. p.2 ∙ ap made (F.one_reading x p.0 q.0 p.1 q.1) ∙ sym q.2;
    no_fault = λ x n e p q. F.no_fault x p.0 e p.1 q;
    reads_coherent = λ x n proper p. (p.0, F.reads_coherent x p.0 proper p.1, p.2);
    kinds = λ n c. subst (λ (x : Item). x.kind < 2 ^ 16) (sym (written-is n c.0 c.2)) (F.kinds c.0 c.1);
    reads_back = λ n c h. (c.0, subst (λ (x : Item). F.Reads x c.0) (sym (written-is n c.0 c.2)) (F.reads_back c.0 c.1 (fits-is n c.0 c.2 h)), c.2);
    grows =
        λ x n proper p. subst (λ (y : Item). 2 * framed (length y.value) ≤ 5 * (4 + length x.value)) (sym (written-is n p.0 p.2)) (F.grows x p.0 proper p.1);
    bounded = F.bounded;
    saw = λ x n old new p t. subst (SawEach old new) (sym (ap w.members p.2 ∙ counted p.0)) (F.saw x p.0 old new p.1 t);
    seeing = wrapped-seeing;
  }

abbrev pub kept : Reading (writing_by slot_other)
kept = record {
  Reads = λ x y. y ≡ x;
  Faulty = λ x e. ⊥;
  looks = no_looking;
  Coherent = Proper;
  one_reading = λ x y z p q. p ∙ sym q;
  no_fault = λ x y e p q. q;
  reads_coherent = λ x y proper p. subst Proper (sym p) proper;
  kinds = λ x c. c.kind;
  reads_back = λ x c h. refl;
  grows = λ x y proper p. subst (λ (z : Item). 2 * framed (length z.value) ≤ 5 * (4 + length x.value)) (sym p) (raw.grows x.value x.value proper.value refl);
  bounded = λ x old new t. none-most (length x.value) old new t;
  saw = λ x y old new p t. none-saw old new t;
  seeing = record {
    form_at = λ k. (at_number OfValue k, Raw);
    sees = λ x y. are_bytes y.value;
    shows = λ x s y p q. p ∙ sym (ap (λ (z : Item). are_bytes z.value) q);
    whole = λ x s whole p. (x, refl);
    wrong = λ x e p. p;
  };
}
