-- What a table says of a number that no row has.
--     none_so          no row's number is one of these
--     other-reads      then an attribute of such a number is read as it stands
--     other-form       and is seen as its bytes
use Rattle.std.specs.Prelude.{Bool, true, false, not, ◌&&◌, ◌==◌, if◌then◌else◌}
use Rattle.std.specs.Bool.{MatchBool}
use Rattle.std.proofs.Common.{◌≡◌, ℕ, List, [], ◌∷◌, refl, sym, ap, ◌∙◌, true≢false}
use Rattle.std.proofs.lemmas.Bool.{eqb-true}
use Rattle.npr_base.specs.declared.attribute_set.AttributeSet.{AttributeSet}
use Rattle.npr_base.specs.declared.value.Form.TheVariants.{Raw}
use Rattle.npr_base.specs.EnumTable.{VariantRows, ReadsIn, other_in, form_in}
use Rattle.npr_base.specs.Framing.{Item}
use Rattle.npr_base.specs.Refusal.{at_number}
use denote.Struct.Field.{Field}

abbrev pub none_so : (ℕ → Bool) → (Fss : List (List Field)) → VariantRows Fss → Bool
none_so p [] rows = true
none_so p (Fs ∷ []) rows = true
none_so p (Fs ∷ Gs ∷ Fss) rows = not (p rows.0.at.number) && none_so p (Gs ∷ Fss) rows.1

both_so : (a b : Bool) → (a && b) ≡ true → (a ≡ true) × (b ≡ true)
both_so true b e = (refl, e)
both_so false b e = absurd (true≢false (sym e))

not_so : (b : Bool) → not b ≡ true → b ≡ true → ⊥
not_so true q e = true≢false (sym q)
not_so false q e = true≢false (sym e)

-- a row of another number is passed over
passed : (A B : Type 0) (b : Bool) → (b ≡ true → ⊥) → B → MatchBool b A B
passed A B true apart t = absurd (apart refl)
passed A B false apart t = t

passed_if : {T : Type 0} (t u v : T) (b : Bool) → (b ≡ true → ⊥) → u ≡ v → (if b then t else u) ≡ v
passed_if t u v true apart e = absurd (apart refl)
passed_if t u v false apart e = e

module _ (p : ℕ → Bool) (n : ℕ) (is : p n ≡ true) where
  other_number : (k : ℕ) → not (p k) ≡ true → (n == k) ≡ true → ⊥
  other_number k q e = not_so (p k) q (sym (ap p (eqb-true n k e)) ∙ is)

  pub other-reads : (Fss : List (List Field)) (rows : VariantRows Fss) → none_so p Fss rows ≡ true → (x : Item)
      → ReadsIn Fss rows n x (other_in Fss rows x)
  other-reads [] rows q x = refl
  other-reads (Fs ∷ []) rows q x = refl
  other-reads (Fs ∷ Gs ∷ Fss) rows q x =
      let both = both_so (not (p rows.0.at.number)) (none_so p (Gs ∷ Fss) rows.1) q in
      passed ⊥ (ReadsIn (Gs ∷ Fss) rows.1 n x (other_in (Gs ∷ Fss) rows.1 x)) (n == rows.0.at.number) (other_number rows.0.at.number both.0)
      (other-reads (Gs ∷ Fss) rows.1 both.1 x)

  pub other-form : (family : AttributeSet) (Fss : List (List Field)) (rows : VariantRows Fss) → none_so p Fss rows ≡ true
      → form_in family Fss rows n ≡ (at_number family n, Raw)
  other-form family [] rows q = refl
  other-form family (Fs ∷ []) rows q = refl
  other-form family (Fs ∷ Gs ∷ Fss) rows q =
      let both = both_so (not (p rows.0.at.number)) (none_so p (Gs ∷ Fss) rows.1) q in
      passed_if (rows.0.at, rows.0.codec.showing.form) (form_in family (Gs ∷ Fss) rows.1 n) (at_number family n, Raw) (n == rows.0.at.number)
      (other_number rows.0.at.number both.0) (other-form family (Gs ∷ Fss) rows.1 both.1)
