-- What `==` answers of the attributes of a flower filter: whether two mean the same.
use Rattle.std.specs.Prelude.{◌≡◌, ℕ, ◌==◌, ◌&&◌, ◌||◌, Bool, true, false, not, List, [], ◌∷◌}
use Rattle.std.specs.Bool.{one_answer}
use Rattle.std.specs.Cmp.{IsEquivalence, first_so, second_so}
use Rattle.std.proofs.Common.{inl, inr, refl, sym, ap, ◌∙◌, true≢false}
use Rattle.std.proofs.lemmas.Bool.{eq-eqb, ne_eqb, or_right}
use Rattle.npr_base.specs.EnumTable.{VariantRows, kind_at, ◌also◌}
use Rattle.npr_base.specs.Equality.{IsEqualityOf}
use Rattle.npr_base.specs.Tables.{table_decides}
use Rattle.npr_base.specs.ViewEquality.{bytes_equality}
use Rattle.npr_base.specs.lemmas.EnumTable.{FieldsDecide}
use Rattle.npr_base.proofs.FieldEquality.{one, list, number, kept}
use Rattle.npr_base.proofs.IpLaws.{ipv4_equality, ipv6_equality}
use Rattle.npr_base.proofs.MeaningLaws.{text_equality}
use Rattle.npr_tc_actions.proofs.EqualityLaws.{action_equality}
use Rattle.npr_tc_actions.proofs.EncEquality.{enc_option_equality}
use Rattle.npr_tc_values.proofs.EqualityLaws.{handle_equality}
use Rattle.npr_tc_filters.specs.Flower.{table, family}
use Rattle.npr_tc_filters.specs.FlowerCfm as OfCfm
use Rattle.npr_tc_filters.specs.FlowerHeld.{Helds, helds, held_in, same_held, tag_in, same_option}
use Rattle.npr_tc_filters.specs.FlowerMpls as OfMpls
use Rattle.npr_tc_filters.specs.FlowerMplsLse as OfLse
use Rattle.npr_tc_filters.specs.contracts.flower_cfm.TcFlowerCfmOptionPartialEq.TheImpl as CfmEq
use Rattle.npr_tc_filters.specs.contracts.flower_mpls.TcFilterFlowerMplsOptionPartialEq.TheImpl as MplsEq
use Rattle.npr_tc_filters.specs.contracts.flower_mpls_lse.TcFilterFlowerMplsLseOptionPartialEq.TheImpl as LseEq
use Rattle.npr_tc_filters.specs.contracts.flower_option.TcFilterFlowerOption.{enum}
use denote.Enum.Compared.{Each, by}
use denote.Enum.Declared.{Choice}
use denote.Struct.Field.{Field}

-- ---- the lists inside

pub flower_mpls_lse_equality : IsEqualityOf OfLse.family.meaning LseEq.ghosts.eq
flower_mpls_lse_equality = table_decides OfLse.table _ (number also number also number also number also number also kept also tt)

pub flower_mpls_equality : IsEqualityOf OfMpls.family.meaning MplsEq.ghosts.eq
flower_mpls_equality = table_decides OfMpls.table _ (list flower_mpls_lse_equality also kept also tt)

pub flower_cfm_equality : IsEqualityOf OfCfm.family.meaning CfmEq.ghosts.eq
flower_cfm_equality = table_decides OfCfm.table _ (number also number also kept also tt)

-- ---- two attributes are the same where their variants are, and hold the same

abbrev tests_of : (Fss : List (List Field)) → Helds Fss → Each Bool Fss
tests_of [] hs = tt
tests_of (Fs ∷ Fss) hs = (λ x y. same_held (hs.0 x) (hs.0 y), tests_of Fss hs.1)

-- whether a variant has this kind
abbrev has_tag : (Fss : List (List Field)) → VariantRows Fss → ℕ → Bool
has_tag [] rows k = false
has_tag (Fs ∷ []) rows k = k == 0
has_tag (Fs ∷ Gs ∷ Fss) rows k = (k == kind_at rows.0) || has_tag (Gs ∷ Fss) rows.1 k

-- no two have one
abbrev tags_apart : (Fss : List (List Field)) → VariantRows Fss → Bool
tags_apart [] rows = true
tags_apart (Fs ∷ []) rows = true
tags_apart (Fs ∷ Gs ∷ Fss) rows = not (has_tag (Gs ∷ Fss) rows.1 (kind_at rows.0)) && tags_apart (Gs ∷ Fss) rows.1

not_so : (b : Bool) → not b ≡ true → b ≡ true → ⊥
not_so true q e = true≢false (sym q)
not_so false q e = true≢false (sym e)

has-own : (Fss : List (List Field)) (rows : VariantRows Fss) (c : Choice Fss) → has_tag Fss rows (tag_in Fss rows c) ≡ true
has-own [] rows c = absurd c
has-own (Fs ∷ []) rows (inl x) = refl
has-own (Fs ∷ []) rows (inr c) = absurd c
has-own (Fs ∷ Gs ∷ Fss) rows (inl x) = rw (eq-eqb (kind_at rows.0) (kind_at rows.0) refl) refl
has-own (Fs ∷ Gs ∷ Fss) rows (inr c) =
    or_right (tag_in (Gs ∷ Fss) rows.1 c == kind_at rows.0) (has_tag (Gs ∷ Fss) rows.1 (tag_in (Gs ∷ Fss) rows.1 c)) (has-own (Gs ∷ Fss) rows.1 c)

apart-own : (Fss : List (List Field)) (rows : VariantRows Fss) (k : ℕ) → not (has_tag Fss rows k) ≡ true → (c : Choice Fss) → k ≡ tag_in Fss rows c → ⊥
apart-own Fss rows k apart c e = not_so (has_tag Fss rows k) apart (ap (has_tag Fss rows) e ∙ has-own Fss rows c)

same-in : (Fss : List (List Field)) (rows : VariantRows Fss) (hs : Helds Fss) → tags_apart Fss rows ≡ true → (c d : Choice Fss)
    → ((tag_in Fss rows c == tag_in Fss rows d) && same_held (held_in Fss hs c) (held_in Fss hs d)) ≡ by false false Fss (tests_of Fss hs) c d
same-in [] rows hs q c d = absurd c
same-in (Fs ∷ []) rows hs q (inl x) (inl y) = refl
same-in (Fs ∷ []) rows hs q (inl x) (inr d) = absurd d
same-in (Fs ∷ []) rows hs q (inr c) d = absurd c
same-in (Fs ∷ Gs ∷ Fss) rows hs q (inl x) (inl y) = rw (eq-eqb (kind_at rows.0) (kind_at rows.0) refl) refl
same-in (Fs ∷ Gs ∷ Fss) rows hs q (inl x) (inr d) =
    let k = kind_at rows.0 in
    let apart = first_so (not (has_tag (Gs ∷ Fss) rows.1 k)) (tags_apart (Gs ∷ Fss) rows.1) q in
    rw (ne_eqb k (tag_in (Gs ∷ Fss) rows.1 d) (apart-own (Gs ∷ Fss) rows.1 k apart d)) refl
same-in (Fs ∷ Gs ∷ Fss) rows hs q (inr c) (inl y) =
    let k = kind_at rows.0 in
    let apart = first_so (not (has_tag (Gs ∷ Fss) rows.1 k)) (tags_apart (Gs ∷ Fss) rows.1) q in
    rw (ne_eqb (tag_in (Gs ∷ Fss) rows.1 c) k (λ e. apart-own (Gs ∷ Fss) rows.1 k apart c (sym e))) refl
same-in (Fs ∷ Gs ∷ Fss) rows hs q (inr c) (inr d) =
    same-in (Gs ∷ Fss) rows.1 hs.1 (second_so (not (has_tag (Gs ∷ Fss) rows.1 (kind_at rows.0))) (tags_apart (Gs ∷ Fss) rows.1) q) c d

-- a fact for each variant, in their order
flower_fields : FieldsDecide enum.parts table.rows (tests_of enum.parts helds)
flower_fields =
    one handle_equality also one text_equality also list action_equality also one bytes_equality also one bytes_equality also one bytes_equality also
    one bytes_equality also number also number also one ipv4_equality also one ipv4_equality also one ipv4_equality also one ipv4_equality also
    one ipv6_equality also one ipv6_equality also one ipv6_equality also one ipv6_equality also number also number also number also number also
    number also number also number also number also number also one ipv4_equality also one ipv4_equality also one ipv4_equality also
    one ipv4_equality also one ipv6_equality also one ipv6_equality also one ipv6_equality also one ipv6_equality also number also number also
    number also number also number also number also number also number also number also number also number also number also number also number also
    number also number also number also number also number also number also number also number also one ipv4_equality also one ipv4_equality also
    one ipv4_equality also one ipv4_equality also number also number also one bytes_equality also one bytes_equality also one bytes_equality also
    one bytes_equality also number also number also number also number also number also number also number also number also number also number also
    number also number also number also number also number also number also number also list enc_option_equality also list enc_option_equality also
    number also number also number also number also number also number also number also number also number also number also number also
    one bytes_equality also one bytes_equality also list flower_mpls_equality also number also number also number also number also number also
    number also number also list flower_cfm_equality also number also number also number also number also kept also tt

pub flower_equality : IsEqualityOf family.meaning same_option
flower_equality a b =
    rw (same-in enum.parts table.rows helds refl (enum.as_values a) (enum.as_values b))
    (table_decides table (tests_of enum.parts helds) flower_fields a b)

-- what answers whether two mean the same is an equivalence
module _ {A M : Type 0} (meaning : A → M) (test : A → A → Bool) (h : IsEqualityOf meaning test) where
  decided_by : IsEquivalence test
  decided_by = record {
    refl = λ x. (h x x).1 refl;
    symm = λ x y. one_answer (test x y) (test y x) (h x y) (λ e. sym ((h y x).0 e), λ e. (h y x).1 (sym e));
    congr = λ x y z e.
        one_answer (test x z) (test y z) (h x z)
        (λ k. (h x y).0 e ∙ (h y z).0 k, λ p. (h y z).1 (sym ((h x y).0 e) ∙ p));
  }

pub flower_equivalence : IsEquivalence same_option
flower_equivalence = decided_by family.meaning same_option flower_equality
