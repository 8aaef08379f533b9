-- A list of what a driver says, of fewer than eight bytes, has no room for a kind and for data beside it: under what governs it, it is
-- read as where nothing does.
use Rattle.std.specs.Prelude.{◌==◌}
use Rattle.std.proofs.Common.{◌≡◌, ℕ, ◌<◌, ◌+◌, ◌*◌, ◌⊎◌, true, false, List, [], ◌∷◌, length, Option, None, refl, sym, ap, subst, ◌∙◌, arith, inl, inr}
use Rattle.std.proofs.lemmas.Bool.{cases_Bool}
use Rattle.npr_base.specs.declared.refusal.DecodeError.{DecodeError}
use Rattle.npr_base.specs.FirstTold as Told
use Rattle.npr_base.specs.lemmas.FirstTold.{governs-one as told-one, first-step}
use Rattle.npr_base.specs.Framing.{Item, number_of, Front, Passes}
use Rattle.npr_base.specs.lemmas.Front.{Front-shrinks}
use Rattle.npr_base.specs.Lists.{Each, ReadsTo, ReadsList, IsWrong, FirstFault}
use Rattle.npr_base.specs.lemmas.LookBounds.{Passes-length}
use Rattle.npr_base.specs.lemmas.Bool.{one_of}
use Rattle.npr_link.specs.Governing.{Forms, told, port_told, Governs, none_governs}
use Rattle.npr_link.specs.lemmas.Governing.{short_ends, none-first, other_tells}
use Rattle.npr_link.specs.Info.{Meaning, attributes}
use Rattle.npr_link.specs.InfoKind as OfKind
use Rattle.npr_link.specs.PortKind as OfPortKind
use Rattle.npr_link_tunnels.specs.declared.form.InfoForm.{InfoForm}
use Rattle.npr_link_tunnels.specs.declared.form.InfoForm.TheVariants.{Kept}
use Rattle.npr_link.specs.declared.port_kind.InfoPortForm.{InfoPortForm}
use Rattle.npr_link.specs.declared.port_kind.InfoPortForm.TheVariants.{Kept as PortKept}

-- ---- an attribute is read alike under both

abbrev Alike : Forms → Forms → Item → Type 0
Alike c d x = ((number_of x.kind == 2) ≡ true → c.0 ≡ d.0) × ((number_of x.kind == 5) ≡ true → c.1 ≡ d.1)

module _ (x : Item) (f g : InfoForm) (p q : InfoPortForm) where
  data_reads : (m : Meaning) → ((number_of x.kind == 2) ≡ true → f ≡ g) → (attributes (f, p)).Reads x m → (attributes (g, p)).Reads x m
  data_reads (inl k) is reads = reads
  data_reads (inr (inl d)) is reads = one_of (number_of x.kind == 1) (λ e none. absurd none)
      (λ e. one_of (number_of x.kind == 2) (λ h r. subst (λ (k : InfoForm). (attributes (k, p)).Reads x (inr (inl d))) (is h) reads)
      (λ h none. absurd none)) reads
  data_reads (inr (inr m)) is reads = reads

  port_reads : (m : Meaning) → ((number_of x.kind == 5) ≡ true → p ≡ q) → (attributes (g, p)).Reads x m → (attributes (g, q)).Reads x m
  port_reads (inl k) is reads = reads
  port_reads (inr (inl d)) is reads = reads
  port_reads (inr (inr (inl y))) is reads = reads
  port_reads (inr (inr (inr (inl k)))) is reads = reads
  port_reads (inr (inr (inr (inr (inl d))))) is reads = elim (cases_Bool (number_of x.kind == 5)) [
    | inl h ↦ subst (λ (k : InfoPortForm). (attributes (g, k)).Reads x (inr (inr (inr (inr (inl d)))))) (is h) reads
    | inr h ↦ rw h (rw h at reads)
  ]
  port_reads (inr (inr (inr (inr (inr y))))) is reads = reads

  data_faulty : (e : DecodeError) → ((number_of x.kind == 2) ≡ true → f ≡ g) → (attributes (f, p)).Faulty x e → (attributes (g, p)).Faulty x e
  data_faulty e is bad = elim (cases_Bool (number_of x.kind == 2)) [
    | inl h ↦ subst (λ (k : InfoForm). (attributes (k, p)).Faulty x e) (is h) bad
    | inr h ↦ rw h (rw h at bad)
  ]

  port_faulty : (e : DecodeError) → ((number_of x.kind == 5) ≡ true → p ≡ q) → (attributes (g, p)).Faulty x e → (attributes (g, q)).Faulty x e
  port_faulty e is bad = elim (cases_Bool (number_of x.kind == 5)) [
    | inl h ↦ subst (λ (k : InfoPortForm). (attributes (g, k)).Faulty x e) (is h) bad
    | inr h ↦ rw h (rw h at bad)
  ]

module _ (c d : Forms) where
  reads_alike : (x : Item) (m : Meaning) → Alike c d x → (attributes c).Reads x m → (attributes d).Reads x m
  reads_alike x m alike reads = port_reads x d.0 d.0 c.1 d.1 m alike.1 (data_reads x c.0 d.0 c.1 c.1 m alike.0 reads)

  faulty_alike : (x : Item) (e : DecodeError) → Alike c d x → (attributes c).Faulty x e → (attributes d).Faulty x e
  faulty_alike x e alike bad = port_faulty x d.0 d.0 c.1 d.1 e alike.1 (data_faulty x c.0 d.0 c.1 c.1 e alike.0 bad)

  -- ---- and so is a list that holds one at most

  module _ (bytes : List ℕ) (short : length bytes < 8) (alike : (x : Item) (rest : List ℕ) → Front bytes x rest → Alike c d x) where
    each_alike : (items : List Item) (ms : List Meaning) (rest : List ℕ) → Passes bytes items rest → Each (attributes c).Reads items ms
        → Each (attributes d).Reads items ms
    each_alike [] [] rest p each = tt
    each_alike [] (m ∷ ms) rest p each = absurd each
    each_alike (x ∷ items) [] rest p each = absurd each
    each_alike (x ∷ []) (m ∷ []) rest (more, f, p) each = (reads_alike x m (alike x more f) each.0, tt)
    each_alike (x ∷ []) (m ∷ n ∷ ms) rest p each = absurd each.1
    each_alike (x ∷ y ∷ items) ms rest p each = absurd (omega (arith, short, Passes-length (x ∷ y ∷ items) bytes rest p))

    read_alike : (ms : List Meaning) (rest : List ℕ) → ReadsTo (attributes c).Reads bytes ms rest → ReadsTo (attributes d).Reads bytes ms rest
    read_alike ms rest (items, p, each) = (items, p, each_alike items ms rest p each)

    wrong_alike : (items : List Item) (rest : List ℕ) (e : DecodeError) → Passes bytes items rest → IsWrong (attributes c).Faulty rest e
        → IsWrong (attributes d).Faulty rest e
    wrong_alike items rest e p (inl bad) = inl bad
    wrong_alike [] rest e p (inr (x, more, f, bad)) =
        inr (x, more, f, faulty_alike x e (alike x more (subst (λ (b : List ℕ). Front b x more) (sym p) f)) bad)
    wrong_alike (y ∷ items) rest e p (inr (x, more, f, bad)) =
        absurd (omega (arith, short, Passes-length (y ∷ items) bytes rest p, Front-shrinks rest x more f))

    fault_alike : (e : DecodeError) → FirstFault (attributes c).Reads (attributes c).Faulty bytes e
        → FirstFault (attributes d).Reads (attributes d).Faulty bytes e
    fault_alike e (ms, rest, reads, wrong) = (ms, rest, read_alike ms rest reads, wrong_alike reads.0 rest e reads.1 wrong)

-- ---- what governs such a list

short_kept : {F : Type 0} (tells : Item → Option F) (kept : F) (bytes rest : List ℕ) (x : Item) (form : F) → length bytes < 8 → Front bytes x rest
    → tells x ≡ None → Told.Governs tells kept bytes form → form ≡ kept
short_kept tells kept bytes rest x form short f none g =
    let after : length rest < 4 = omega (arith, short, Front-shrinks bytes x rest f) in
    told-one tells kept bytes form kept g (first-step tells kept None x rest bytes kept none f (none-first tells kept rest (short_ends rest after)))

alike_none : (bytes rest : List ℕ) (x : Item) (c : Forms) → length bytes < 8 → Governs bytes c → Front bytes x rest → Alike c none_governs x
alike_none bytes rest x c short g f = (
  λ e. short_kept told Kept bytes rest x c.0 short f (other_tells 1 2 OfKind.form_named x e refl) g.0,
  λ e. short_kept port_told PortKept bytes rest x c.1 short f (other_tells 4 5 OfPortKind.form_named x e refl) g.1,
)

none_alike : (bytes rest : List ℕ) (x : Item) (c : Forms) → length bytes < 8 → Governs bytes c → Front bytes x rest → Alike none_governs c x
none_alike bytes rest x c short g f = let a = alike_none bytes rest x c short g f in (λ e. sym (a.0 e), λ e. sym (a.1 e))

-- something does
abbrev Begins : List ℕ → Type 0
Begins bytes = Told.NoneInFront bytes ⊎ ((x : Item) × (rest : List ℕ) × Front bytes x rest)

short_governed : (bytes : List ℕ) → length bytes < 8 → Begins bytes → (c : Forms) × Governs bytes c
short_governed bytes short (inl ends) = (none_governs, (none-first told Kept bytes ends, none-first port_told PortKept bytes ends))
short_governed bytes short (inr (x, rest, f)) =
    let ends = short_ends rest (omega (arith, short, Front-shrinks bytes x rest f)) in (
      (Told.or_else (told x) Kept, Told.or_else (port_told x) PortKept),
      (
        first-step told Kept (told x) x rest bytes Kept refl f (none-first told Kept rest ends),
        first-step port_told PortKept (port_told x) x rest bytes PortKept refl f (none-first port_told PortKept rest ends),
      ),
    )

begins : (items : List Item) (bytes rest : List ℕ) → Passes bytes items rest → Begins rest → Begins bytes
begins [] bytes rest p b = subst Begins (sym p) b
begins (x ∷ items) bytes rest (more, f, p) b = inr (x, more, f)

wrong_begins : (c : Forms) (rest : List ℕ) (e : DecodeError) → IsWrong (attributes c).Faulty rest e → Begins rest
wrong_begins c rest e (inl bad) = inl (inr (e, bad.0, bad.1))
wrong_begins c rest e (inr (x, more, f, bad)) = inr (x, more, f)

-- ---- what is read where nothing governs is read under what does, and the other way round

pub short-reads : (bytes : List ℕ) (ms : List Meaning) → length bytes < 8 → ReadsList (attributes none_governs).Reads bytes ms
    → (c : Forms) × Governs bytes c × ReadsList (attributes c).Reads bytes ms
short-reads bytes ms short reads =
    let g = short_governed bytes short (begins reads.0 bytes [] reads.1 (inl (inl refl))) in
    (g.0, g.1, read_alike none_governs g.0 bytes short (λ x rest f. none_alike bytes rest x g.0 short g.1 f) ms [] reads)

pub short-fault : (bytes : List ℕ) (e : DecodeError) → length bytes < 8 → FirstFault (attributes none_governs).Reads (attributes none_governs).Faulty bytes e
    → (c : Forms) × Governs bytes c × FirstFault (attributes c).Reads (attributes c).Faulty bytes e
short-fault bytes e short (ms, rest, reads, wrong) =
    let g = short_governed bytes short (begins reads.0 bytes rest reads.1 (wrong_begins none_governs rest e wrong)) in
    (g.0, g.1, fault_alike none_governs g.0 bytes short (λ x more f. none_alike bytes more x g.0 short g.1 f) e (ms, rest, reads, wrong))

pub short-plain : (bytes : List ℕ) (c : Forms) (ms : List Meaning) → length bytes < 8 → Governs bytes c → ReadsList (attributes c).Reads bytes ms
    → ReadsList (attributes none_governs).Reads bytes ms
short-plain bytes c ms short g reads = read_alike c none_governs bytes short (λ x rest f. alike_none bytes rest x c short g f) ms [] reads
