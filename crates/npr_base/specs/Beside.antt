-- Attributes of one number are read in one way, and those of all others in another. Each is written as one of its own side.
--     Sides           that what is read of the number is written with it, and what is read of another is not
--     beside          the family of both
--     numbers-in      what a table of an enum reads is written with its number
use Rattle.std.specs.Prelude.{◌≡◌, ℕ, ◌+◌, ◌*◌, ◌≤◌, ◌<◌, ◌^◌, ◌==◌, ◌&&◌, ◌⊎◌, Bool, true, false, not, List, [], ◌∷◌, length, None, if◌then◌else◌}
use Rattle.std.specs.Bool.{MatchBool}
use Rattle.std.specs.Cmp.{first_so, second_so}
use Rattle.std.proofs.Common.{inl, inr, refl, sym, ap, ◌∙◌, arith}
use Rattle.std.proofs.lemmas.Bool.{eqb-true}
use Rattle.npr_base.specs.Counts.{Counts, AddsAtMost, SawEach}
use Rattle.npr_base.specs.EnumTable.{VariantRows, MeaningIn, slot_in, ReadsIn, numbered, has_number}
use Rattle.npr_base.specs.Family.{Writing, Reading, Shape, written_by, unfit_by}
use Rattle.npr_base.specs.Framing.{Item, Proper, framed, marked, number_of}
use Rattle.npr_base.specs.Looks.{Looking}
use Rattle.npr_base.specs.Table.{item_of}
use Rattle.npr_base.specs.lemmas.Table.{shown_or, wrong_or}
use Rattle.npr_base.specs.lemmas.Bool.{both, one_of}
use Rattle.npr_base.specs.lemmas.Looks.{adds-at}
use Rattle.npr_base.specs.Value.{Shown, Shows, Misshown, IsWhole}
use Rattle.npr_base.specs.declared.attribute_set.At.{At}
use Rattle.npr_base.specs.declared.refusal.DecodeError.{DecodeError}
use Rattle.npr_base.specs.declared.value.Form.{Form}
use denote.Struct.Field.{Field}

-- ---- writing

abbrev pub side_shape : {A M : Type 0} → Writing A → Writing M → A ⊎ M → Shape
side_shape v w (inl a) = v.shape a
side_shape v w (inr m) = w.shape m

abbrev pub side_members : {A M : Type 0} → Writing A → Writing M → A ⊎ M → ℕ
side_members v w (inl a) = v.members a
side_members v w (inr m) = w.members m

abbrev pub side_writing : {A M : Type 0} → Writing A → Writing M → Writing (A ⊎ M)
side_writing v w = record { shape = side_shape v w; members = side_members v w }

-- ---- reading

abbrev pub has : ℕ → Item → Bool
has number x = number_of x.kind == number

module _ {A M : Type 0} {v : Writing A} {w : Writing M} (number : ℕ) (f : Reading v) (g : Reading w) where
  abbrev pub SideReads : Item → A ⊎ M → Type 0
  SideReads x (inl a) = MatchBool (number_of x.kind == number) (f.Reads x a) ⊥
  SideReads x (inr m) = MatchBool (number_of x.kind == number) ⊥ (g.Reads x m)

  abbrev pub SideCoherent : A ⊎ M → Type 0
  SideCoherent (inl a) = f.Coherent a × (has number (written_by v a) ≡ true)
  SideCoherent (inr m) = g.Coherent m × (has number (written_by w m) ≡ false)

  abbrev pub side_sees : Item → A ⊎ M → Shown
  side_sees x (inl a) = f.seeing.sees x a
  side_sees x (inr m) = g.seeing.sees x m

  abbrev pub side_looking : Looking Item
  side_looking = record {
    Takes = λ x old new. MatchBool (number_of x.kind == number) (f.looks.Takes x old new) (g.looks.Takes x old new);
    one = λ x old new other p q. both (number_of x.kind == number) (f.looks.one x old new other) (g.looks.one x old new other) p q;
    adds = λ x old new p.
        adds-at (f.looks.Takes x) (g.looks.Takes x) (number_of x.kind == number) old new (f.looks.adds x old new) (g.looks.adds x old new) p;
  }

  pub record Sides : Type 0 where
    pub own : (x : Item) (a : A) → has number x ≡ true → f.Reads x a → has number (written_by v a) ≡ true
    pub others : (x : Item) (m : M) → has number x ≡ false → g.Reads x m → has number (written_by w m) ≡ false

  abbrev of_own : A → A ⊎ M
  of_own a = inl a

  abbrev of_others : M → A ⊎ M
  of_others m = inr m

  abbrev as_written : Writing (A ⊎ M)
  as_written = side_writing v w

  pub side-one : (x : Item) (m n : A ⊎ M) → SideReads x m → SideReads x n → m ≡ n
  side-one x (inl a) (inl b) p q = both (has number x) (λ r s. ap of_own (f.one_reading x a b r s)) (λ r s. absurd r) p q
  side-one x (inl a) (inr n) p q = both (has number x) (λ r s. absurd s) (λ r s. absurd r) p q
  side-one x (inr m) (inl b) p q = both (has number x) (λ r s. absurd r) (λ r s. absurd s) p q
  side-one x (inr m) (inr n) p q = both (has number x) (λ r s. absurd r) (λ r s. ap of_others (g.one_reading x m n r s)) p q

  pub side-sound : (x : Item) (m : A ⊎ M) (e : DecodeError) → SideReads x m → MatchBool (has number x) (f.Faulty x e) (g.Faulty x e) → ⊥
  side-sound x (inl a) e p q = both (has number x) (f.no_fault x a e) (λ r s. r) p q
  side-sound x (inr m) e p q = both (has number x) (λ r s. r) (g.no_fault x m e) p q

  pub side-coherent : Sides → (x : Item) (m : A ⊎ M) → Proper x → SideReads x m → SideCoherent m
  side-coherent sides x (inl a) proper p = one_of (has number x) (λ is r. (f.reads_coherent x a proper r, sides.own x a is r)) (λ is r. absurd r) p
  side-coherent sides x (inr m) proper p = one_of (has number x) (λ is r. absurd r) (λ is r. (g.reads_coherent x m proper r, sides.others x m is r)) p

  pub side-kinds : (m : A ⊎ M) → SideCoherent m → (written_by as_written m).kind < 2 ^ 16
  side-kinds (inl a) c = f.kinds a c.0
  side-kinds (inr m) c = g.kinds m c.0

  pub side-back : (m : A ⊎ M) → SideCoherent m → unfit_by as_written m ≡ None → SideReads (written_by as_written m) m
  side-back (inl a) c fits = rw c.1 (f.reads_back a c.0 fits)
  side-back (inr m) c fits = rw c.1 (g.reads_back m c.0 fits)

  pub side-grows : (x : Item) (m : A ⊎ M) → Proper x → SideReads x m → 2 * framed (length (written_by as_written m).value) ≤ 5 * (4 + length x.value)
  side-grows x (inl a) proper p = one_of (has number x) (λ is r. f.grows x a proper r) (λ is r. absurd r) p
  side-grows x (inr m) proper p = one_of (has number x) (λ is r. absurd r) (λ is r. g.grows x m proper r) p

  pub side-bounded : (x : Item) (old new : Counts) → side_looking.Takes x old new → AddsAtMost old new (length x.value)
  side-bounded x old new t = one_of (has number x) (λ is. f.bounded x old new) (λ is. g.bounded x old new) t

  pub side-saw : (x : Item) (m : A ⊎ M) (old new : Counts) → SideReads x m → side_looking.Takes x old new → SawEach old new (as_written.members m)
  side-saw x (inl a) old new p t = both (has number x) (f.saw x a old new) (λ r s. absurd r) p t
  side-saw x (inr m) old new p t = both (has number x) (λ r s. absurd r) (g.saw x m old new) p t

  abbrev pub form_beside : ℕ → At × Form
  form_beside k = if k == number then f.seeing.form_at k else g.seeing.form_at k

  pub side-shows : (x : Item) (s : Shown) (m : A ⊎ M) → Shows (form_beside (number_of x.kind)).1 x.value s → SideReads x m → s ≡ side_sees x m
  side-shows x s (inl a) p q =
      shown_or (has number x) (f.seeing.form_at (number_of x.kind)) (g.seeing.form_at (number_of x.kind)) x s
      (λ shows r. f.seeing.shows x s a shows r) (λ shows r. absurd r) p q
  side-shows x s (inr m) p q =
      shown_or (has number x) (f.seeing.form_at (number_of x.kind)) (g.seeing.form_at (number_of x.kind)) x s
      (λ shows r. absurd r) (λ shows r. g.seeing.shows x s m shows r) p q

  pub side_whole : (b : Bool) (x : Item) (s : Shown) (here there : At × Form) → (IsWhole here.1 → Shows here.1 x.value s → (a : A) × f.Reads x a)
      → (IsWhole there.1 → Shows there.1 x.value s → (m : M) × g.Reads x m) → has number x ≡ b → IsWhole (if b then here else there).1
      → Shows (if b then here else there).1 x.value s → (m : A ⊎ M) × SideReads x m
  side_whole true x s here there own others is whole p = let a = own whole p in (inl a.0, rw is a.1)
  side_whole false x s here there own others is whole p = let m = others whole p in (inr m.0, rw is m.1)

  pub side-wrong : (x : Item) (e : DecodeError) → Misshown (form_beside (number_of x.kind)).1 (form_beside (number_of x.kind)).0 x.value e
      → MatchBool (has number x) (f.Faulty x e) (g.Faulty x e)
  side-wrong x e p =
      wrong_or (has number x) (f.seeing.form_at (number_of x.kind)) (g.seeing.form_at (number_of x.kind)) x e (f.seeing.wrong x e)
      (g.seeing.wrong x e) p

  abbrev pub beside : Sides → Reading as_written
  beside sides = record {
    Reads = SideReads;
    Faulty = λ x e. MatchBool (number_of x.kind == number) (f.Faulty x e) (g.Faulty x e);
    looks = side_looking;
    Coherent = SideCoherent;
    one_reading = side-one;
    no_fault = side-sound;
    reads_coherent = side-coherent sides;
    kinds = side-kinds;
    reads_back = side-back;
    grows = side-grows;
    bounded = side-bounded;
    saw = side-saw;
    seeing = record {
      form_at = form_beside;
      sees = side_sees;
      shows = side-shows;
      whole = λ x s.
          side_whole (has number x) x s (f.seeing.form_at (number_of x.kind)) (g.seeing.form_at (number_of x.kind)) (f.seeing.whole x s)
          (g.seeing.whole x s) refl;
      wrong = side-wrong;
    };
  }

-- ---- what a table of an enum reads is written with its number

marked-number : (nested : Bool) (kind : ℕ) → number_of (marked nested kind) ≡ number_of kind
marked-number true kind = omega arith
marked-number false kind = refl

pub numbers-in : (Fss : List (List Field)) (rows : VariantRows Fss) → numbered Fss rows ≡ true → (x : Item) (m : MeaningIn Fss rows)
    → ReadsIn Fss rows (number_of x.kind) x m → number_of (item_of (slot_in Fss rows m)).kind ≡ number_of x.kind
numbers-in [] rows h x m reads = ap (λ (y : Item). number_of y.kind) reads
numbers-in (Fs ∷ []) rows h x m reads = ap (λ (y : Item). number_of y.kind) reads
numbers-in (Fs ∷ Gs ∷ Fss) rows h x (inl v) reads =
    let alone = not (has_number (Gs ∷ Fss) rows.1 rows.0.at.number) && numbered (Gs ∷ Fss) rows.1 in
    let own = eqb-true (number_of rows.0.at.number) rows.0.at.number (first_so (number_of rows.0.at.number == rows.0.at.number) alone h) in
    one_of (number_of x.kind == rows.0.at.number)
    (λ is r. marked-number rows.0.nested rows.0.at.number ∙ own ∙ sym (eqb-true (number_of x.kind) rows.0.at.number is)) (λ is none. absurd none) reads
numbers-in (Fs ∷ Gs ∷ Fss) rows h x (inr m) reads =
    let taken = not (has_number (Gs ∷ Fss) rows.1 rows.0.at.number) in
    let behind = second_so (number_of rows.0.at.number == rows.0.at.number) (taken && numbered (Gs ∷ Fss) rows.1) h in
    one_of (number_of x.kind == rows.0.at.number) (λ is none. absurd none)
    (λ is r. numbers-in (Gs ∷ Fss) rows.1 (second_so taken (numbered (Gs ∷ Fss) rows.1) behind) x m r) reads
