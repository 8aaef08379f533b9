-- A row that a context leaves out: its number is read as one without a row, and what the row means is read nowhere, but written.
--     behind        how what the later rows mean is written
--     left_out      the family of the later rows, over the meanings of all
--     retold        a family's attributes are seen as by other words
use Rattle.std.specs.Prelude.{◌≡◌, ◌⊎◌, ℕ, ◌+◌, ◌*◌, ◌<◌, ◌≤◌, ◌^◌, length, None}
use Rattle.std.proofs.Common.{inl, inr, sym, ap, subst}
use Rattle.npr_base.specs.Counts.{Counts, SawEach}
use Rattle.npr_base.specs.Family.{Reading, Writing, written_by, unfit_by}
use Rattle.npr_base.specs.Framing.{Item, Proper, framed, number_of}
use Rattle.npr_base.specs.Value.{Shown, Shows, Misshown, IsWhole, is_nothing}
use Rattle.npr_base.specs.declared.attribute_set.At.{At}
use Rattle.npr_base.specs.declared.refusal.DecodeError.{DecodeError}
use Rattle.npr_base.specs.declared.value.Form.{Form}

abbrev pub behind : {A M : Type 0} → Writing (A ⊎ M) → Writing M
behind w = record { shape = λ m. w.shape (inr m); members = λ m. w.members (inr m) }

-- of the later rows alone
abbrev pub Later : {A M : Type 0} → (M → Type 0) → A ⊎ M → Type 0
Later P (inl v) = ⊥
Later P (inr m) = P m

abbrev pub later_seen : {A M : Type 0} → (M → Shown) → A ⊎ M → Shown
later_seen sees (inl v) = is_nothing
later_seen sees (inr m) = sees m

module _ {A M : Type 0} (w : Writing (A ⊎ M)) (f : Reading (behind w)) where
  abbrev as_later : M → A ⊎ M
  as_later m = inr m

  pub left-one : (x : Item) (m n : A ⊎ M) → Later (f.Reads x) m → Later (f.Reads x) n → m ≡ n
  left-one x (inl v) n p q = absurd p
  left-one x (inr m) (inl v) p q = absurd q
  left-one x (inr m) (inr n) p q = ap as_later (f.one_reading x m n p q)

  pub left-sound : (x : Item) (m : A ⊎ M) (e : DecodeError) → Later (f.Reads x) m → f.Faulty x e → ⊥
  left-sound x (inl v) e p q = p
  left-sound x (inr m) e p q = f.no_fault x m e p q

  pub left-coherent : (x : Item) (m : A ⊎ M) → Proper x → Later (f.Reads x) m → Later f.Coherent m
  left-coherent x (inl v) proper p = p
  left-coherent x (inr m) proper p = f.reads_coherent x m proper p

  pub left-kinds : (m : A ⊎ M) → Later f.Coherent m → (written_by w m).kind < 2 ^ 16
  left-kinds (inl v) c = absurd c
  left-kinds (inr m) c = f.kinds m c

  pub left-back : (m : A ⊎ M) → Later f.Coherent m → unfit_by w m ≡ None → Later (f.Reads (written_by w m)) m
  left-back (inl v) c fits = c
  left-back (inr m) c fits = f.reads_back m c fits

  pub left-grows : (x : Item) (m : A ⊎ M) → Proper x → Later (f.Reads x) m → 2 * framed (length (written_by w m).value) ≤ 5 * (4 + length x.value)
  left-grows x (inl v) proper p = absurd p
  left-grows x (inr m) proper p = f.grows x m proper p

  pub left-saw : (x : Item) (m : A ⊎ M) (old new : Counts) → Later (f.Reads x) m → f.looks.Takes x old new → SawEach old new (w.members m)
  left-saw x (inl v) old new p t = absurd p
  left-saw x (inr m) old new p t = f.saw x m old new p t

  pub left-shows : (x : Item) (s : Shown) (m : A ⊎ M) → Shows (f.seeing.form_at (number_of x.kind)).1 x.value s → Later (f.Reads x) m
      → s ≡ later_seen (f.seeing.sees x) m
  left-shows x s (inl v) p q = absurd q
  left-shows x s (inr m) p q = f.seeing.shows x s m p q

  pub left-whole : (x : Item) (s : Shown) → IsWhole (f.seeing.form_at (number_of x.kind)).1 → Shows (f.seeing.form_at (number_of x.kind)).1 x.value s
      → (m : A ⊎ M) × Later (f.Reads x) m
  left-whole x s whole p = let m = f.seeing.whole x s whole p in (inr m.0, m.1)

  abbrev pub left_out : Reading w
  left_out = record {
    Reads = λ x m. Later (f.Reads x) m;
    Faulty = f.Faulty;
    looks = f.looks;
    Coherent = λ m. Later f.Coherent m;
    one_reading = left-one;
    no_fault = left-sound;
    reads_coherent = left-coherent;
    kinds = left-kinds;
    reads_back = left-back;
    grows = left-grows;
    bounded = f.bounded;
    saw = left-saw;
    seeing = record {
      form_at = f.seeing.form_at;
      sees = λ x m. later_seen (f.seeing.sees x) m;
      shows = left-shows;
      whole = left-whole;
      wrong = f.seeing.wrong;
    };
  }

module _ {M : Type 0} {w : Writing M} (f : Reading w) (told : ℕ → At × Form) (same : (number : ℕ) → told number ≡ f.seeing.form_at number) where
  abbrev pub retold : Reading w
  retold = record f {
    seeing = record {
      form_at = told;
      sees = f.seeing.sees;
      shows = λ x s m p q. f.seeing.shows x s m (subst (λ (t : At × Form). Shows t.1 x.value s) (same (number_of x.kind)) p) q;
      whole = λ x s.
          subst (λ (t : At × Form). IsWhole t.1 → Shows t.1 x.value s → (m : M) × f.Reads x m) (sym (same (number_of x.kind))) (f.seeing.whole x s);
      wrong = λ x e p. f.seeing.wrong x e (subst (λ (t : At × Form). Misshown t.1 t.0 x.value e) (same (number_of x.kind)) p);
    };
  }
