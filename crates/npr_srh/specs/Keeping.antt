-- Families in which an attribute is kept as it stands, besides those of numbers without a row, where one row's value means nothing.
use Rattle.std.proofs.Common.{◌≡◌, ℕ, List, ◌+◌, ◌*◌, ◌<◌, ◌≤◌, ◌^◌, ◌⊎◌, length, None, refl, sym, ap, subst, ◌∙◌, inl, inr, arith}
use Rattle.std.specs.Prelude.{◌==◌, Bool, true, false, if◌then◌else◌}
use Rattle.std.proofs.lemmas.Bool.{eqb-false}
use Rattle.npr_base.specs.declared.attribute_set.At.{At}
use Rattle.npr_base.specs.declared.refusal.DecodeError.{DecodeError}
use Rattle.npr_base.specs.declared.value.Form.{Form}
use Rattle.npr_base.specs.declared.value.Form.TheVariants.{Inside}
use Rattle.npr_base.specs.Codec.{Codec}
use Rattle.npr_base.specs.lemmas.Codec.{framed-grows}
use Rattle.npr_base.specs.Counts.{Counts, SawEach}
use Rattle.npr_base.specs.EnumTable.{EnumTable, other_in}
use Rattle.npr_base.specs.lemmas.EnumTable.{slot-other}
use Rattle.npr_base.specs.Framing.{Item, Proper, framed, number_of}
use Rattle.npr_base.specs.lemmas.Looks.{none-saw}
use Rattle.npr_base.specs.Family.{Reading, Writing, written_by, unfit_by}
use Rattle.npr_base.specs.Showing.{Seeing}
use Rattle.npr_base.specs.Value.{Shown, is_inside, Shows, Misshown, IsWhole}
use Rattle.npr_base.specs.Table.{item_of, slot_members}
use Rattle.npr_base.specs.Tables.{writing_of, attributes_of}
use denote.Enum.Declared.{Record}

-- bytes mean nothing
pub record IsUnread {V : Type 0} (Reads : List ℕ → V → Type 0) (bytes : List ℕ) : Type 0 where
  pub no : (v : V) → Reads bytes v → ⊥

-- the attribute has the row's number, and its value means nothing there
pub record IsUnreadable {V : Type 0} (row : ℕ) (Reads : List ℕ → V → Type 0) (x : Item) : Type 0 where
  pub number : number_of x.kind ≡ row
  pub unread : IsUnread Reads x.value

-- it is kept for that, as `other`
pub record IsKept {M V : Type 0} (other : Item → M) (row : ℕ) (Reads : List ℕ → V → Type 0) (x : Item) (m : M) : Type 0 where
  pub unreadable : IsUnreadable row Reads x
  pub is : m ≡ other x

-- an attribute that is kept as it stands, is written so and has none inside
pub record IsAlone {M : Type 0} (w : Writing M) (other : Item → M) : Type 0 where
  pub written : (x : Item) → written_by w (other x) ≡ x
  pub members : (x : Item) → w.members (other x) ≡ 0

-- at the row's number the family reads by the codec
abbrev pub IsRowOf : {M V : Type 0} {w : Writing M} → Reading w → ℕ → Codec V → Type 0
IsRowOf {M} {V} f row codec = (x : Item) (m : M) → number_of x.kind ≡ row → f.Reads x m → (v : V) × codec.Reads x.value v

-- no value of the family has attributes inside
abbrev pub IsQuiet : {M : Type 0} {w : Writing M} → Reading w → Type 0
IsQuiet f = (x : Item) (old new : Counts) → f.looks.Takes x old new → new ≡ old

-- the family f, in which attributes of the row are kept as `other` where its codec does not read them
module _ {M V : Type 0} {w : Writing M} (f : Reading w) (other : Item → M) (row : ℕ) (codec : Codec V) where
  abbrev IsKeptHere : Item → M → Type 0
  IsKeptHere x m = IsKept other row codec.Reads x m

  -- what can be read: by the family, or kept
  abbrev pub CoherentOrKept : M → Type 0
  CoherentOrKept m = f.Coherent m ⊎ ((x : Item) × Proper x × IsKeptHere x m)

  abbrev pub ReadsOrKept : Item → M → Type 0
  ReadsOrKept x m = f.Reads x m ⊎ IsKeptHere x m

  pub keeping-one : IsRowOf f row codec → (x : Item) (m n : M) → ReadsOrKept x m → ReadsOrKept x n → m ≡ n
  keeping-one here x m n (inl p) (inl q) = f.one_reading x m n p q
  keeping-one here x m n (inl p) (inr q) = let v = here x m q.unreadable.number p in absurd (q.unreadable.unread.no v.0 v.1)
  keeping-one here x m n (inr p) (inl q) = let v = here x n p.unreadable.number q in absurd (p.unreadable.unread.no v.0 v.1)
  keeping-one here x m n (inr p) (inr q) = p.is ∙ sym q.is

  pub keeping-sound : (x : Item) (m : M) (e : DecodeError) → ReadsOrKept x m → f.Faulty x e × (IsUnreadable row codec.Reads x → ⊥) → ⊥
  keeping-sound x m e (inl p) q = f.no_fault x m e p q.0
  keeping-sound x m e (inr p) q = q.1 p.unreadable

  pub keeping-coherent : (x : Item) (m : M) → Proper x → ReadsOrKept x m → CoherentOrKept m
  keeping-coherent x m proper (inl p) = inl (f.reads_coherent x m proper p)
  keeping-coherent x m proper (inr p) = inr (x, proper, p)

  module _ (alone : IsAlone w other) where
    kept-is : (x : Item) (m : M) → m ≡ other x → written_by w m ≡ x
    kept-is x m e = ap (written_by w) e ∙ alone.written x

    pub keeping-kinds : (m : M) → CoherentOrKept m → (written_by w m).kind < 2 ^ 16
    keeping-kinds m (inl c) = f.kinds m c
    keeping-kinds m (inr (x, proper, k)) = subst (λ (y : Item). y.kind < 2 ^ 16) (sym (kept-is x m k.is)) proper.kind

    pub keeping-back : (m : M) → CoherentOrKept m → unfit_by w m ≡ None → ReadsOrKept (written_by w m) m
    keeping-back m (inl c) fits = inl (f.reads_back m c fits)
    keeping-back m (inr (x, proper, k)) fits = inr (subst (λ (y : Item). IsKeptHere y m) (sym (kept-is x m k.is)) k)

    pub keeping-grows : (x : Item) (m : M) → Proper x → ReadsOrKept x m → 2 * framed (length (written_by w m).value) ≤ 5 * (4 + length x.value)
    keeping-grows x m proper (inl p) = f.grows x m proper p
    keeping-grows x m proper (inr k) =
        framed-grows (length (written_by w m).value) (length x.value) (omega (arith, ap (λ (y : Item). length y.value) (kept-is x m k.is)))

    pub keeping-saw : IsQuiet f → (x : Item) (m : M) (old new : Counts) → ReadsOrKept x m → f.looks.Takes x old new → SawEach old new (w.members m)
    keeping-saw quiet x m old new (inl p) looks = f.saw x m old new p looks
    keeping-saw quiet x m old new (inr k) looks =
        subst (SawEach old new) (sym (ap w.members k.is ∙ alone.members x)) (none-saw old new (quiet x old new looks))

    -- the row's values have a reader of their own
    abbrev pub keeping_form : ℕ → At × Form
    keeping_form k = if k == row then ((f.seeing.form_at k).0, Inside) else f.seeing.form_at k

    abbrev pub keeping_sees : Item → M → Shown
    keeping_sees x m = if number_of x.kind == row then is_inside x.value else f.seeing.sees x m

    keeping-shown : (b : Bool) (x : Item) (s : Shown) (m : M) (at : At) (g : At × Form) (t : Shown) → (b ≡ false → Shows g.1 x.value s → s ≡ t)
        → Shows (if b then (at, Inside) else g).1 x.value s → s ≡ (if b then is_inside x.value else t)
    keeping-shown true x s m at g t later p = p
    keeping-shown false x s m at g t later p = later refl p

    pub keeping-shows : (x : Item) (s : Shown) (m : M) → Shows (keeping_form (number_of x.kind)).1 x.value s → ReadsOrKept x m → s ≡ keeping_sees x m
    keeping-shows x s m p (inl reads) =
        keeping-shown (number_of x.kind == row) x s m (f.seeing.form_at (number_of x.kind)).0 (f.seeing.form_at (number_of x.kind)) (f.seeing.sees x m)
        (λ other shows. f.seeing.shows x s m shows reads) p
    keeping-shows x s m p (inr kept) =
        keeping-shown (number_of x.kind == row) x s m (f.seeing.form_at (number_of x.kind)).0 (f.seeing.form_at (number_of x.kind)) (f.seeing.sees x m)
        (λ other shows. absurd (eqb-false (number_of x.kind) row other kept.unreadable.number)) p

    pub keeping-whole-or : (b : Bool) (x : Item) (s : Shown) (at : At) (g : At × Form)
        → (IsWhole g.1 → Shows g.1 x.value s → (m : M) × f.Reads x m)
        → IsWhole (if b then (at, Inside) else g).1 → Shows (if b then (at, Inside) else g).1 x.value s → (m : M) × ReadsOrKept x m
    keeping-whole-or true x s at g later w p = absurd w
    keeping-whole-or false x s at g later w p = let m = later w p in (m.0, inl m.1)

    pub keeping-wrong-or : (b : Bool) (x : Item) (e : DecodeError) (at : At) (g : At × Form)
        → (b ≡ false → Misshown g.1 g.0 x.value e → f.Faulty x e × (IsUnreadable row codec.Reads x → ⊥))
        → (let h = if b then (at, Inside) else g in Misshown h.1 h.0 x.value e) → f.Faulty x e × (IsUnreadable row codec.Reads x → ⊥)
    keeping-wrong-or true x e at g later p = absurd p
    keeping-wrong-or false x e at g later p = later refl p

    abbrev pub keeping-seeing : Seeing ReadsOrKept (λ x e. f.Faulty x e × (IsUnreadable row codec.Reads x → ⊥))
    keeping-seeing = record {
      form_at = keeping_form;
      sees = keeping_sees;
      shows = keeping-shows;
      whole =
          λ x s w p.
          keeping-whole-or (number_of x.kind == row) x s (f.seeing.form_at (number_of x.kind)).0 (f.seeing.form_at (number_of x.kind))
          (λ whole shows. f.seeing.whole x s whole shows) w p;
      wrong =
          λ x e p.
          keeping-wrong-or (number_of x.kind == row) x e (f.seeing.form_at (number_of x.kind)).0 (f.seeing.form_at (number_of x.kind))
          (λ other wrong. (f.seeing.wrong x e wrong, λ u. eqb-false (number_of x.kind) row other u.number)) p;
    }

    abbrev pub keeping : IsRowOf f row codec → IsQuiet f → Reading w
    keeping here quiet = record {
      Reads = ReadsOrKept;
      Faulty = λ x e. f.Faulty x e × (IsUnreadable row codec.Reads x → ⊥);
      looks = f.looks;
      Coherent = CoherentOrKept;
      one_reading = keeping-one here;
      no_fault = keeping-sound;
      reads_coherent = keeping-coherent;
      kinds = keeping-kinds;
      reads_back = keeping-back;
      grows = keeping-grows;
      bounded = f.bounded;
      saw = keeping-saw quiet;
      seeing = keeping-seeing;
    }

-- of a table of an enum's variants
pub others_alone : {N : Record} (t : EnumTable N) → IsAlone (writing_of t) (other_in N.parts t.rows)
others_alone {N} t = record {
  written = λ x. ap item_of (slot-other N.parts t.rows x);
  members = λ x. ap slot_members (slot-other N.parts t.rows x);
}

abbrev pub keeping_in : {N : Record} (t : EnumTable N) {V : Type 0} (row : ℕ) (codec : Codec V) → IsRowOf (attributes_of t) row codec
    → IsQuiet (attributes_of t) → Reading (writing_of t)
keeping_in {N} t row codec = keeping (attributes_of t) (other_in N.parts t.rows) row codec (others_alone t)
