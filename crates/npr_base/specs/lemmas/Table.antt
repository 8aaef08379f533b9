-- A table is a family.
use Rattle.std.specs.Prelude.{◌==◌, if◌then◌else◌}
use Rattle.std.specs.Bool.{MatchBool}
use Rattle.std.proofs.lemmas.Bool.{eqb-true}
use Rattle.std.proofs.Common.{◌≡◌, ℕ, ◌+◌, ◌*◌, ◌<◌, ◌≤◌, ◌^◌, Bool, true, false, cond, List, [], ◌∷◌, length, refl, sym, ap, subst, ◌∙◌, arith}
use Rattle.npr_base.specs.declared.attribute_set.At.{At}
use Rattle.npr_base.specs.declared.attribute_set.AttributeSet.{AttributeSet}
use Rattle.npr_base.specs.declared.refusal.DecodeError.{DecodeError}
use Rattle.npr_base.specs.declared.value.Form.{Form}
use Rattle.npr_base.specs.Framing.{Item, IsBytes, framed, marked, number_of}
use Rattle.npr_base.specs.lemmas.Codec.{framed-grows}
use Rattle.npr_base.specs.Counts.{Counts, AddsAtMost, SawEach}
use Rattle.npr_base.specs.Looks.{Looking, Inside, nothing, looked_through, TakesInside}
use Rattle.npr_base.specs.lemmas.Looks.{none-most, none-saw}
use Rattle.npr_base.specs.Looking.{looking_inside}
use Rattle.npr_base.specs.Family.{written_by}
use Rattle.npr_base.specs.Table.{Row, ReadsAt, WrongAt, form_from, has_row, Slot, slot_other, slot_sees, seen_by, writing_by, Aligned, looks_of}
use Rattle.npr_base.specs.Value.{Shown, Shows, Misshown, IsWhole}
use Rattle.npr_base.specs.lemmas.Bool.{both, one_of}

pub table-one : {M : Type 0} (other : Item → M) (rows : List (Row M)) (k : ℕ) (x : Item) (m n : M) → ReadsAt other rows k x m → ReadsAt other rows k x n → m ≡ n
table-one other [] k x m n p q = p ∙ sym q
table-one other (r ∷ rows) k x m n p q = both (k == r.at.number)
    (λ a b. a.2 ∙ ap r.variant (r.codec.one_reading x.value a.0 b.0 a.1 b.1) ∙ sym b.2)
    (table-one other rows k x m n) p q

pub table-sound : {M : Type 0} (other : Item → M) (rows : List (Row M)) (k : ℕ) (x : Item) (m : M) (e : DecodeError) → ReadsAt other rows k x m
    → WrongAt rows k x e → ⊥
table-sound other [] k x m e p q = q
table-sound other (r ∷ rows) k x m e p q = both (k == r.at.number) (λ a b. r.codec.no_fault r.at x.value a.0 e a.1 b) (table-sound other rows k x m e) p q

pub table-coherent : {M : Type 0} (other : Item → M) (slot_of : M → Slot) (Coherent : M → Type 0) (rows : List (Row M)) → Aligned slot_of Coherent rows
    → (k : ℕ) (x : Item) → IsBytes x.value → (has_row rows k ≡ false → Coherent (other x)) → (m : M) → ReadsAt other rows k x m → Coherent m
table-coherent other slot_of Coherent [] aligned k x bytes alone m p = subst Coherent (sym p) (alone refl)
table-coherent other slot_of Coherent (r ∷ rows) aligned k x bytes alone m p = one_of (k == r.at.number)
    (λ e a. subst Coherent (sym a.2) ((aligned.0 a.0).2 (r.codec.reads_holds x.value a.0 bytes a.1)))
    (λ e a. table-coherent other slot_of Coherent rows aligned.2 k x bytes (λ h. alone (rw e h)) m a) p

pub table-grows : {M : Type 0} (other : Item → M) (slot_of : M → Slot) (Coherent : M → Type 0) (rows : List (Row M)) → Aligned slot_of Coherent rows
    → ((x : Item) → written_by (writing_by slot_of) (other x) ≡ x)
    → (k : ℕ) (x : Item) → IsBytes x.value → (m : M) → ReadsAt other rows k x m
    → 2 * framed (length (written_by (writing_by slot_of) m).value) ≤ 5 * (4 + length x.value)
table-grows other slot_of Coherent [] aligned same k x bytes m p =
    let w = writing_by slot_of in
    framed-grows (length (written_by w m).value) (length x.value)
    (omega (arith, ap (λ n. length (written_by w n).value) p, ap (λ (y : Item). length y.value) (same x)))
table-grows other slot_of Coherent (r ∷ rows) aligned same k x bytes m p = one_of (k == r.at.number)
    (λ e. λ (a : (v : r.V) × r.codec.Reads x.value v × (m ≡ r.variant v)).
    let w = writing_by slot_of in
    let v : length (written_by w m).value ≡ length (r.codec.encode a.0) = ap (λ n. length (written_by w n).value) a.2 ∙ ap length (aligned.0 a.0).0 in
    rw v (r.codec.grows x.value a.0 bytes a.1))
    (λ e a. table-grows other slot_of Coherent rows aligned.2 same k x bytes m a) p

pub marked-small : (b : Bool) (k : ℕ) → k < 2 ^ 16 → marked b k < 2 ^ 16
marked-small true k h = omega arith
marked-small false k h = h

not_here : {R : Type 0} (b c : Bool) → cond b true c ≡ false → (b ≡ false → c ≡ false → R) → R
not_here true c h f = absurd cc
not_here false c h f = f refl h

-- an attribute whose number has no row is read as itself
pub other-back : {M : Type 0} (other : Item → M) (rows : List (Row M)) (k : ℕ) (x : Item) → has_row rows k ≡ false → ReadsAt other rows k x (other x)
other-back other [] k x h = refl
other-back other (r ∷ rows) k x h = not_here (k == r.at.number) (has_row rows k) h (λ e f. rw e (other-back other rows k x f))

-- ---- looks

inside_bounded : (number : ℕ) (i : Inside) (others : Looking Item) (x : Item) (old new : Counts)
    → (TakesInside i x.value old new → AddsAtMost old new (length x.value)) → (others.Takes x old new → AddsAtMost old new (length x.value))
    → (looking_inside number i others).Takes x old new → AddsAtMost old new (length x.value)
inside_bounded number nothing others x old new f g t = g t
inside_bounded number (looked_through looking) others x old new f g t = one_of (number_of x.kind == number) (λ e. f) (λ e. g) t

pub rows-bounded : {M : Type 0} (rows : List (Row M)) (x : Item) (old new : Counts) → (looks_of rows).Takes x old new → AddsAtMost old new (length x.value)
rows-bounded [] x old new t = none-most (length x.value) old new t
rows-bounded (r ∷ rows) x old new t =
    inside_bounded r.at.number r.codec.members.looks (looks_of rows) x old new (r.codec.members.bounded x.value old new) (rows-bounded rows x old new) t

-- at another number
inside_past : (number : ℕ) (i : Inside) (others : Looking Item) (x : Item) (old new : Counts) → (number_of x.kind == number) ≡ false
    → (looking_inside number i others).Takes x old new → others.Takes x old new
inside_past number nothing others x old new e t = t
inside_past number (looked_through looking) others x old new e t = rw e at t

-- and at this one, where none of the others has it
inside_here : (number : ℕ) (i : Inside) (others : Looking Item) (x : Item) (old new : Counts) → (number_of x.kind == number) ≡ true
    → (others.Takes x old new → new ≡ old) → (looking_inside number i others).Takes x old new → TakesInside i x.value old new
inside_here number nothing others x old new e none t = none t
inside_here number (looked_through looking) others x old new e none t = rw e at t

no_row-looks : {M : Type 0} (rows : List (Row M)) (x : Item) (old new : Counts) → has_row rows (number_of x.kind) ≡ false
    → (looks_of rows).Takes x old new → new ≡ old
no_row-looks [] x old new h t = t
no_row-looks (r ∷ rows) x old new h t = not_here (number_of x.kind == r.at.number) (has_row rows (number_of x.kind)) h
    (λ e f. no_row-looks rows x old new f (inside_past r.at.number r.codec.members.looks (looks_of rows) x old new e t))

pub rows-saw : {M : Type 0} (other : Item → M) (slot_of : M → Slot) (Coherent : M → Type 0) (rows : List (Row M)) → Aligned slot_of Coherent rows
    → ((x : Item) → (writing_by slot_of).members (other x) ≡ 0) → (x : Item) (m : M) (old new : Counts) → ReadsAt other rows (number_of x.kind) x m
    → (looks_of rows).Takes x old new → SawEach old new ((writing_by slot_of).members m)
rows-saw other slot_of Coherent [] aligned none x m old new p t =
    subst (SawEach old new) (sym (ap (writing_by slot_of).members p ∙ none x)) (none-saw old new t)
rows-saw other slot_of Coherent (r ∷ rows) aligned none x m old new p t = one_of (number_of x.kind == r.at.number)
    (λ e. λ (a : (v : r.V) × r.codec.Reads x.value v × (m ≡ r.variant v)).
    let w = writing_by slot_of in
    let own = subst (λ (k : ℕ). has_row rows k ≡ false) (sym (eqb-true (number_of x.kind) r.at.number e)) aligned.1 in
    let inside = inside_here r.at.number r.codec.members.looks (looks_of rows) x old new e (no_row-looks rows x old new own) t in
    let members : w.members m ≡ r.codec.members.count a.0 = ap w.members a.2 ∙ (aligned.0 a.0).1 in
    subst (SawEach old new) (sym members) (r.codec.members.saw x.value a.0 old new a.1 inside))
    (λ e a. rows-saw other slot_of Coherent rows aligned.2 none x m old new a (inside_past r.at.number r.codec.members.looks (looks_of rows) x old new e t)) p

-- ---- what is seen

-- by the form of this row, or else by that of later rows
pub shown_or : {P Q R : Type 0} (b : Bool) (f g : At × Form) (x : Item) (s : Shown) → (Shows f.1 x.value s → P → R) → (Shows g.1 x.value s → Q → R)
    → Shows (if b then f else g).1 x.value s → MatchBool b P Q → R
shown_or true f g x s here later p q = here p q
shown_or false f g x s here later p q = later p q

pub whole_or : {M : Type 0} {P Q : M → Type 0} (b : Bool) (f g : At × Form) (x : Item) (s : Shown)
    → (IsWhole f.1 → Shows f.1 x.value s → (m : M) × P m) → (IsWhole g.1 → Shows g.1 x.value s → (m : M) × Q m)
    → IsWhole (if b then f else g).1 → Shows (if b then f else g).1 x.value s → (m : M) × MatchBool b (P m) (Q m)
whole_or true f g x s here later w p = here w p
whole_or false f g x s here later w p = later w p

pub wrong_or : {P Q : Type 0} (b : Bool) (f g : At × Form) (x : Item) (e : DecodeError) → (Misshown f.1 f.0 x.value e → P)
    → (Misshown g.1 g.0 x.value e → Q) → Misshown (if b then f else g).1 (if b then f else g).0 x.value e → MatchBool b P Q
wrong_or true f g x e here later p = here p
wrong_or false f g x e here later p = later p

module _ {M : Type 0} (other : Item → M) (slot_of : M → Slot) (Coherent : M → Type 0) (family : AttributeSet) where
  pub rows-show : (rows : List (Row M)) → Aligned slot_of Coherent rows → ((x : Item) → slot_of (other x) ≡ slot_other x)
      → (k : ℕ) (x : Item) (s : Shown) (m : M) → Shows (form_from family rows k).1 x.value s → ReadsAt other rows k x m → s ≡ seen_by slot_of m x.value
  rows-show [] aligned same k x s m p q = p ∙ sym (ap (λ n. seen_by slot_of n x.value) q ∙ ap (λ (h : Slot). slot_sees h x.value) (same x))
  rows-show (r ∷ rows) aligned same k x s m p q = shown_or (k == r.at.number) (r.at, r.codec.showing.form) (form_from family rows k) x s
      (λ shows. λ (a : (v : r.V) × r.codec.Reads x.value v × (m ≡ r.variant v)).
      r.codec.showing.shows x.value s a.0 shows a.1 ∙ sym (ap (λ n. seen_by slot_of n x.value) a.2 ∙ (aligned.0 a.0).3 x.value))
      (λ shows reads. rows-show rows aligned.2 same k x s m shows reads) p q

  pub rows-whole : (rows : List (Row M)) (k : ℕ) (x : Item) (s : Shown) → IsWhole (form_from family rows k).1 → Shows (form_from family rows k).1 x.value s
      → (m : M) × ReadsAt other rows k x m
  rows-whole [] k x s w p = (other x, refl)
  rows-whole (r ∷ rows) k x s w p = whole_or (k == r.at.number) (r.at, r.codec.showing.form) (form_from family rows k) x s
      (λ whole shows. let v = r.codec.showing.whole x.value s whole shows in (r.variant v.0, (v.0, v.1, refl)))
      (λ whole shows. rows-whole rows k x s whole shows) w p

  pub rows-wrong : (rows : List (Row M)) (k : ℕ) (x : Item) (e : DecodeError)
      → Misshown (form_from family rows k).1 (form_from family rows k).0 x.value e → WrongAt rows k x e
  rows-wrong [] k x e p = p
  rows-wrong (r ∷ rows) k x e p = wrong_or (k == r.at.number) (r.at, r.codec.showing.form) (form_from family rows k) x e
      (λ wrong. r.codec.showing.wrong r.at x.value e wrong) (λ wrong. rows-wrong rows k x e wrong) p
