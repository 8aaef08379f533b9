-- What tables and readings owe where values hold lists, and what follows where an attribute is read.
--     plain-list       a row of `list_of` owes nothing but that the index is the one of its reading
--     table-nests, in-list, beside-nests, left-nests, retold-nests      of a table, of rows, and of what is made of others
--     opens-here, cut-here, owned-here      what is inside a value is read where the attribute is; a value that is cut off before its
--                      list means nothing; one with a reader of its own has one of these numbers
use Rattle.std.specs.Prelude.{◌≡◌, ℕ, ◌<◌, ◌≤◌, ◌==◌, ◌⊎◌, Bool, true, false, List, [], ◌∷◌, length, drop, if◌then◌else◌}
use Rattle.std.specs.Bool.{MatchBool}
use Rattle.std.proofs.Common.{inl, inr, refl, sym, ap, ◌∙◌, subst, arith}
use Rattle.std.proofs.lemmas.Bool.{eqb-true}
use Rattle.npr_base.specs.Beside.{Sides, SideReads, beside}
use Rattle.npr_base.specs.declared.attribute_set.At.{At}
use Rattle.npr_base.specs.declared.attribute_set.AttributeSet.{AttributeSet}
use Rattle.npr_base.specs.declared.refusal.DecodeError.{DecodeError}
use Rattle.npr_base.specs.declared.refusal.DecodeError.TheVariants.{HeaderTooShort}
use Rattle.npr_base.specs.declared.value.Form.{Form}
use Rattle.npr_base.specs.declared.value.Form.TheVariants.{List as Listed, Inside}
use Rattle.npr_base.specs.Codec.{Codec}
use Rattle.npr_base.specs.EnumTable.{EnumTable, VariantRows, ReadsIn, WrongIn, form_in, family_in}
use Rattle.npr_base.specs.EnumFamily.{attributes_in}
use Rattle.npr_base.specs.Family.{Writing, Reading}
use Rattle.npr_base.specs.Framing.{Item, number_of}
use Rattle.npr_base.specs.LeftOut.{Later, behind, left_out, retold}
use Rattle.npr_base.specs.ListCodec.{list_of}
use Rattle.npr_base.specs.Opening.{Opens}
use Rattle.npr_base.specs.Table.{Row, RowReads, RowWrong, ReadsAt, WrongAt, form_from}
use denote.Struct.Field.{Field}
use denote.Enum.Declared.{Record}
use Rattle.npr_base.specs.Nesting.{AnyReading, IsListOf, IsFaultOf, Lists, Opened, Nests, ListRow, RowAnd, NestRows, NestList}

module _ {I : Type 0} (of : I → AnyReading) (In : AttributeSet → List ℕ → I → Type 0) (Own : ℕ → Type 0) where
  pub plain-list : (set : AttributeSet) (j : I) → ((bytes : List ℕ) (i : I) → In set bytes i → i ≡ j) → ListRow of In Own (list_of set (of j).reading) set 0
  plain-list set j only = λ at bytes. record {
    down = λ i ms inside p. subst (λ (k : I). IsListOf (of k) bytes) (sym (only bytes i inside)) (ms, p);
    up = λ i inside long l. subst (λ (k : I). IsListOf (of k) bytes) (only bytes i inside) l;
    fault = λ i e inside long p. subst (λ (k : I). IsFaultOf (of k) bytes e) (only bytes i inside) p;
    cut = λ short. absurd (omega (arith, short));
  }

  row-of : {V : Type 0} (number : ℕ) (codec : Codec V) (form : Form) (rest : Type 0) → RowAnd of In Own number codec form rest → (at : At) (bytes : List ℕ)
      → Opened of In Own number form (codec.Reads bytes) (codec.Wrong at bytes) bytes
  row-of number codec (Listed set front) rest h at bytes = h.0 at bytes
  row-of number codec Inside rest h at bytes = h.0
  row-of number codec form rest h at bytes = tt

  rest-of : {V : Type 0} (number : ℕ) (codec : Codec V) (form : Form) (rest : Type 0) → RowAnd of In Own number codec form rest → rest
  rest-of number codec (Listed set front) rest h = h.1
  rest-of number codec Inside rest h = h.1
  rest-of number codec form rest h = h

  -- what means the same and is wrong the same
  pub opened-by : {M N : Type 0} (number : ℕ) (form : Form) (A : M → Type 0) (B : N → Type 0) (E F : DecodeError → Type 0) (bytes : List ℕ)
      → ((n : N) → B n → (m : M) × A m) → ((m : M) → A m → (n : N) × B n) → ((e : DecodeError) → E e → F e)
      → Opened of In Own number form A E bytes → Opened of In Own number form B F bytes
  opened-by number (Listed set front) A B E F bytes down up faulty o = record {
    down = λ i n inside q. let m = down n q in o.down i m.0 inside m.1;
    up = λ i inside long l. let m = o.up i inside long l in up m.0 m.1;
    fault = λ i e inside long p. faulty e (o.fault i e inside long p);
    cut = λ short. faulty (HeaderTooShort (length bytes) front) (o.cut short);
  }
  opened-by number Inside A B E F bytes down up faulty o = o
  opened-by number form A B E F bytes down up faulty o = tt

  module _ {V W : Type 0} (A : V → Type 0) (B : W → Type 0) (R : V ⊎ W → Type 0) (E F G : DecodeError → Type 0) (bytes : List ℕ) where
    on_left : ((v : V) → R (inl v) → A v) → ((w : W) → R (inr w) → ⊥) → (m : V ⊎ W) → R m → (v : V) × A v
    on_left l r (inl v) q = (v, l v q)
    on_left l r (inr w) q = absurd (r w q)

    on_right : ((v : V) → R (inl v) → ⊥) → ((w : W) → R (inr w) → B w) → (m : V ⊎ W) → R m → (w : W) × B w
    on_right l r (inl v) q = absurd (l v q)
    on_right l r (inr w) q = (w, r w q)

    -- of the first row, or of the later ones
    pub opened-or : (b : Bool) (k : ℕ) (here later : At × Form) → ((v : V) → R (inl v) → MatchBool b (A v) ⊥)
        → ((v : V) → MatchBool b (A v) ⊥ → R (inl v)) → ((w : W) → R (inr w) → MatchBool b ⊥ (B w)) → ((w : W) → MatchBool b ⊥ (B w) → R (inr w))
        → ((e : DecodeError) → MatchBool b (E e) (F e) → G e) → (b ≡ true → Opened of In Own k here.1 A E bytes) → (b ≡ false → Opened of In Own k later.1 B F bytes)
        → Opened of In Own k (if b then here else later).1 R G bytes
    opened-or true k here later l ml r mr g o p = opened-by k here.1 A R E G bytes (on_left l r) (λ v a. (inl v, ml v a)) g (o refl)
    opened-or false k here later l ml r mr g o p = opened-by k later.1 B R F G bytes (on_right l r) (λ w a. (inr w, mr w a)) g (p refl)

  -- a row of a number
  at-row : {V : Type 0} (k number : ℕ) (codec : Codec V) (rest : Type 0) → RowAnd of In Own number codec codec.showing.form rest → (at : At) (bytes : List ℕ)
      → (k == number) ≡ true → Opened of In Own k codec.showing.form (codec.Reads bytes) (codec.Wrong at bytes) bytes
  at-row k number codec rest h at bytes same =
      subst (λ (n : ℕ). Opened of In Own n codec.showing.form (codec.Reads bytes) (codec.Wrong at bytes) bytes) (sym (eqb-true k number same))
      (row-of number codec codec.showing.form rest h at bytes)

  pub in-rows : (family : AttributeSet) (Fss : List (List Field)) (rows : VariantRows Fss) (k : ℕ) (x : Item) → NestRows of In Own Fss rows
      → Opened of In Own k (form_in family Fss rows k).1 (ReadsIn Fss rows k x) (WrongIn Fss rows k x) x.value
  in-rows family [] rows k x h = tt
  in-rows family (Fs ∷ []) rows k x h = tt
  in-rows family (Fs ∷ Gs ∷ Fss) rows k x h =
      let form = rows.0.codec.showing.form in
      opened-or (rows.0.codec.Reads x.value) (ReadsIn (Gs ∷ Fss) rows.1 k x) (ReadsIn (Fs ∷ Gs ∷ Fss) rows k x) (rows.0.codec.Wrong rows.0.at x.value)
      (WrongIn (Gs ∷ Fss) rows.1 k x) (WrongIn (Fs ∷ Gs ∷ Fss) rows k x) x.value (k == rows.0.at.number) k (rows.0.at, form)
      (form_in family (Gs ∷ Fss) rows.1 k) (λ v q. q) (λ v q. q) (λ w q. q) (λ w q. q) (λ e q. q)
      (at-row k rows.0.at.number rows.0.codec (NestRows of In Own (Gs ∷ Fss) rows.1) h rows.0.at x.value)
      (λ other. in-rows family (Gs ∷ Fss) rows.1 k x (rest-of rows.0.at.number rows.0.codec form (NestRows of In Own (Gs ∷ Fss) rows.1) h))

  pub table-nests : {N : Record} (t : EnumTable N) → NestRows of In Own N.parts t.rows → Nests of In Own (attributes_in N.parts t.rows t.apart)
  table-nests {N} t h = λ x. in-rows (family_in N.parts t.rows) N.parts t.rows (number_of x.kind) x h

  -- the same of rows whose meanings are those of one type
  module _ {M : Type 0} (other : Item → M) (family : AttributeSet) (k : ℕ) (x : Item) where
    row-or : (b : Bool) (r : Row M) (later : At × Form) (A : M → Type 0) (E : DecodeError → Type 0)
        → (b ≡ true → Opened of In Own k r.codec.showing.form (r.codec.Reads x.value) (r.codec.Wrong r.at x.value) x.value)
        → Opened of In Own k later.1 A E x.value
        → Opened of In Own k (if b then (r.at, r.codec.showing.form) else later).1 (λ m. MatchBool b (RowReads r x.value m) (A m))
        (λ e. MatchBool b (RowWrong r x.value e) (E e)) x.value
    row-or true r later A E o p =
        opened-by k r.codec.showing.form (r.codec.Reads x.value) (RowReads r x.value) (r.codec.Wrong r.at x.value) (RowWrong r x.value) x.value
        (λ m q. (q.0, q.1)) (λ v q. (r.variant v, (v, q, refl))) (λ e q. q) (o refl)
    row-or false r later A E o p = p

    pub in-list : (rows : List (Row M)) → NestList of In Own rows → Opened of In Own k (form_from family rows k).1 (ReadsAt other rows k x) (WrongAt rows k x) x.value
    in-list [] h = tt
    in-list (r ∷ rows) h =
        row-or (k == r.at.number) r (form_from family rows k) (ReadsAt other rows k x) (WrongAt rows k x)
        (at-row k r.at.number r.codec (NestList of In Own rows) h r.at x.value)
        (in-list rows (rest-of r.at.number r.codec r.codec.showing.form (NestList of In Own rows) h))

  -- ---- in what is made of others

  module _ {A M : Type 0} (w : Writing (A ⊎ M)) (f : Reading (behind w)) (h : Nests of In Own f) where
    from_later : (x : Item) (n : A ⊎ M) → Later (f.Reads x) n → (m : M) × f.Reads x m
    from_later x (inl a) q = absurd q
    from_later x (inr m) q = (m, q)

    pub left-nests : Nests of In Own (left_out w f)
    left-nests = λ x.
        opened-by (number_of x.kind) (f.seeing.form_at (number_of x.kind)).1 (f.Reads x) (Later (f.Reads x)) (f.Faulty x) (f.Faulty x) x.value (from_later x)
        (λ m p. (inr m, p)) (λ e p. p) (h x)

  pub retold-nests : {M : Type 0} {w : Writing M} (f : Reading w) (told : ℕ → At × Form) (same : (number : ℕ) → told number ≡ f.seeing.form_at number)
      → Nests of In Own f → Nests of In Own (retold f told same)
  retold-nests f told same h = λ x.
      subst (λ (t : At × Form). Opened of In Own (number_of x.kind) t.1 (f.Reads x) (f.Faulty x) x.value) (sym (same (number_of x.kind))) (h x)

  -- of one number, and of the others
  module _ {A M : Type 0} {v : Writing A} {w : Writing M} (number : ℕ) (f : Reading v) (g : Reading w) (sides : Sides number f g) where
    pub beside-nests : Nests of In Own f → Nests of In Own g → Nests of In Own (beside number f g sides)
    beside-nests h i = λ x.
        opened-or (f.Reads x) (g.Reads x) (SideReads number f g x) (f.Faulty x) (g.Faulty x)
        (λ e. MatchBool (number_of x.kind == number) (f.Faulty x e) (g.Faulty x e)) x.value (number_of x.kind == number) (number_of x.kind)
        (f.seeing.form_at (number_of x.kind)) (g.seeing.form_at (number_of x.kind)) (λ a q. q) (λ a q. q) (λ m q. q) (λ m q. q) (λ e q. q)
        (λ same. h x) (λ other. i x)

  -- ---- where an attribute is read

  module _ {M : Type 0} {w : Writing M} (f : Reading w) (h : Nests of In Own f) (number : ℕ) (set : AttributeSet) (front : ℕ)
      (form : (f.seeing.form_at number).1 ≡ Listed set front) where
    lists-at : (x : Item) → number_of x.kind ≡ number → Lists of In Own (f.Reads x) (f.Faulty x) set front x.value
    lists-at x k =
        subst (λ (told : Form). Opened of In Own (number_of x.kind) told (f.Reads x) (f.Faulty x) x.value) (ap (λ (n : ℕ). (f.seeing.form_at n).1) k ∙ form) (h x)

    pub opens-here : (bytes : List ℕ) (i : I) → In set bytes i → front ≤ length bytes → Opens f (of i).reading number front bytes
    opens-here bytes i inside long = record {
      long = long;
      down = λ x m k b p.
          let there = subst (λ (c : List ℕ). In set c i) (sym b) inside in
          subst (λ (c : List ℕ). IsListOf (of i) (drop front c)) b ((lists-at x k).down i m there p);
      up = λ x ps k b p.
          let there = subst (λ (c : List ℕ). In set c i) (sym b) inside in
          let enough = subst (λ (c : List ℕ). front ≤ length c) (sym b) long in
          (lists-at x k).up i there enough (subst (λ (c : List ℕ). IsListOf (of i) (drop front c)) (sym b) (ps, p));
      fault = λ x e k b p.
          let there = subst (λ (c : List ℕ). In set c i) (sym b) inside in
          let enough = subst (λ (c : List ℕ). front ≤ length c) (sym b) long in
          (lists-at x k).fault i e there enough (subst (λ (c : List ℕ). IsFaultOf (of i) (drop front c) e) (sym b) p);
    }

    -- a value that is cut off before its list means nothing
    pub cut-here : (x : Item) → number_of x.kind ≡ number → length x.value < front → f.Faulty x (HeaderTooShort (length x.value) front)
    cut-here x k short = (lists-at x k).cut short

  -- a value with a reader of its own has one of these numbers
  pub owned-here : {M : Type 0} {w : Writing M} (f : Reading w) → Nests of In Own f → (x : Item) → (f.seeing.form_at (number_of x.kind)).1 ≡ Inside
      → Own (number_of x.kind)
  owned-here f h x form = subst (λ (told : Form). Opened of In Own (number_of x.kind) told (f.Reads x) (f.Faulty x) x.value) form (h x)
