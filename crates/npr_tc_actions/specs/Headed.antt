-- A structure in front, and what a codec reads of all bytes behind it: values in blocks, or the bytes as they stand.
--     IsHeaded         the bytes are such a structure and such values
--     headed           a structure, and values in blocks; what is left at the end and too short for a block is dropped
--     headed_bytes     a structure, and bytes as they stand
use Rattle.std.specs.Prelude.{◌≡◌, ℕ, ◌+◌, ◌*◌, ◌≤◌, List, ◌++◌, length, take, drop, None}
use Rattle.std.proofs.Common.{refl, sym, ap, subst, ◌∙◌, arith, length-append, length-drop}
use Rattle.std.proofs.lemmas.List.{take-append-drop, take_at, drop_at}
use Rattle.npr_base.specs.Blocks.{Width, blocks, blocks-short, blocks-whole}
use Rattle.npr_base.specs.Codec.{Codec, leading, no_members, raw}
use Rattle.npr_base.specs.Framing.{IsBytes, framed}
use Rattle.npr_base.specs.Layout.{Layout}
use Rattle.npr_base.specs.Showing.{Showing}
use Rattle.npr_base.specs.Value.{is_structure}
use Rattle.npr_base.specs.declared.value.Form.TheVariants.{Leading}
use Rattle.npr_base.specs.lemmas.Codec.{framed-grows}
use Rattle.npr_base.specs.lemmas.List.{IsBytes-right}

-- of a codec that reads any bytes, writes each value, and makes no value longer
module _ {A B : Type 0} (L : Layout A) (C : Codec B) (total : (bytes : List ℕ) → (v : B) × C.Reads bytes v) (free : (kind : ℕ) (v : B) → C.unfit kind v ≡ None)
    (short : (bytes : List ℕ) (v : B) → IsBytes bytes → C.Reads bytes v → length (C.encode v) ≤ length bytes) where
  -- the bytes are this structure, and behind it these values
  abbrev pub IsHeaded : List ℕ → A × B → Type 0
  IsHeaded bytes v = (leading L).Reads bytes v.0 × C.Reads (drop L.size bytes) v.1

  abbrev pub written_headed : A × B → List ℕ
  written_headed v = L.encode v.0 ++ C.encode v.1

  rest-bytes : (bytes : List ℕ) → IsBytes bytes → IsBytes (drop L.size bytes)
  rest-bytes bytes is = IsBytes-right (take L.size bytes) (drop L.size bytes) (subst IsBytes (sym (take-append-drop L.size bytes)) is)

  pub headed-one : (bytes : List ℕ) (v w : A × B) → IsHeaded bytes v → IsHeaded bytes w → v ≡ w
  headed-one bytes v w p q = λ i. ((leading L).one_reading bytes v.0 w.0 p.0 q.0 i, C.one_reading (drop L.size bytes) v.1 w.1 p.1 q.1 i)

  pub headed-holds : (bytes : List ℕ) (v : A × B) → IsBytes bytes → IsHeaded bytes v → L.Holds v.0 × C.Holds v.1
  headed-holds bytes v is p =
      ((leading L).reads_holds bytes v.0 is p.0, C.reads_holds (drop L.size bytes) v.1 (rest-bytes bytes is) p.1)

  pub headed-back : (v : A × B) → L.Holds v.0 × C.Holds v.1 → IsHeaded (written_headed v) v
  headed-back v h =
      let len = L.length-encode v.0 h.0 in
      let more = C.encode v.1 in
      let long : L.size ≤ length (written_headed v) = omega (arith, len, length-append (L.encode v.0) more) in
      let is : v.0 ≡ L.decode (take L.size (written_headed v)) = sym (ap L.decode (take_at (L.encode v.0) more L.size len) ∙ L.decode-encode v.0 h.0) in
      let rest : drop L.size (written_headed v) ≡ more = drop_at (L.encode v.0) more L.size len in
      ((long, is), subst (λ (bytes : List ℕ). C.Reads bytes v.1) (sym rest) (C.reads_back 0 v.1 h.1 (free 0 v.1)))

  pub headed-grows : (bytes : List ℕ) (v : A × B) → IsBytes bytes → IsHeaded bytes v
      → 2 * framed (length (written_headed v)) ≤ 5 * (4 + length bytes)
  headed-grows bytes v is p =
      let front = L.length-encode v.0 ((leading L).reads_holds bytes v.0 is p.0) in
      let behind = short (drop L.size bytes) v.1 (rest-bytes bytes is) p.1 in
      framed-grows (length (written_headed v)) (length bytes)
      (omega (arith, front, behind, p.0.0, length-append (L.encode v.0) (C.encode v.1), length-drop L.size bytes))

  -- it is seen as its structure
  abbrev shows_headed : Showing IsHeaded (leading L).Wrong
  shows_headed = record {
    form = Leading L.size;
    sees = λ b v. is_structure (take L.size b);
    shows = λ b s v p q. p.1;
    whole = λ b s w p. let more = total (drop L.size b) in ((L.decode (take L.size b), more.0), ((p.0, refl), more.1));
    wrong = λ at b e p. p;
  }

  abbrev pub headed_by : Codec (A × B)
  headed_by = record {
    Reads = IsHeaded;
    Wrong = (leading L).Wrong;
    encode = written_headed;
    unfit = λ kind v. None;
    Holds = λ v. L.Holds v.0 × C.Holds v.1;
    members = no_members;
    one_reading = headed-one;
    no_fault = λ at bytes v e p q. (leading L).no_fault at bytes v.0 e p.0 q;
    reads_holds = headed-holds;
    reads_back = λ kind v h fits. headed-back v h;
    grows = headed-grows;
    showing = shows_headed;
  }

abbrev pub headed : {A B : Type 0} → Layout A → Width B → Codec (A × List B)
headed L W =
    headed_by L (blocks W.layout W.positive) (λ bytes. blocks-whole W.layout W.positive (length bytes) bytes (omega arith)) (λ kind v. refl)
    (blocks-short W.layout)

abbrev pub headed_bytes : {A : Type 0} → Layout A → Codec (A × List ℕ)
headed_bytes L = headed_by L raw (λ bytes. (bytes, refl)) (λ kind v. refl) (λ bytes v is p. omega (arith, ap length p))
