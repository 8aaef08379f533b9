-- A structure, bytes up to a place that are not looked at and written 0, and attributes of one set from there to the end; a value that ends
-- before that place has none.
--     spaced_bytes, spaced_unfit    what is written, and why it can't be
--     SpacedLooks                   the looks at the headers behind the structure: none where there are too few bytes for it
--     spaced                        how it is read and written, with the laws
use Rattle.std.proofs.Common.{ℕ, ◌≡◌, ◌+◌, ◌*◌, ◌<◌, ◌≤◌, ◌⊎◌, List, ◌++◌, length, drop, take, replicate, Option, None, inl, inr, arith, ap, subst, sym}
use Rattle.std.proofs.Common.{◌∙◌, length-append, length-drop, append_assoc}
use Rattle.std.proofs.lemmas.List.{take_at, drop_at, length-replicate}
use Rattle.npr_base.specs.Codec.{Codec, leading}
use Rattle.npr_base.specs.Counts.{Counts, AddsAtMost, SawEach}
use Rattle.npr_base.specs.declared.attribute_set.At.{At}
use Rattle.npr_base.specs.declared.attribute_set.AttributeSet.{AttributeSet}
use Rattle.npr_base.specs.declared.refusal.DecodeError.{DecodeError}
use Rattle.npr_base.specs.declared.refusal.EmitError.{EmitError}
use Rattle.npr_base.specs.Family.{Writing, Reading, list_looking, fits-small, written_by, unfit_by}
use Rattle.npr_base.specs.Framing.{IsBytes, framed}
use Rattle.npr_base.specs.Layout.{Layout}
use Rattle.npr_base.specs.ListCodec.{list_of}
use Rattle.npr_base.specs.Lists.{encodings, first_unfit, option_or, overlong}
use Rattle.npr_base.specs.Looks.{Adds, Looking, looked_through}
use Rattle.npr_base.specs.Message.{Message}
use Rattle.npr_base.specs.Showing.{shows_list}
use Rattle.npr_base.specs.lemmas.Fit.{none_both}
use Rattle.npr_base.specs.lemmas.List.{IsBytes-drop, ReadsList-grows, encodings-read}
use Rattle.npr_base.specs.lemmas.Looks.{none-most, none-adds}

module _ {H M : Type 0} {w : Writing M} (set : AttributeSet) (f : Reading w) (L : Layout H) (space : ℕ) where
  -- where the attributes begin
  abbrev pub place : ℕ
  place = L.size + space

  abbrev pub IsSpaced : List ℕ → Message H M → Type 0
  IsSpaced bytes m = (leading L).Reads bytes m.header × (list_of set f).Reads (drop place bytes) m.attributes

  abbrev pub SpacedFault : At → List ℕ → DecodeError → Type 0
  SpacedFault at bytes e = (leading L).Wrong at bytes e ⊎ ((L.size ≤ length bytes) × (list_of set f).Wrong at (drop place bytes) e)

  abbrev pub SpacedLooks : List ℕ → Counts → Counts → Type 0
  SpacedLooks bytes old new =
      ((length bytes < L.size) × (new ≡ old)) ⊎ ((L.size ≤ length bytes) × (list_looking f).Takes (drop place bytes) old new)

  abbrev pub spaced_bytes : Message H M → List ℕ
  spaced_bytes m = L.encode m.header ++ (replicate space 0 ++ encodings (written_by w) m.attributes)

  abbrev pub spaced_unfit : Message H M → Option EmitError
  spaced_unfit m = option_or (first_unfit (unfit_by w) m.attributes) (overlong (length (spaced_bytes m)))

  abbrev pub Holds : Message H M → Type 0
  Holds m = L.Holds m.header × (list_of set f).Holds m.attributes

  -- ---- the laws

  pub spaced-one : (bytes : List ℕ) (m n : Message H M) → IsSpaced bytes m → IsSpaced bytes n → m ≡ n
  spaced-one bytes m n p q = λ i. record {
    header = (leading L).one_reading bytes m.header n.header p.0 q.0 i;
    attributes = (list_of set f).one_reading (drop place bytes) m.attributes n.attributes p.1 q.1 i;
  }

  pub spaced-sound : (at : At) (bytes : List ℕ) (m : Message H M) (e : DecodeError) → IsSpaced bytes m → SpacedFault at bytes e → ⊥
  spaced-sound at bytes m e p (inl bad) = (leading L).no_fault at bytes m.header e p.0 bad
  spaced-sound at bytes m e p (inr (long, bad)) = (list_of set f).no_fault at (drop place bytes) m.attributes e p.1 bad

  pub spaced-holds : (bytes : List ℕ) (m : Message H M) → IsBytes bytes → IsSpaced bytes m → Holds m
  spaced-holds bytes m is p =
      ((leading L).reads_holds bytes m.header is p.0, (list_of set f).reads_holds (drop place bytes) m.attributes (IsBytes-drop place bytes is) p.1)

  -- where the attributes begin in what is written
  front-long : (x : H) → L.Holds x → length (L.encode x ++ replicate space 0) ≡ place
  front-long x h = length-append (L.encode x) (replicate space 0) ∙ (λ i. L.length-encode x h i + length-replicate {A = ℕ} space 0 i)

  pub spaced-back : (m : Message H M) → Holds m → spaced_unfit m ≡ None → IsSpaced (spaced_bytes m) m
  spaced-back m h fits =
      let list = encodings (written_by w) m.attributes in
      let size = L.length-encode m.header h.0 in
      let head : take L.size (spaced_bytes m) ≡ L.encode m.header = take_at (L.encode m.header) (replicate space 0 ++ list) L.size size in
      let back : drop place (spaced_bytes m) ≡ list =
      ap (drop place) (sym (append_assoc (L.encode m.header) (replicate space 0) list))
      ∙ drop_at (L.encode m.header ++ replicate space 0) list place (front-long m.header h.0) in
      let fit = (none_both (first_unfit (unfit_by w) m.attributes) (overlong (length (spaced_bytes m))) fits).0 in
      let reads = encodings-read f.Coherent (unfit_by w) (written_by w) f.Reads (fits-small f) f.reads_back m.attributes h.1 fit in (
        (omega (arith, size, length-append (L.encode m.header) (replicate space 0 ++ list)), sym (ap L.decode head ∙ L.decode-encode m.header h.0)),
        subst (λ (b : List ℕ). (list_of set f).Reads b m.attributes) (sym back) reads,
      )

  -- the bytes in front of the attributes are written also where a value ends before them
  pub spaced-grows : space ≤ 3 → 12 ≤ L.size → (bytes : List ℕ) (m : Message H M) → IsBytes bytes → IsSpaced bytes m
      → 2 * framed (length (spaced_bytes m)) ≤ 5 * (4 + length bytes)
  spaced-grows narrow wide bytes m is p =
      let h = spaced-holds bytes m is p in
      let list = encodings (written_by w) m.attributes in
      let more = ReadsList-grows (written_by w) f.Reads f.grows (drop place bytes) m.attributes (IsBytes-drop place bytes is) p.1 in
      let whole = length-append (L.encode m.header) (replicate space 0 ++ list) in
      let behind = length-append (replicate space 0) list in
      omega (arith, narrow, wide, more, whole, behind, length-replicate {A = ℕ} space 0, L.length-encode m.header h.0, p.0.0, length-drop place bytes)

  -- ---- the looks

  pub looks-one : (bytes : List ℕ) (old new other : Counts) → SpacedLooks bytes old new → SpacedLooks bytes old other → new ≡ other
  looks-one bytes old new other (inl (short, p)) (inl (low, q)) = p ∙ sym q
  looks-one bytes old new other (inl (short, p)) (inr (long, t)) = absurd (omega (arith, short, long))
  looks-one bytes old new other (inr (long, t)) (inl (short, p)) = absurd (omega (arith, short, long))
  looks-one bytes old new other (inr (long, t)) (inr (same, u)) = (list_looking f).one (drop place bytes) old new other t u

  pub looks-add : (bytes : List ℕ) (old new : Counts) → SpacedLooks bytes old new → Adds (SpacedLooks bytes) old new
  looks-add bytes old new (inl (short, p)) =
      let a = none-adds old new p in
      record { number = a.number; is = a.is; alike = λ c. inl (short, a.alike c) }
  looks-add bytes old new (inr (long, t)) =
      let a = (list_looking f).adds (drop place bytes) old new t in
      record { number = a.number; is = a.is; alike = λ c. inr (long, a.alike c) }

  abbrev pub spaced_looking : Looking (List ℕ)
  spaced_looking = record { Takes = SpacedLooks; one = looks-one; adds = looks-add }

  -- of a list that begins at the place
  pub behind-bounded : (bytes : List ℕ) (old new : Counts) → AddsAtMost old new (length (drop place bytes)) → AddsAtMost old new (length bytes)
  behind-bounded bytes old new a =
      let n : length (drop place bytes) ≤ length bytes = omega (arith, length-drop place bytes) in
      record { kept = a.kept; successful = omega (arith, a.successful, n); failed_kept = a.failed_kept; failed = omega (arith, a.failed, n) }

  pub looks-bounded : (bytes : List ℕ) (old new : Counts) → SpacedLooks bytes old new → AddsAtMost old new (length bytes)
  looks-bounded bytes old new (inl (short, p)) = none-most (length bytes) old new p
  looks-bounded bytes old new (inr (long, t)) = behind-bounded bytes old new ((list_of set f).members.bounded (drop place bytes) old new t)

  pub looks-saw : (bytes : List ℕ) (m : Message H M) (old new : Counts) → IsSpaced bytes m → SpacedLooks bytes old new
      → SawEach old new ((list_of set f).members.count m.attributes)
  looks-saw bytes m old new p (inl (short, same)) = absurd (omega (arith, short, p.0.0))
  looks-saw bytes m old new p (inr (long, t)) = (list_of set f).members.saw (drop place bytes) m.attributes old new p.1 t

  -- ---- how it is read and written

  abbrev pub spaced : space ≤ 3 → 12 ≤ L.size → Codec (Message H M)
  spaced narrow wide = record {
    Reads = IsSpaced;
    Wrong = SpacedFault;
    encode = spaced_bytes;
    unfit = λ kind m. spaced_unfit m;
    Holds = Holds;
    members = record {
      count = λ m. (list_of set f).members.count m.attributes;
      looks = looked_through spaced_looking;
      bounded = looks-bounded;
      saw = looks-saw;
    };
    one_reading = spaced-one;
    no_fault = spaced-sound;
    reads_holds = spaced-holds;
    reads_back = λ kind m h fits. spaced-back m h fits;
    grows = spaced-grows narrow wide;
    showing = shows_list set place;
  }
