-- The laws of messages.
use Rattle.std.specs.Prelude.{◌≢◌, IfOk, IfErr}
use Rattle.std.proofs.Common.{◌≡◌, ℕ, ◌*◌, ◌-◌, ◌≤◌, List, ◌++◌, length, map, take, drop, None, Result}
use Rattle.std.proofs.Common.{Ok, Err, refl, sym, ap, subst, ◌∙◌, arith, inl, inr, length-append, length-take, length-drop}
use Rattle.std.proofs.lemmas.Bool.Decides.{nat_tests}
use Rattle.std.proofs.lemmas.List.{take-append-drop, take_at, drop_at}
use Rattle.npr_base.specs.declared.refusal.DecodeError.{DecodeError}
use Rattle.npr_base.specs.declared.refusal.DecodeError.TheVariants.{OutOfMemory}
use Rattle.npr_base.specs.Counts.{Counts, AddsAtMostTwice, SawEach, no_looks}
use Rattle.npr_base.specs.Framing.{IsBytes}
use Rattle.npr_base.specs.Lists.{ReadsList, first_unfit, list_unfit, overlong, encodings, list_members}
use Rattle.npr_base.specs.lemmas.Fit.{none_both}
use Rattle.npr_base.specs.lemmas.List.{IsBytes-left, IsBytes-right}
use Rattle.npr_base.specs.Looks.{Adds}
use Rattle.npr_base.specs.lemmas.Looks.{raised-none}
use Rattle.npr_base.specs.Message.{Message, Grammar, IsUnder, Stored, View, IsMessage, MessageFault, MessageLooks}
use Rattle.npr_base.specs.Message.{IsCoherent, canonical_bytes, message_unfit, view}
use Rattle.npr_base.specs.Family.{Family, written_by, unfit_by}

same_message : {H M : Type 0} (m : Message H M) (h : H) (xs : List M) → m.header ≡ h → m.attributes ≡ xs → m ≡ record { header = h; attributes = xs }
same_message {H} {M} m h xs p q =
    ap (λ (k : H). record { header = k; attributes = m.attributes }) p ∙ ap (λ (ys : List M). record { header = h; attributes = ys }) q

overlong-below : (m n : ℕ) → m ≤ n → overlong n ≡ None → overlong m ≡ None
overlong-below m n le fits = grind (arith, nat_tests)

module _ {H A : Type 0} (g : Grammar H A) where
  pub front_is : (bytes front rest : List ℕ) → bytes ≡ front ++ rest → length front ≡ g.layout.size →
      (front ≡ take g.layout.size bytes) × (rest ≡ drop g.layout.size bytes)
  front_is bytes front rest is size =
      (sym (ap (take g.layout.size) is ∙ take_at front rest g.layout.size size), sym (ap (drop g.layout.size) is ∙ drop_at front rest g.layout.size size))

  pub header_is : (bytes : List ℕ) (m : View g) → IsMessage g bytes m → m.header ≡ g.layout.decode (take g.layout.size bytes)
  unfolding IsMessage
  header_is bytes m p = p.header ∙ ap g.layout.decode (front_is bytes p.front p.rest p.is p.size).0

  pub rest_reads : (bytes : List ℕ) (m : View g) → IsMessage g bytes m → g.body.Reads m.header (drop g.layout.size bytes) m.attributes
  unfolding IsMessage
  rest_reads bytes m p = subst (λ (r : List ℕ). g.body.Reads m.header r m.attributes) (front_is bytes p.front p.rest p.is p.size).1 p.attributes

  pub message_read : (bytes : List ℕ) (m : View g) → g.layout.size ≤ length bytes → m.header ≡ g.layout.decode (take g.layout.size bytes) →
      g.body.Reads m.header (drop g.layout.size bytes) m.attributes → IsMessage g bytes m
  unfolding IsMessage
  message_read bytes m long header attributes = record {
    front = take g.layout.size bytes;
    rest = drop g.layout.size bytes;
    is = sym (take-append-drop g.layout.size bytes);
    size = omega (arith, length-take g.layout.size bytes);
    header = header;
    attributes = attributes;
  }

  pub fault_after : (bytes : List ℕ) (h : H) (e : DecodeError) → g.layout.size ≤ length bytes → h ≡ g.layout.decode (take g.layout.size bytes) →
      g.body.Faulty h (drop g.layout.size bytes) e → MessageFault g bytes e
  unfolding MessageFault
  fault_after bytes h e long header bad =
      inr (
        take g.layout.size bytes,
        drop g.layout.size bytes,
        sym (take-append-drop g.layout.size bytes),
        omega (arith, length-take g.layout.size bytes),
        subst (λ (k : H). g.body.Faulty k (drop g.layout.size bytes) e) header bad,
      )

  pub fault_behind : (bytes : List ℕ) (h : H) (behind : List ℕ) (e : DecodeError) → g.layout.size ≤ length bytes →
      h ≡ g.layout.decode (take g.layout.size bytes)
      → behind ≡ drop g.layout.size bytes → g.body.Faulty h behind e → MessageFault g bytes e
  fault_behind bytes h behind e long header same bad = fault_after bytes h e long header (subst (λ (b : List ℕ). g.body.Faulty h b e) same bad)

  -- the attributes of a message in memory, as the family reads them
  pub message_list : {C : Type 0} (f : Family A C) {governs : C → Type 0} {searches : Counts → Counts → Type 0}
      (bytes : List ℕ) (h : H) (behind : List ℕ) (c : C)
      → IsUnder g f h behind c governs searches → h ≡ g.layout.decode (take g.layout.size bytes) → behind ≡ drop g.layout.size bytes
      → (m : Stored g) → IsMessage g bytes (view g m) → (m.header ≡ h) × ReadsList (f.reading c).Reads behind (map f.meaning m.attributes.items)
  message_list f bytes h behind c under header same m is =
      let own : m.header ≡ h = header_is bytes (view g m) is ∙ sym header in
      let reads = subst (λ (k : H). g.body.Reads k (drop g.layout.size bytes) (map g.meaning m.attributes.items)) own (rest_reads bytes (view g m) is) in
      (own, under.means m.attributes.items (subst (λ (b : List ℕ). g.body.Reads h b (map g.meaning m.attributes.items)) (sym same) reads))

  -- the looks behind the header
  pub looks_after : (bytes : List ℕ) (h : H) (old new : Counts) → g.layout.size ≤ length bytes → h ≡ g.layout.decode (take g.layout.size bytes) →
      (g.body.looks h).Takes (drop g.layout.size bytes) old new
      → MessageLooks g bytes old new
  unfolding MessageLooks
  looks_after bytes h old new long header looks =
      inr (
        take g.layout.size bytes,
        drop g.layout.size bytes,
        sym (take-append-drop g.layout.size bytes),
        omega (arith, length-take g.layout.size bytes),
        subst (λ (k : H). (g.body.looks k).Takes (drop g.layout.size bytes) old new) header looks,
      )

  pub message-looks-one : (bytes : List ℕ) (old new other : Counts) → MessageLooks g bytes old new → MessageLooks g bytes old other → new ≡ other
  unfolding MessageLooks
  message-looks-one bytes old new other (inl (short, p)) (inl (low, q)) = p ∙ sym q
  message-looks-one bytes old new other (inl (short, p)) (inr (front, rest, is, size, t)) =
      absurd (omega (arith, short, ap length is, length-append front rest, size))
  message-looks-one bytes old new other (inr (front, rest, is, size, t)) (inl (short, p)) =
      absurd (omega (arith, short, ap length is, length-append front rest, size))
  message-looks-one bytes old new other (inr (front, rest, is, size, t)) (inr (head, tail, js, long, u)) =
      let p = front_is bytes front rest is size in
      let q = front_is bytes head tail js long in
      let h : g.layout.decode head ≡ g.layout.decode front = ap g.layout.decode (q.0 ∙ sym p.0) in
      (g.body.looks (g.layout.decode front)).one rest old new other t
      (subst (λ (k : H). (g.body.looks k).Takes rest old other) h
      (subst (λ (b : List ℕ). (g.body.looks (g.layout.decode head)).Takes b old other) (q.1 ∙ sym p.1) u))

  pub message-looks-add : (bytes : List ℕ) (old new : Counts) → MessageLooks g bytes old new → Adds (MessageLooks g bytes) old new
  unfolding MessageLooks
  message-looks-add bytes old new (inl (short, p)) = record { number = no_looks; is = p ∙ sym (raised-none old); alike = λ c. inl (short, raised-none c) }
  message-looks-add bytes old new (inr (front, rest, is, size, t)) =
      let a = (g.body.looks (g.layout.decode front)).adds rest old new t in
      record { number = a.number; is = a.is; alike = λ c. inr (front, rest, is, size, a.alike c) }

  pub message-one : (bytes : List ℕ) (m n : View g) → IsMessage g bytes m → IsMessage g bytes n → m ≡ n
  unfolding IsMessage
  message-one bytes m n p q =
      let h : m.header ≡ n.header = header_is bytes m p ∙ sym (header_is bytes n q) in
      let a = subst (λ (k : H). g.body.Reads k (drop g.layout.size bytes) m.attributes) h (rest_reads bytes m p) in
      same_message m n.header n.attributes h (g.body.one_reading n.header (drop g.layout.size bytes) m.attributes n.attributes a (rest_reads bytes n q))

  pub message-sound : (bytes : List ℕ) (n : View g) (e : DecodeError) → MessageFault g bytes e → IsMessage g bytes n → ⊥
  unfolding IsMessage MessageFault
  message-sound bytes n e (inl short) q = absurd (omega (arith, short.0, ap length q.is, length-append q.front q.rest, q.size))
  message-sound bytes n e (inr (front, rest, is, size, bad)) q =
      let same = front_is bytes front rest is size in
      let h : g.layout.decode front ≡ n.header = ap g.layout.decode same.0 ∙ sym (header_is bytes n q) in
      let b = subst (λ (r : List ℕ). g.body.Faulty n.header r e) same.1 (subst (λ (k : H). g.body.Faulty k rest e) h bad) in
      g.body.no_fault n.header (drop g.layout.size bytes) n.attributes e (rest_reads bytes n q) b

  pub message-coherent : (bytes : List ℕ) (m : View g) → IsBytes bytes → IsMessage g bytes m → IsCoherent g m
  unfolding IsMessage IsCoherent
  message-coherent bytes m fits p =
      let all : IsBytes (p.front ++ p.rest) = subst IsBytes p.is fits in
      record {
        header = subst g.layout.Holds (sym p.header) (g.layout.Holds-decode p.front (IsBytes-left p.front p.rest all) p.size);
        attributes = g.body.reads_coherent m.header p.rest m.attributes (IsBytes-right p.front p.rest all) p.attributes;
      }

  pub message-back : (m : View g) → IsCoherent g m → message_unfit g m ≡ None → IsMessage g (canonical_bytes g m) m
  unfolding IsMessage IsCoherent canonical_bytes message_unfit
  message-back m c fits = record {
    front = g.layout.encode m.header;
    rest = encodings (written_by g.writing) m.attributes;
    is = refl;
    size = g.layout.length-encode m.header c.header;
    header = sym (g.layout.decode-encode m.header c.header);
    attributes =
        g.body.reads_back m.header m.attributes c.attributes (none_both (first_unfit (unfit_by g.writing) m.attributes)
        (overlong (length (canonical_bytes g m))) fits).0;
  }

  pub message-canonical : (m n : View g) → IsCoherent g m → message_unfit g m ≡ None → IsCoherent g n → message_unfit g n ≡ None →
      canonical_bytes g m ≡ canonical_bytes g n → m ≡ n
  message-canonical m n c f d k e = message-one (canonical_bytes g n) m n (subst (λ (b : List ℕ). IsMessage g b m) e (message-back m c f)) (message-back n d k)

  pub message-grows : (bytes : List ℕ) (m : View g) → IsBytes bytes → IsMessage g bytes m → 2 * length (canonical_bytes g m) ≤ 5 * length bytes
  unfolding IsMessage IsCoherent canonical_bytes
  message-grows bytes m fits p =
      let all : IsBytes (p.front ++ p.rest) = subst IsBytes p.is fits in
      let c = message-coherent bytes m fits p in
      omega (
        arith,
        g.body.grows m.header p.rest m.attributes (IsBytes-right p.front p.rest all) p.attributes,
        g.layout.length-encode m.header c.header,
        length-append (g.layout.encode m.header) (encodings (written_by g.writing) m.attributes),
        ap length p.is,
        length-append p.front p.rest,
        p.size,
      )

  -- ---- of an answer

  pub refused_no_message : {V : Type 0} (bytes : List ℕ) (r : Result V DecodeError) → IfErr r (λ e. e ≢ OutOfMemory → MessageFault g bytes e) →
      IfErr r (λ e. e ≢ OutOfMemory → (n : View g) → IsMessage g bytes n → ⊥)
  refused_no_message bytes (Ok v) h = tt
  refused_no_message bytes (Err e) h = λ other n p. message-sound bytes n e (h other) p

  pub ok_one : {V : Type 0} (view : V → View g) (bytes : List ℕ) (r : Result V DecodeError) → IfOk r (λ v. IsMessage g bytes (view v)) →
      IfOk r (λ v. (n : View g) → IsMessage g bytes n → view v ≡ n)
  ok_one view bytes (Ok v) p = λ n q. message-one bytes (view v) n p q
  ok_one view bytes (Err e) p = tt

  pub ok_coherent : {V : Type 0} (view : V → View g) (bytes : List ℕ) → IsBytes bytes → (r : Result V DecodeError) →
      IfOk r (λ v. IsMessage g bytes (view v)) → IfOk r (λ v. IsCoherent g (view v))
  ok_coherent view bytes fits (Ok v) p = message-coherent bytes (view v) fits p
  ok_coherent view bytes fits (Err e) p = tt

  pub ok_again : {V : Type 0} (view : V → View g) (bytes : List ℕ) (r : Result V DecodeError) → IfOk r (λ v. IsMessage g bytes (view v))
      → IfOk r (λ v. (n : View g) → IsCoherent g n → message_unfit g n ≡ None → bytes ≡ canonical_bytes g n → view v ≡ n)
  ok_again view bytes (Ok v) p = λ n c f is. message-one bytes (view v) n p (subst (λ (b : List ℕ). IsMessage g b n) (sym is) (message-back n c f))
  ok_again view bytes (Err e) p = tt

  pub ok_grows : {V : Type 0} (view : V → View g) (bytes : List ℕ) → IsBytes bytes → (r : Result V DecodeError) →
      IfOk r (λ v. IsMessage g bytes (view v)) → IfOk r (λ v. 2 * length (canonical_bytes g (view v)) ≤ 5 * length bytes)
  ok_grows view bytes fits (Ok v) p = message-grows bytes (view v) fits p
  ok_grows view bytes fits (Err e) p = tt

  pub message-deep : (bytes : List ℕ) (m : View g) → IsMessage g bytes m → 12 * g.body.depth m.attributes ≤ length bytes - g.layout.size
  message-deep bytes m p =
      let h = g.body.deep m.header (drop g.layout.size bytes) m.attributes (rest_reads bytes m p) in omega (arith, h, length-drop g.layout.size bytes)

  pub ok_deep : {V : Type 0} (view : V → View g) (bytes : List ℕ) (r : Result V DecodeError) → IfOk r (λ v. IsMessage g bytes (view v)) →
      IfOk r (λ v. 12 * g.body.depth (view v).attributes ≤ length bytes - g.layout.size)
  ok_deep view bytes (Ok v) p = message-deep bytes (view v) p
  ok_deep view bytes (Err e) p = tt

  -- ---- what a message has in it

  -- where it can be written, its attributes can be
  pub attributes_fit : (m : View g) → message_unfit g m ≡ None → first_unfit (unfit_by g.writing) m.attributes ≡ None
  unfolding message_unfit
  attributes_fit m fits = (none_both (first_unfit (unfit_by g.writing) m.attributes) (overlong (length (canonical_bytes g m))) fits).0

  -- and so can the list of them
  pub list_fits : (m : View g) → message_unfit g m ≡ None → list_unfit (unfit_by g.writing) (written_by g.writing) m.attributes ≡ None
  unfolding message_unfit canonical_bytes
  list_fits m fits =
      let both = none_both (first_unfit (unfit_by g.writing) m.attributes) (overlong (length (canonical_bytes g m))) fits in
      let shorter = length-append (g.layout.encode m.header) (encodings (written_by g.writing) m.attributes) in
      rw both.0 (overlong-below (length (encodings (written_by g.writing) m.attributes)) (length (canonical_bytes g m)) (omega (arith, shorter)) both.1)

  -- the bytes that it is read of have a header
  pub has_header : (bytes : List ℕ) (m : View g) → IsMessage g bytes m → g.layout.size ≤ length bytes
  unfolding IsMessage
  has_header bytes m is = omega (arith, ap length is.is, length-append is.front is.rest, is.size)

  -- ---- the looks at what stands behind the header

  pub message-bounded : (bytes : List ℕ) (old new : Counts) → MessageLooks g bytes old new → AddsAtMostTwice old new (length bytes - g.layout.size)
  unfolding MessageLooks
  message-bounded bytes old new (inl (short, p)) =
      let s = ap (λ (c : Counts). c.successful) p in
      let t = ap (λ (c : Counts). c.failed) p in
      record { kept = omega (arith, s); successful = omega (arith, s); failed_kept = omega (arith, t); failed = omega (arith, t) }
  message-bounded bytes old new (inr (front, rest, is, size, t)) =
      let a = g.body.bounded (g.layout.decode front) rest old new t in
      let len : length rest ≡ length bytes - g.layout.size = omega (arith, ap length is, length-append front rest, size) in
      subst (λ (n : ℕ). AddsAtMostTwice old new n) len a

  pub message-saw : (bytes : List ℕ) (m : View g) (old new : Counts) → IsMessage g bytes m → MessageLooks g bytes old new →
      SawEach old new (list_members g.writing.members m.attributes)
  unfolding MessageLooks
  message-saw bytes m old new is (inl (short, p)) = absurd (omega (arith, has_header bytes m is, short))
  message-saw bytes m old new is (inr (front, rest, js, size, t)) =
      let same = front_is bytes front rest js size in
      let h : g.layout.decode front ≡ m.header = ap g.layout.decode same.0 ∙ sym (header_is bytes m is) in
      let looks = subst (λ (b : List ℕ). (g.body.looks m.header).Takes b old new) same.1 (subst (λ (k : H). (g.body.looks k).Takes rest old new) h t) in
      g.body.saw m.header (drop g.layout.size bytes) m.attributes old new (rest_reads bytes m is) looks
