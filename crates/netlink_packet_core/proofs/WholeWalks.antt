-- Each datagram has a walk, and one alone.
use Rattle.std.specs.Prelude.{Some}
use Rattle.std.proofs.Common.{◌≡◌, ℕ, min, ◌+◌, ◌<◌, ◌≤◌, List, [], ◌∷◌, ◌++◌, length, drop, Result, Ok, Err, ◌⊎◌, refl, sym, ap, subst, ◌∙◌, arith, inl, inr, length-drop, zero, suc}
use Rattle.std.proofs.lemmas.Bool.{cases_lt}
use Rattle.npr_base.specs.Framing.{pad}
use Rattle.netlink_packet_core.specs.Conversation.{Stand}
use Rattle.netlink_packet_core.specs.Envelope.{Envelope, EnvelopeFront, EnvelopePasses, IsDatagram, EnvelopeFault, EnvelopeStops, Tail, EnvelopeStep}
use Rattle.netlink_packet_core.specs.Walk.{start, EnvelopeSteps, EnvelopeWalk, HasOne}
use Rattle.netlink_packet_core.specs.declared.refusal.EnvelopeError.{EnvelopeError}
use Rattle.netlink_packet_core.specs.declared.refusal.EnvelopeError.TheVariants.{MessageTooShort, MessageLength}
use Rattle.netlink_packet_core.proofs.FrontLaws.{header_at, envelope_at, length_at-is, Front-shrinks}
use Rattle.netlink_packet_core.proofs.Fronts.{begins, steps}
use Rattle.netlink_packet_core.proofs.Walks.{no_step_past_the_end, Step-same, Walk-finds}

-- a step that leaves fewer bytes
record Goes (old : Tail) : Type 0 where
  answer : Result Envelope EnvelopeError
  new : Tail
  step : EnvelopeStep old (Some answer) new
  less : length new.bytes < length old.bytes

stops : (old : Tail) (e : EnvelopeError) → 0 < length old.bytes → EnvelopeFault old.offset old.bytes e → Goes old
stops old e left bad =
    record { answer = Err e; new = record { offset = old.offset + length old.bytes; bytes = [] }; step = (left, bad, refl, refl); less = left }

passes : (old : Tail) → 16 ≤ length old.bytes → 16 ≤ (header_at old.bytes).length → (header_at old.bytes).length ≤ length old.bytes → Goes old
passes old long low high =
    let x : Envelope = envelope_at old.bytes in
    let count : ℕ = min (16 + length x.payload + pad (length x.payload)) (length old.bytes) in
    let f : EnvelopeFront old.bytes x (drop count old.bytes)
    = steps old.offset old.bytes x (16 + length x.payload + pad (length x.payload)) (begins old.offset old.bytes (header_at old.bytes) long refl low high) refl in
    record {
      answer = Ok x;
      new = record { offset = old.offset + count; bytes = drop count old.bytes };
      step = (f, omega (arith, length-drop count old.bytes));
      less = omega (arith, Front-shrinks old.bytes x (drop count old.bytes) f);
    }

by_length : (old : Tail) → 0 < length old.bytes → 16 ≤ length old.bytes → Goes old
by_length old left long =
    let fault : EnvelopeError = MessageLength old.offset (header_at old.bytes).length (length old.bytes) in
    elim (cases_lt (header_at old.bytes).length 16) [
      | inl low ↦ stops old fault left (refl, refl, long, sym (length_at-is old.bytes long), inl low)
      | inr least ↦ elim (cases_lt (length old.bytes) (header_at old.bytes).length) [
        | inl above ↦ stops old fault left (refl, refl, long, sym (length_at-is old.bytes long), inr above)
        | inr fits ↦ passes old long (omega arith) (omega arith)
      ]
    ]

-- where bytes are left there is a step
goes : (old : Tail) → 0 < length old.bytes → Goes old
goes old left = elim (cases_lt (length old.bytes) 16) [
  | inl short ↦ stops old (MessageTooShort old.offset (length old.bytes)) left (refl, refl, short)
  | inr long ↦ by_length old left (omega arith)
]

none_or_some : (bytes : List ℕ) → (bytes ≡ []) ⊎ (0 < length bytes)
none_or_some [] = inl refl
none_or_some (b ∷ bytes) = inr (omega arith)

abbrev Steps : Type 0
Steps = List (Result Envelope EnvelopeError)

-- steps to the end, of n bytes at most
abbrev ToTheEnd : Tail → Type 0
ToTheEnd old = (all : Steps) × (last : Tail) × EnvelopeSteps old all last × (last.bytes ≡ [])

to_the_end : (n : ℕ) (old : Tail) → length old.bytes ≤ n → ToTheEnd old
to_the_end zero old le = elim (none_or_some old.bytes) [
  | inl none ↦ ([], old, refl, none)
  | inr some ↦ absurd (omega arith)
]
to_the_end (suc n) old le = elim (none_or_some old.bytes) [
  | inl none ↦ ([], old, refl, none)
  | inr some ↦
      let g = goes old some in
      let h = to_the_end n g.new (omega (arith, g.less)) in
      (g.answer ∷ h.0, h.1, (g.new, g.step, h.2), h.3)
]

Steps-same : (xs ys : Steps) (old m n : Tail) → EnvelopeSteps old xs m → m.bytes ≡ [] → EnvelopeSteps old ys n → n.bytes ≡ [] → xs ≡ ys
Steps-same [] [] old m n p end q stop = refl
Steps-same [] (y ∷ ys) old m n p end (more, step, q) stop = absurd (no_step_past_the_end old y more (ap (λ (w : Tail). w.bytes) p ∙ end) step)
Steps-same (x ∷ xs) [] old m n (more, step, p) end q stop = absurd (no_step_past_the_end old x more (ap (λ (w : Tail). w.bytes) q ∙ stop) step)
Steps-same (x ∷ xs) (y ∷ ys) old m n (v, s, p) end (w, t, q) stop =
    let first = Step-same old x y v w s t in
    let later : xs ≡ ys = Steps-same xs ys v m n p end (subst (λ (k : Tail). EnvelopeSteps k ys n) (sym first.1) q) stop in
    λ i. first.0 i ∷ later i

pub Walk-same : (datagram : List ℕ) (xs ys : Steps) → EnvelopeWalk datagram xs → EnvelopeWalk datagram ys → xs ≡ ys
Walk-same datagram xs ys (m, p, end) (n, q, stop) = Steps-same xs ys (start datagram) m n p end q stop

pub Walk-one : (datagram : List ℕ) → HasOne (λ all. EnvelopeWalk datagram all)
Walk-one datagram =
    let h = to_the_end (length datagram) (start datagram) (omega arith) in
    let walk : EnvelopeWalk datagram h.0 = (h.1, h.2, h.3) in
    (h.0, walk, λ other w. Walk-same datagram other h.0 w walk)

-- bytes are messages, or stop
pub Datagram-or-stop : (datagram : List ℕ) → (xs : List Envelope) × (IsDatagram datagram xs ⊎ ((e : EnvelopeError) × EnvelopeStops datagram xs e))
Datagram-or-stop datagram =
    let h = to_the_end (length datagram) (start datagram) (omega arith) in
    let found = Walk-finds datagram h.0 h.1 h.2 in (
      found.0,
      elim found.1 [
        | inl (is, p) ↦ inl (subst (λ (b : List ℕ). EnvelopePasses datagram found.0 b) h.3 p)
        | inr (e, is, stop, end) ↦ inr (e, stop)
      ],
    )

-- ---- datagrams one after the other

Stand-same : (datagrams : List (List ℕ)) (xs ys : Steps) → Stand datagrams xs → Stand datagrams ys → xs ≡ ys
Stand-same [] xs ys p q = p ∙ sym q
Stand-same (datagram ∷ datagrams) xs ys (a, b, is, w, p) (c, d, as_well, v, q) =
    is ∙ (λ i. Walk-same datagram a c w v i ++ Stand-same datagrams b d p q i) ∙ sym as_well

Stand-some : (datagrams : List (List ℕ)) → (all : Steps) × Stand datagrams all
Stand-some [] = ([], refl)
Stand-some (datagram ∷ datagrams) =
    let first = Walk-one datagram in
    let later = Stand-some datagrams in
    (first.0 ++ later.0, (first.0, later.0, refl, first.1, later.1))

pub Stand-one : (datagrams : List (List ℕ)) → HasOne (λ all. Stand datagrams all)
Stand-one datagrams = let h = Stand-some datagrams in (h.0, h.1, λ other p. Stand-same datagrams other h.0 p h.1)
