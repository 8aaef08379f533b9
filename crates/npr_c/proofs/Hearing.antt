-- What a conversation hears is the message at the place.
use Rattle.std.proofs.Common.{◌≡◌, ℕ, ◌<◌, List, [], length, drop, refl, sym, ap, subst, ◌∙◌, arith, inl, inr, length-drop}
use Rattle.std.specs.Prelude.{Some, Result, Ok, Err}
use Rattle.netlink_packet_core.proofs.FrontLaws.{Front-same, Front-sound}
use Rattle.netlink_packet_core.specs.Conversation.{Talk, Event, said, after}
use Rattle.netlink_packet_core.specs.Envelope.{Envelope as Message, EnvelopeFront, EnvelopeFault, EnvelopeStep, Tail}
use Rattle.netlink_packet_core.specs.declared.refusal.EnvelopeError.{EnvelopeError}
use Rattle.npr_c.specs.Envelopes.{EnvelopeAt, EnvelopesAt, envelope_number, message_of, no_envelope}
use Rattle.npr_c.specs.Hearing.{HearsAt, HeardMessage, event_code, event_ending, event_status, heard_nothing, heard_of}
use Rattle.npr_c.specs.Values.{truth}
use Rattle.npr_c.specs.declared.envelopes.Envelope.{Envelope}

-- the walk finds the message that stands at the place
pub heard_there : (datagram : List ℕ) (at : ℕ) (step : Envelope) (s : Result Message EnvelopeError) (place more : Tail) → EnvelopeAt datagram at step
    → place.bytes ≡ drop at datagram → EnvelopeStep place (Some s) more → s ≡ Ok (message_of datagram step)
heard_there datagram at step (Ok x) place more stands same (f, _) =
    let front : EnvelopeFront (drop at datagram) x more.bytes = subst (λ (w : List ℕ). EnvelopeFront w x more.bytes) same f in
    ap Ok (Front-same (drop at datagram) x (message_of datagram step) more.bytes (drop step.next datagram) front stands.front).0
heard_there datagram at step (Err e) place more stands same (_, bad, _, _) =
    let fault : EnvelopeFault place.offset (drop at datagram) e = subst (λ (w : List ℕ). EnvelopeFault place.offset w e) same bad in
    absurd (Front-sound place.offset (drop at datagram) (message_of datagram step) (drop step.next datagram) e stands.front fault)

-- and a fault where none stands
fault_there : (datagram : List ℕ) (at : ℕ) (e : EnvelopeError) (s : Result Message EnvelopeError) (place more : Tail) → EnvelopeFault 0 (drop at datagram) e
    → place ≡ record { offset = 0; bytes = drop at datagram } → EnvelopeStep place (Some s) more → (g : EnvelopeError) × (s ≡ Err g)
fault_there datagram at e (Ok x) place more bad same (f, _) =
    absurd (Front-sound 0 (drop at datagram) x more.bytes e
    (subst (λ (w : List ℕ). EnvelopeFront w x more.bytes) (ap (λ (p : Tail). p.bytes) same) f) bad)
fault_there datagram at e (Err g) place more bad same step = (g, refl)

message_heard : (datagram : List ℕ) (at : ℕ) (t u : Talk) (event : Event) (step : Envelope) (s : Result Message EnvelopeError) → EnvelopeAt datagram at step
    → s ≡ Ok (message_of datagram step) → event ≡ said t s → u ≡ after t s → HeardMessage datagram at t (heard_of event u.interrupted step)
message_heard datagram at t u event step s stands is e a =
    let x : Result Message EnvelopeError = Ok (message_of datagram step) in
    let told : event ≡ said t x = e ∙ ap (said t) is in
    record {
      step = step;
      stands = stands;
      status = ap event_status told;
      ending = ap event_ending told;
      code = ap event_code told;
      interrupted = ap (λ (v : Talk). truth v.interrupted) (a ∙ ap (after t) is);
      message_type = refl;
      flags = refl;
      payload = refl;
      length = refl;
      next = refl;
    }

fault_heard : (t u : Talk) (event : Event) (step : Envelope) (number : ℕ) (s : Result Message EnvelopeError) (g : EnvelopeError)
    → step ≡ no_envelope 1 number → s ≡ Err g → event ≡ said t s → u ≡ after t s → heard_of event u.interrupted step ≡ heard_nothing 3 6 t.interrupted
fault_heard t u event step number s g none is e a =
    (λ i. heard_of ((e ∙ ap (said t) is) i) ((a ∙ ap (after t) is) i).interrupted (none i))

pub hears : (datagram : List ℕ) (at : ℕ) (t u : Talk) (event : Event) (step : Envelope) (s : Result Message EnvelopeError) (place more : Tail)
    → at < length datagram → place ≡ record { offset = 0; bytes = drop at datagram } → EnvelopesAt datagram at step → EnvelopeStep place (Some s) more
    → event ≡ said t s → u ≡ after t s → HearsAt datagram at t (heard_of event u.interrupted step)
hears datagram at t u event step s place more within same stood walked e a =
    let where_it_is : place.bytes ≡ drop at datagram = ap (λ (p : Tail). p.bytes) same in
    elim stood [
      | inl past ↦ absurd (omega (arith, past.0))
      | inr other ↦ elim other [
        | inl bad ↦
            let g = fault_there datagram at bad.0 s place more bad.2 same walked in
            inr (inl (bad.0, within, bad.2, fault_heard t u event step (envelope_number bad.0) s g.0 bad.3 g.1 e a))
        | inr stands ↦
            let is = heard_there datagram at step s place more stands where_it_is walked in
            inr (inr (message_heard datagram at t u event step s stands is e a))
      ]
    ]

pub not_ended : (datagram : List ℕ) (at : ℕ) (place : Tail) → at < length datagram → place.bytes ≡ drop at datagram → place.bytes ≡ [] → ⊥
not_ended datagram at place within same none = omega (arith, length-drop at datagram, ap length (sym same ∙ none))
