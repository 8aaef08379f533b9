-- What is said of the next message of a datagram in a conversation.
use Rattle.std.specs.Prelude.{◌≡◌, ◌⊎◌, ◌<◌, ◌≤◌, ℕ, ℤ, pos, List, length, drop, Bool, Ok}
use Rattle.netlink_packet_core.specs.Conversation.{Talk, Outcome, Event, said, heard}
use Rattle.netlink_packet_core.specs.Conversation.{done, acknowledged, refused, interrupted, overrun, broken, cut, message, foreign, ended}
use Rattle.netlink_packet_core.specs.Envelope.{EnvelopeFault}
use Rattle.netlink_packet_core.specs.declared.refusal.EnvelopeError.{EnvelopeError}
use Rattle.npr_c.specs.Envelopes.{EnvelopeAt, message_of}
use Rattle.npr_c.specs.Values.{truth}
use Rattle.npr_c.specs.declared.envelopes.Envelope.{Envelope}
use Rattle.npr_c.specs.declared.conversation.Heard.{Heard}

-- of what is said: a message of the answer, one of another, or the end
abbrev pub event_status : Event → ℕ
event_status (message x) = 0
event_status (foreign x) = 1
event_status (ended o) = 3

abbrev pub ending_number : Outcome → ℕ
ending_number done = 1
ending_number acknowledged = 2
ending_number (refused code attributes) = 3
ending_number interrupted = 4
ending_number overrun = 5
ending_number (broken e) = 6
ending_number cut = 7

abbrev pub event_ending : Event → ℕ
event_ending (ended o) = ending_number o
event_ending e = 0

-- of a request that was refused
abbrev pub event_code : Event → ℤ
event_code (ended (refused code attributes)) = code
event_code e = pos 0

-- that tells of no message
abbrev pub heard_nothing : ℕ → ℕ → Bool → Heard
heard_nothing status ending changed = record {
  status = status;
  ending = ending;
  code = pos 0;
  interrupted = truth changed;
  message_type = 0;
  flags = 0;
  payload = 0;
  length = 0;
  next = 0;
}

-- what is told of what is said, by the step over the same message
abbrev pub heard_of : Event → Bool → Envelope → Heard
heard_of event changed step = record {
  status = event_status event;
  ending = event_ending event;
  code = event_code event;
  interrupted = truth changed;
  message_type = step.message_type;
  flags = step.flags;
  payload = step.payload;
  length = step.length;
  next = step.next;
}

-- a message stands at the place, of which this is said
pub record HeardMessage (datagram : List ℕ) (at : ℕ) (t : Talk) (h : Heard) : Type 0 where
  pub step : Envelope
  pub stands : EnvelopeAt datagram at step
  pub status : h.status ≡ event_status (said t (Ok (message_of datagram step)))
  pub ending : h.ending ≡ event_ending (said t (Ok (message_of datagram step)))
  pub code : h.code ≡ event_code (said t (Ok (message_of datagram step)))
  pub interrupted : h.interrupted ≡ truth (heard t (Ok (message_of datagram step)))
  pub message_type : h.message_type ≡ step.message_type
  pub flags : h.flags ≡ step.flags
  pub payload : h.payload ≡ step.payload
  pub length : h.length ≡ step.length
  pub next : h.next ≡ step.next

-- what a call answers; a fault ends the answer, and no message is left at the end of the datagram
abbrev pub HearsAt : List ℕ → ℕ → Talk → Heard → Type 0
HearsAt datagram at t h =
    ((length datagram ≤ at) × (h ≡ heard_nothing 2 0 t.interrupted))
    ⊎ ((e : EnvelopeError) × (at < length datagram) × EnvelopeFault 0 (drop at datagram) e × (h ≡ heard_nothing 3 6 t.interrupted))
    ⊎ HeardMessage datagram at t h
