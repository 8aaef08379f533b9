-- The answer to a request, over the datagrams that come (linux/netlink.h, NLM_F_DUMP_INTR, NLMSG_DONE, NLMSG_ERROR).
--     Talk           what is kept of a conversation
--     said           what is said of a message, or of bytes that are none
--     after          what is kept then
--     answers        what is said of all of them, up to the end
--     Hears          one step of a conversation over a datagram
--     TalksOver      all steps of a conversation, over datagrams one after the other
--     Stand          what stands in the datagrams
use Rattle.std.specs.Prelude.{◌≡◌, ℕ, ℤ, pos, ◌==◌, ◌&&◌, ◌||◌, Bool, true, false, nat_lt, ◌⊎◌, List, [], ◌∷◌, ◌++◌, length, take, drop}
use Rattle.std.specs.Prelude.{Option, Some, None, Result, Ok, Err, if◌then◌else◌}
use Rattle.npr_base.specs.Layout.{signed32}
use Rattle.netlink_packet_core.specs.Envelope.{Envelope, Tail, EnvelopeStep}
use Rattle.netlink_packet_core.specs.Walk.{start, EnvelopeWalk}
use Rattle.netlink_packet_core.specs.Payload.{end_of}
use Rattle.netlink_packet_core.specs.Extended.{has_flag, error_attributes, done_attributes}
use Rattle.netlink_packet_core.specs.declared.refusal.EnvelopeError.{EnvelopeError}
use Rattle.netlink_packet_core.specs.declared.conversation.Answer.{Answer}
use Rattle.netlink_packet_core.specs.declared.conversation.Answer.TheVariants.{Message, Foreign, Ended}
use Rattle.netlink_packet_core.specs.declared.conversation.End.{End}
use Rattle.netlink_packet_core.specs.declared.conversation.End.TheVariants.{Done, Acknowledged, Refused, Interrupted, Overrun, Broken, Cut}

-- what is kept: the request, whether a part said that the tables changed, and whether the end has come
pub record Talk : Type 0 where
  pub sequence_number : ℕ
  pub port_number : ℕ
  pub interrupted : Bool
  pub over : Bool

-- how an answer ends
pub data Outcome : Type 0 where
  done : Outcome
  acknowledged : Outcome
  refused : ℤ → List ℕ → Outcome
  interrupted : Outcome
  overrun : Outcome
  broken : EnvelopeError → Outcome
  cut : Outcome

-- what is said: a message of the answer, one of another conversation, or the end
pub data Event : Type 0 where
  message : Envelope → Event
  foreign : Envelope → Event
  ended : Outcome → Event

abbrev pub outcome_of : End → Outcome
outcome_of Done = done
outcome_of Acknowledged = acknowledged
outcome_of (Refused code attributes) = refused code attributes.now
outcome_of Interrupted = interrupted
outcome_of Overrun = overrun
outcome_of (Broken e) = broken e
outcome_of Cut = cut

abbrev pub event_of : Answer → Event
event_of (Message x) = message x
event_of (Foreign x) = foreign x
event_of (Ended e) = ended (outcome_of e)

-- the message has the number of the request, and its port where one is asked for
abbrev pub belongs : Talk → Envelope → Bool
belongs t x = (x.header.sequence_number == t.sequence_number) && ((t.port_number == 0) || (x.header.port_number == t.port_number))

-- the tables changed, by this part or an earlier one
abbrev pub changed : Talk → Envelope → Bool
changed t x = t.interrupted || has_flag x.header.flags 0x10

-- the code in front of a payload
abbrev pub code_in : List ℕ → ℤ
code_in payload = signed32.decode (take 4 payload)

abbrev pub is_zero : ℤ → Bool
is_zero (pos n) = n == 0
is_zero z = false

abbrev pub is_negative : ℤ → Bool
is_negative (pos n) = false
is_negative z = true

-- what an error says: the code 0 is an acknowledgement
abbrev pub error_outcome : Envelope → Outcome
error_outcome x =
    if nat_lt (length x.payload) 4 then cut
    else if is_zero (code_in x.payload) then acknowledged
    else refused (code_in x.payload) (error_attributes x.header.flags (drop 4 x.payload))

-- what the end of a dump says: a code below 0 is an error
abbrev pub done_outcome : Bool → Envelope → Outcome
done_outcome tables_changed x =
    let end = end_of x.payload in
    if nat_lt (length end) 4 then cut
    else if is_negative (code_in end) then refused (code_in end) (done_attributes x.header.flags (drop 4 end))
    else if tables_changed then interrupted else done

-- what is said of a message of the answer, by its type
abbrev pub own : Talk → Envelope → Event
own t x =
    if x.header.message_type == 2 then ended (error_outcome x)
    else if x.header.message_type == 3 then ended (done_outcome (changed t x) x)
    else if x.header.message_type == 4 then ended overrun else message x

-- and of what stands in a datagram
abbrev pub said : Talk → Result Envelope EnvelopeError → Event
said t (Ok x) = if belongs t x then own t x else foreign x
said t (Err e) = ended (broken e)

abbrev pub is_end : Event → Bool
is_end (ended o) = true
is_end e = false

-- what is kept then
abbrev pub heard : Talk → Result Envelope EnvelopeError → Bool
heard t (Ok x) = if belongs t x then changed t x else t.interrupted
heard t (Err e) = t.interrupted

abbrev pub after : Talk → Result Envelope EnvelopeError → Talk
after t s = record { sequence_number = t.sequence_number; port_number = t.port_number; interrupted = heard t s; over = is_end (said t s) }

-- what is said of them one after the other: after the end nothing
abbrev pub answers : Talk → List (Result Envelope EnvelopeError) → List Event
answers t [] = []
answers t (s ∷ steps) = if t.over then [] else said t s ∷ answers (after t s) steps

-- a request of this number, before any answer
abbrev pub asked : ℕ → ℕ → Talk
asked sequence_number port_number = record { sequence_number = sequence_number; port_number = port_number; interrupted = false; over = false }

-- one step of a conversation over what is left of a datagram
abbrev pub Hears : Talk → Tail → Option Answer → Talk → Tail → Type 0
Hears t place None u more = (u ≡ t) × (more ≡ place) × ((t.over ≡ true) ⊎ ((t.over ≡ false) × (place.bytes ≡ [])))
Hears t place (Some a) u more =
    (t.over ≡ false) × ((s : Result Envelope EnvelopeError) × EnvelopeStep place (Some s) more × (event_of a ≡ said t s) × (u ≡ after t s))

-- what is answered over what is left of a datagram until nothing more is
abbrev pub Talks : Talk → Tail → List Answer → Talk → Type 0
Talks t place [] u = (more : Tail) × Hears t place None u more
Talks t place (a ∷ rest) u = (v : Talk) × (more : Tail) × Hears t place (Some a) v more × Talks v more rest u

-- what is answered over datagrams one after the other
abbrev pub TalksOver : Talk → List (List ℕ) → List Answer → Talk → Type 0
TalksOver t [] given u = (given ≡ []) × (u ≡ t)
TalksOver t (datagram ∷ datagrams) given u =
    (first : List Answer) × (later : List Answer) × (v : Talk) × (given ≡ first ++ later)
    × Talks t (start datagram) first v × TalksOver v datagrams later u

-- what stands in the datagrams: their messages, and where one of them stops, its fault
abbrev pub Stand : List (List ℕ) → List (Result Envelope EnvelopeError) → Type 0
Stand [] steps = steps ≡ []
Stand (datagram ∷ datagrams) steps =
    (first : List (Result Envelope EnvelopeError)) × (later : List (Result Envelope EnvelopeError)) × (steps ≡ first ++ later)
    × EnvelopeWalk datagram first × Stand datagrams later

-- what is kept behind them
abbrev pub kept : Talk → List (Result Envelope EnvelopeError) → Talk
kept t [] = t
kept t (s ∷ steps) = if t.over then t else kept (after t s) steps
