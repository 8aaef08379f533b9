-- Where a message and what follows it stand in a datagram.
use Rattle.std.proofs.Common.{◌≡◌, ℕ, ◌+◌, ◌-◌, ◌<◌, List, ◌++◌, length, take, drop, refl, sym, ap, subst, ◌∙◌}
use Rattle.std.proofs.Common.{append_assoc, arith, length-append, length-drop}
use Rattle.std.proofs.lemmas.List.{take_at, drop_at, drop-drop, take-append-drop}
use Rattle.netlink_packet_core.specs.Envelope.{Envelope as Message, EnvelopeFront}
use Rattle.netlink_packet_core.specs.declared.header.NetlinkHeader.{NetlinkHeader}
use Rattle.npr_c.proofs.Places.{rest_is}
use Rattle.npr_c.specs.Envelopes.{EnvelopeAt, message_of}
use Rattle.npr_c.specs.declared.envelopes.Envelope.{Envelope}

-- the step over the message with this header and so many bytes behind it, in front of this rest
abbrev pub step_over : List ℕ → ℕ → NetlinkHeader → ℕ → List ℕ → Envelope
step_over datagram at header count rest = record {
  status = 0;
  number = 0;
  message_type = header.message_type;
  flags = header.flags;
  sequence_number = header.sequence_number;
  port_number = header.port_number;
  payload = at + 16;
  length = count;
  next = length datagram - length rest;
}

pub found : (datagram : List ℕ) (at : ℕ) (x : Message) (rest : List ℕ) → at < length datagram → EnvelopeFront (drop at datagram) x rest
    → EnvelopeAt datagram at (step_over datagram at x.header (length x.payload) rest)
found datagram at x rest within f =
    let n : ℕ = length x.payload in
    let step : Envelope = step_over datagram at x.header n rest in
    let text : List ℕ = f.front ++ (x.payload ++ f.padding) in
    let behind : drop 16 (drop at datagram) ≡ x.payload ++ (f.padding ++ rest) =
    ap (drop 16) (f.is ∙ append_assoc f.front (x.payload ++ f.padding) rest) ∙ drop_at f.front (x.payload ++ f.padding ++ rest) 16 f.size
    ∙ append_assoc x.payload f.padding rest in
    let after : drop (at + 16) datagram ≡ x.payload ++ (f.padding ++ rest) = sym (drop-drop 16 at datagram) ∙ behind in
    let value : take n (drop (at + 16) datagram) ≡ x.payload = ap (take n) after ∙ take_at x.payload (f.padding ++ rest) n refl in
    let whole : datagram ≡ (take at datagram ++ text) ++ rest =
    sym (take-append-drop at datagram) ∙ ap (λ (w : List ℕ). take at datagram ++ w) f.is ∙ sym (append_assoc (take at datagram) text rest) in
    let left : drop (length datagram - length rest) datagram ≡ rest = rest_is datagram (take at datagram ++ text) rest whole in
    let size : length datagram - at ≡ 16 + (n + length f.padding) + length rest =
    omega (
      arith,
      length-drop at datagram,
      ap length f.is,
      length-append text rest,
      length-append f.front (x.payload ++ f.padding),
      length-append x.payload f.padding,
      f.size,
    ) in
    let same : x ≡ message_of datagram step = λ i. record {
      header = record {
        length = f.counts i;
        message_type = x.header.message_type;
        flags = x.header.flags;
        sequence_number = x.header.sequence_number;
        port_number = x.header.port_number;
      };
      payload = sym value i;
    } in
    let front : EnvelopeFront (drop at datagram) (message_of datagram step) rest =
    subst (λ (m : Message). EnvelopeFront (drop at datagram) m rest) same f in
    record {
      status = refl;
      number = refl;
      front = subst (λ (w : List ℕ). EnvelopeFront (drop at datagram) (message_of datagram step) w) (sym left) front;
      place = refl;
      within = omega (arith, size);
      end = omega arith;
    }

-- the same, of equal bytes and parts
pub found_in : (datagram inside left : List ℕ) (at count : ℕ) (header : NetlinkHeader) (x : Message) (rest : List ℕ) → at < length datagram
    → inside ≡ drop at datagram → EnvelopeFront inside x rest → header ≡ x.header → count ≡ length x.payload → left ≡ rest
    → EnvelopeAt datagram at (step_over datagram at header count left)
found_in datagram inside left at count header x rest within same f h c l =
    rw (h, c, l) (found datagram at x rest within (subst (λ (w : List ℕ). EnvelopeFront w x rest) same f))
