-- A message whose length was written stands where it begins.
use Rattle.std.proofs.Common.{◌≡◌, ℕ, ◌+◌, ◌-◌, ◌≤◌, min, List, [], ◌∷◌, length, take, drop, get_or, refl, sym, ap, subst, ◌∙◌, arith, length-drop, length-take, Ok}
use Rattle.std.proofs.lemmas.List.{drop-drop}
use Rattle.std.proofs.lemmas.Nat.{from_le_bytes-to_le_bytes_4}
use Rattle.std.specs.Int.{w32, from_le_bytes, to_le_bytes}
use borrow.Rule.Slice.PartMut.{put_mid}
use Rattle.netlink_packet_core.proofs.Fronts.{begins, steps}
use Rattle.netlink_packet_core.specs.Envelope.{Envelope as Message, EnvelopeBegins, EnvelopeFront}
use Rattle.netlink_packet_core.specs.Header.{header}
use Rattle.netlink_packet_core.specs.declared.header.NetlinkHeader.{NetlinkHeader}
use Rattle.netlink_packet_route.specs.Framing.{Writes, pad}
use Rattle.npr_c.proofs.EnvelopePlaces.{found, step_over}
use Rattle.npr_c.proofs.WrittenPlaces.{behind, from_there, over, same_size}
use Rattle.npr_c.specs.Envelopes.{EnvelopeAt, message_of}
use Rattle.npr_c.specs.Requests.{MessageEnds, WritesAt, ended_envelope, header_there}

four : (bs : List ℕ) → 4 ≤ length bs → bs ≡ get_or bs 0 0 ∷ get_or bs 1 0 ∷ get_or bs 2 0 ∷ get_or bs 3 0 ∷ drop 4 bs
four (a ∷ b ∷ c ∷ d ∷ t) long = refl
four (a ∷ b ∷ c ∷ []) long = absurd (omega arith)
four (a ∷ b ∷ []) long = absurd (omega arith)
four (a ∷ []) long = absurd (omega arith)
four [] long = absurd (omega arith)

-- only the length stands in the first four bytes of a header
length_alone : (a b c d p q r s : ℕ) (t : List ℕ) → header.decode (take 16 (p ∷ q ∷ r ∷ s ∷ t))
    ≡ record (header.decode (take 16 (a ∷ b ∷ c ∷ d ∷ t))) { length = from_le_bytes w32 (p ∷ q ∷ r ∷ s ∷ []) }
length_alone a b c d p q r s t = refl

module _ (old part : List ℕ) (start end : ℕ) (ends : MessageEnds (length old) start end) (short : end - start ≤ 4294967295)
    (w : Writes (take (length old - start) (drop start old)) part (to_le_bytes w32 (end - start))) where
  abbrev new : List ℕ
  new = put_mid start (length old - start) old part

  abbrev size : ℕ
  size = end - start

  room : start + 4 ≤ length old
  room = omega (arith, ends.0, ends.1)

  written : WritesAt old new start (to_le_bytes w32 size)
  written = over old part (to_le_bytes w32 size) start room w

  still : (place : ℕ) → start + 4 ≤ place → drop place new ≡ drop place old
  still place past = behind old new start (to_le_bytes w32 size) room written place past

  long : length new ≡ length old
  long = same_size old new start (to_le_bytes w32 size) room written

  header_is : header_there new start ≡ record (header_there old start) { length = size }
  header_is =
      let bs : List ℕ = drop start old in
      let bytes : List ℕ = to_le_bytes w32 size in
      let text : bs ≡ get_or bs 0 0 ∷ get_or bs 1 0 ∷ get_or bs 2 0 ∷ get_or bs 3 0 ∷ drop (start + 4) old =
      four bs (omega (arith, length-drop start old, room))
      ∙ ap (λ (t : List ℕ). get_or bs 0 0 ∷ get_or bs 1 0 ∷ get_or bs 2 0 ∷ get_or bs 3 0 ∷ t) (drop-drop 4 start old) in
      let back : from_le_bytes w32 bytes ≡ size = from_le_bytes-to_le_bytes_4 size (omega (arith, short)) in
      ap (λ (b : List ℕ). header.decode (take 16 b)) (from_there old new start bytes room written)
      ∙ length_alone (get_or bs 0 0) (get_or bs 1 0) (get_or bs 2 0) (get_or bs 3 0) (get_or bytes 0 0) (get_or bytes 1 0) (get_or bytes 2 0)
      (get_or bytes 3 0) (drop (start + 4) old)
      ∙ (λ i. record (header.decode (take 16 (sym text i))) { length = back i })

  pub end_found : EnvelopeAt new start (ended_envelope old start end)
  end_found =
      let bs : List ℕ = drop start new in
      let h : NetlinkHeader = header_there new start in
      let counts : h.length ≡ size = ap (λ (x : NetlinkHeader). x.length) header_is in
      let x : Message = record { header = h; payload = take (h.length - 16) (drop 16 bs) } in
      let left : length bs ≡ length old - start = omega (arith, length-drop start new, long) in
      let begun : EnvelopeBegins 0 bs (Ok x) =
      begins 0 bs h (omega (arith, left, ends.0, ends.1)) refl (omega (arith, counts, ends.0)) (omega (arith, counts, left, ends.1)) in
      let count : length x.payload ≡ end - (start + 16) =
      omega (arith, counts, left, ends.0, ends.1, length-take (h.length - 16) (drop 16 bs), length-drop 16 bs) in
      let all : size + pad size ≡ 16 + length x.payload + pad (length x.payload) = omega (arith, count, ends.0) in
      let rest : List ℕ = drop (min (size + pad size) (length bs)) bs in
      let front : EnvelopeFront bs x rest = steps 0 bs x (size + pad size) begun all in
      let next_is : length new - length rest ≡ min (end + pad size) (length old) =
      omega (arith, long, left, ends.0, ends.1, length-drop (min (size + pad size) (length bs)) bs) in
      let same : step_over new start h (length x.payload) rest ≡ ended_envelope old start end =
      λ i. record {
        status = 0;
        number = 0;
        message_type = (header_is i).message_type;
        flags = (header_is i).flags;
        sequence_number = (header_is i).sequence_number;
        port_number = (header_is i).port_number;
        payload = start + 16;
        length = count i;
        next = next_is i;
      } in
      subst (EnvelopeAt new start) same (found new start x rest (omega (arith, long, ends.0, ends.1)) front)

  pub end_inside : message_of new (ended_envelope old start end) ≡ message_of old (ended_envelope old start end)
  end_inside =
      ap (λ (t : List ℕ). record (message_of old (ended_envelope old start end)) { payload = take (end - (start + 16)) t }) (still (start + 16) (omega arith))
