-- A next hop whose length was written stands where it begins.
use Rattle.std.proofs.Common.{◌≡◌, ℕ, ◌+◌, ◌-◌, ◌≤◌, min, List, [], ◌∷◌, length, take, drop, get_or, refl, sym, ap, subst, ◌∙◌, arith, length-drop}
use Rattle.std.proofs.lemmas.List.{drop-drop}
use Rattle.std.proofs.lemmas.Nat.{from_le_bytes-to_le_bytes_2}
use Rattle.std.specs.Int.{w16, from_le_bytes, to_le_bytes}
use borrow.Rule.Slice.PartMut.{put_mid}
use Rattle.netlink_packet_route.specs.Framing.{IsBytes, Writes, pad}
use Rattle.netlink_packet_route.specs.NextHopHeader.{IsChecked, next_hop_buffer}
use Rattle.netlink_packet_route.specs.declared.route.RouteNextHopBuffer.{RouteNextHopBuffer}
use Rattle.npr_c.proofs.HopPlaces.{hop_found, step_over}
use Rattle.npr_c.proofs.WrittenPlaces.{from_there, over, same_size}
use Rattle.npr_c.specs.NextHops.{HopAt}
use Rattle.npr_c.specs.Requests.{AttributeEnds, WritesAt, ended_hop, hop_there}

two : (bs : List ℕ) → 2 ≤ length bs → bs ≡ get_or bs 0 0 ∷ get_or bs 1 0 ∷ drop 2 bs
two (a ∷ b ∷ t) long = refl
two (a ∷ []) long = absurd (omega arith)
two [] long = absurd (omega arith)

-- only the length stands in the first two bytes of a header
length_alone : (a b p q : ℕ) (t : List ℕ) → next_hop_buffer.decode (take 8 (p ∷ q ∷ t))
    ≡ record (next_hop_buffer.decode (take 8 (a ∷ b ∷ t))) { length = from_le_bytes w16 (p ∷ q ∷ []) }
length_alone a b p q t = refl

module _ (old part : List ℕ) (start end : ℕ) (ends : AttributeEnds (length old) start end) (most : end - start ≤ 65535)
    (w : Writes (take (length old - start) (drop start old)) part (to_le_bytes w16 (end - start))) where
  abbrev new : List ℕ
  new = put_mid start (length old - start) old part

  abbrev size : ℕ
  size = end - start

  room : start + 2 ≤ length old
  room = omega (arith, ends.0, ends.1)

  written : WritesAt old new start (to_le_bytes w16 size)
  written = over old part (to_le_bytes w16 size) start room w

  long : length new ≡ length old
  long = same_size old new start (to_le_bytes w16 size) room written

  header_is : hop_there new start ≡ record (hop_there old start) { length = size }
  header_is =
      let bs : List ℕ = drop start old in
      let bytes : List ℕ = to_le_bytes w16 size in
      let text : bs ≡ get_or bs 0 0 ∷ get_or bs 1 0 ∷ drop (start + 2) old =
      two bs (omega (arith, length-drop start old, room)) ∙ ap (λ (t : List ℕ). get_or bs 0 0 ∷ get_or bs 1 0 ∷ t) (drop-drop 2 start old) in
      let back : from_le_bytes w16 bytes ≡ size = from_le_bytes-to_le_bytes_2 size (omega (arith, most)) in
      ap (λ (b : List ℕ). next_hop_buffer.decode (take 8 b)) (from_there old new start bytes room written)
      ∙ length_alone (get_or bs 0 0) (get_or bs 1 0) (get_or bytes 0 0) (get_or bytes 1 0) (drop (start + 2) old)
      ∙ (λ i. record (next_hop_buffer.decode (take 8 (sym text i))) { length = back i })

  pub end_hop_found : IsBytes new → start + 8 ≤ end → HopAt new start (ended_hop old start end)
  end_hop_found is least =
      let h : RouteNextHopBuffer = hop_there new start in
      let counts : h.length ≡ size = ap (λ (x : RouteNextHopBuffer). x.length) header_is in
      let left : length (drop start new) ≡ length old - start = omega (arith, length-drop start new, long) in
      let checked : IsChecked (drop start new) h = (refl, omega (arith, counts, least), omega (arith, counts, left, ends.1)) in
      let whole : size ≡ min (h.length + pad h.length) (length (drop start new)) = omega (arith, counts, left, ends.1, ends.2) in
      let last : start + h.length ≡ end = omega (arith, counts, ends.0) in
      let next : start + size ≡ end = omega (arith, ends.0) in
      let same : step_over start h size ≡ ended_hop old start end =
      λ i. record {
        status = 0;
        number = 0;
        interface_index = (header_is i).interface_index;
        flags = (header_is i).flags;
        hops = (header_is i).hops;
        attributes = start + 8;
        end = last i;
        next = next i;
      } in
      subst (HopAt new start) same (hop_found new start h size is (omega (arith, long, ends.0, ends.1)) checked whole)
