-- Where a next hop and what follows it stand in the bytes.
use Rattle.std.proofs.Common.{◌≡◌, ℕ, min, ◌+◌, ◌-◌, ◌<◌, List, length, take, drop, refl, sym, subst, arith, length-drop}
use Rattle.std.proofs.lemmas.List.{drop-drop, take-append-drop}
use Rattle.netlink_packet_route.specs.Framing.{IsBytes, pad}
use Rattle.netlink_packet_route.specs.ListLaws.{IsBytes-right}
use Rattle.netlink_packet_route.specs.NextHopHeader.{IsChecked}
use Rattle.netlink_packet_route.specs.declared.route.RouteNextHopBuffer.{RouteNextHopBuffer}
use Rattle.npr_route.proofs.HopOpening.{opens}
use Rattle.npr_c.specs.NextHops.{HopAt}
use Rattle.npr_c.specs.declared.next_hops.NextHop.{NextHop}

-- the step over the next hop with this header, where the next one begins behind so many bytes
abbrev pub step_over : ℕ → RouteNextHopBuffer → ℕ → NextHop
step_over at h whole = record {
  status = 0;
  number = 0;
  interface_index = h.interface_index;
  flags = h.flags;
  hops = h.hops;
  attributes = at + 8;
  end = at + h.length;
  next = at + whole;
}

pub hop_found : (bytes : List ℕ) (at : ℕ) (h : RouteNextHopBuffer) (whole : ℕ) → IsBytes bytes → at < length bytes
    → IsChecked (drop at bytes) h → whole ≡ min (h.length + pad h.length) (length (drop at bytes)) → HopAt bytes at (step_over at h whole)
hop_found bytes at h whole is within checked size =
    let left : List ℕ = drop at bytes in
    let proper : IsBytes left = IsBytes-right (take at bytes) left (subst IsBytes (sym (take-append-drop at bytes)) is) in
    let long : length left ≡ length bytes - at = length-drop at bytes in
    let inside : drop (at + 8) bytes ≡ drop 8 left = sym (drop-drop 8 at bytes) in
    let count : at + h.length - (at + 8) ≡ h.length - 8 = omega arith in
    let rest : drop (at + whole) bytes ≡ drop whole left = sym (drop-drop whole at bytes) in
    record {
      status = refl;
      number = refl;
      front = rw (inside, count, rest) (opens left h whole proper checked size);
      place = refl;
      order = omega (arith, checked.1);
      within = omega (arith, size, checked.2);
      last = omega (arith, size, long);
    }
