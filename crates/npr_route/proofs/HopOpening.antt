-- A header whose length lies within the bytes opens a next hop.
use Rattle.std.proofs.Common.{◌≡◌, ℕ, min, ◌+◌, ◌-◌, ◌*◌, ◌/◌, ◌%◌, ◌<◌, List, [], ◌∷◌, ◌++◌, length, take, drop, refl, sym, ap, subst, ◌∙◌, arith, length-take, length-drop}
use Rattle.std.proofs.lemmas.List.{take-append-drop, drop-drop, drop_min}
use Rattle.std.specs.Int.{w16, w32, to_le_bytes}
use Rattle.npr_base.specs.Framing.{IsBytes, pad}
use Rattle.npr_base.specs.Layout.{le32_at}
use Rattle.npr_base.specs.lemmas.List.{IsBytes-left}
use Rattle.npr_route.specs.Attribute.{HopFront, hop_text}
use Rattle.npr_route.specs.NextHopHeader.{next_hop_buffer, head_in, IsChecked}
use Rattle.npr_route.specs.declared.next_hop_buffer.RouteNextHopBuffer.{RouteNextHopBuffer}

low : (a b : ℕ) → a < 256 → b < 256 → ((a + b * 256) % 256 ≡ a) × ((a + b * 256) / 256 % 256 ≡ b)
low a b p q = (omega arith, omega arith)

wide : (a b c d : ℕ) → a < 256 → b < 256 → c < 256 → d < 256 → (n : ℕ) → n ≡ a + b * 256 + c * 65536 + d * 16777216
    → (n % 256 ≡ a) × (n / 256 % 256 ≡ b) × (n / 65536 % 256 ≡ c) × (n / 16777216 % 256 ≡ d)
wide a b c d p q r s n e = (omega arith, omega arith, omega arith, omega arith)

-- eight bytes are what their header is written as
written_again : (bs : List ℕ) → IsBytes bs → length bs ≡ 8 → next_hop_buffer.encode (next_hop_buffer.decode bs) ≡ bs
written_again (a ∷ b ∷ c ∷ d ∷ e ∷ f ∷ g ∷ h ∷ []) is long =
    let two = low a b (is 0) (is 1) in
    let four = wide e f g h (is 4) (is 5) (is 6) (is 7) (le32_at (a ∷ b ∷ c ∷ d ∷ e ∷ f ∷ g ∷ h ∷ []) 4) (omega arith) in
    rw (two.0, two.1, four.0, four.1, four.2, four.3) refl
written_again (a ∷ b ∷ c ∷ d ∷ e ∷ f ∷ g ∷ h ∷ i ∷ t) is long = absurd (omega arith)
written_again (a ∷ b ∷ c ∷ d ∷ e ∷ f ∷ g ∷ []) is long = absurd (omega arith)
written_again (a ∷ b ∷ c ∷ d ∷ e ∷ f ∷ []) is long = absurd (omega arith)
written_again (a ∷ b ∷ c ∷ d ∷ e ∷ []) is long = absurd (omega arith)
written_again (a ∷ b ∷ c ∷ d ∷ []) is long = absurd (omega arith)
written_again (a ∷ b ∷ c ∷ []) is long = absurd (omega arith)
written_again (a ∷ b ∷ []) is long = absurd (omega arith)
written_again (a ∷ []) is long = absurd (omega arith)
written_again [] is long = absurd (omega arith)

-- the padding behind a next hop ends at a multiple of four, or with the bytes
pub opens : (bs : List ℕ) (h : RouteNextHopBuffer) (next : ℕ) → IsBytes bs → IsChecked bs h → next ≡ min (h.length + pad h.length) (length bs)
    → HopFront bs (head_in h) (take (h.length - 8) (drop 8 bs)) (drop next bs)
opens bs h next is (decoded, least, most) at =
    let inside : List ℕ = take (h.length - 8) (drop 8 bs) in
    let behind : List ℕ = drop h.length bs in
    let padding : List ℕ = take (pad h.length) behind in
    let first : List ℕ = take 8 bs in
    let short : length first ≡ 8 = omega (arith, length-take 8 bs) in
    let proper : IsBytes first = IsBytes-left first (drop 8 bs) (subst IsBytes (sym (take-append-drop 8 bs)) is) in
    let ((long, (flags, (hops, index))), formed) = next_hop_buffer.Holds-decode first proper short in
    let in_place : next_hop_buffer.encode h ≡ first = ap next_hop_buffer.encode decoded ∙ written_again first proper short in
    let size : h.length ≡ 8 + length inside = omega (arith, length-take (h.length - 8) (drop 8 bs), length-drop 8 bs) in
    let cut : drop (h.length - 8) (drop 8 bs) ≡ behind = drop-drop (h.length - 8) 8 bs ∙ ap (λ (n : ℕ). drop n bs) (omega arith) in
    let split : drop 8 bs ≡ inside ++ behind = sym (take-append-drop (h.length - 8) (drop 8 bs)) ∙ ap (λ (w : List ℕ). inside ++ w) cut in
    let rest : drop (pad h.length) behind ≡ drop next bs = drop-drop (pad h.length) h.length bs ∙ ap (λ (n : ℕ). drop n bs) (omega arith)
    ∙ sym (drop_min (h.length + pad h.length) bs) ∙ ap (λ (n : ℕ). drop n bs) (sym at) in
    let padded : behind ≡ padding ++ drop next bs = sym (take-append-drop (pad h.length) behind) ∙ ap (λ (w : List ℕ). padding ++ w) rest in
    let whole : bs ≡ next_hop_buffer.encode h ++ (inside ++ behind) = sym (take-append-drop 8 bs) ∙ ap (λ (w : List ℕ). w ++ drop 8 bs) (sym in_place)
    ∙ ap (λ (w : List ℕ). next_hop_buffer.encode h ++ w) split in
    let headed : next_hop_buffer.encode h ++ (inside ++ behind) ≡ hop_text (head_in h) inside ++ behind =
    ap (λ (n : ℕ). to_le_bytes w16 n ++ (h.flags ∷ h.hops ∷ to_le_bytes w32 h.interface_index ++ (inside ++ behind))) size in
    let left : length (drop next bs) ≡ length bs - next = length-drop next bs in
    let taken = length-take (pad h.length) behind in
    record {
      padding = padding;
      is = whole ∙ headed ∙ ap (λ (w : List ℕ). hop_text (head_in h) inside ++ w) padded;
      holds = record {
        flags = omega (arith, flags, ap (λ (b : RouteNextHopBuffer). b.flags) decoded);
        hops = omega (arith, hops, ap (λ (b : RouteNextHopBuffer). b.hops) decoded);
        interface_index = omega (arith, index, ap (λ (b : RouteNextHopBuffer). b.interface_index) decoded);
      };
      short = omega (arith, size, long, ap (λ (b : RouteNextHopBuffer). b.length) decoded);
      most = omega (arith, size, taken);
      whole = λ more. omega (arith, size, taken, left, more, at, length-drop h.length bs);
    }
