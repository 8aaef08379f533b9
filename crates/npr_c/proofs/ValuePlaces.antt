-- Where values and lists stand in the bytes.
use Rattle.std.proofs.Common.{◌≡◌, ℕ, List, [], ◌∷◌, ◌++◌, length, take, drop, refl, sym, ap, subst, ◌∙◌, inl, inr}
use Rattle.std.proofs.Common.{append_assoc}
use Rattle.std.proofs.lemmas.List.{append-nil, take_at, take-append-drop}
use Rattle.netlink_packet_route.specs.Ip.{IsIp}
use Rattle.netlink_packet_route.specs.Value.{Shown, Shows, is_address, is_name, are_bytes, is_structure, is_inside, is_nothing}
use Rattle.npr_base.specs.declared.ip.IpAddr.{IpAddr}
use Rattle.npr_base.specs.declared.ip.IpAddr.TheVariants.{V4, V6}
use Rattle.npr_base.specs.declared.value.Form.{Form}
use Rattle.npr_base.specs.declared.value.Form.TheVariants.{Byte, Boolean, Signed32, Signed64, Little16, Little32, Little64, Big16}
use Rattle.npr_base.specs.declared.value.Form.TheVariants.{Big32, Big64, Uint, Flag, Octets4, Octets16, Ip, Name, Raw, Exactly, Leading, List as Listed, Inside, Dropped}
use Rattle.npr_c.specs.Values.{Stands}

-- a front of what stands in front of bytes stands there
front_stands : (bytes value rest text more : List ℕ) → bytes ≡ value ++ rest → value ≡ text ++ more → take (length text) bytes ≡ text
front_stands bytes value rest text more is front =
    ap (take (length text)) (is ∙ ap (λ (w : List ℕ). w ++ rest) front ∙ append_assoc text more rest) ∙ take_at text (more ++ rest) (length text) refl

module _ (bytes : List ℕ) (place count : ℕ) where
  abbrev pub value : List ℕ
  value = take count (drop place bytes)

  shown_as : (s t : Shown) → s ≡ t → Stands bytes place t → Stands bytes place s
  shown_as s t same stands = subst (λ (u : Shown). Stands bytes place u) (sym same) stands

  front : (text more : List ℕ) → value ≡ text ++ more → take (length text) (drop place bytes) ≡ text
  front text more is = front_stands (drop place bytes) value (drop count (drop place bytes)) text more (sym (take-append-drop count (drop place bytes))) is

  whole : (text : List ℕ) → text ≡ value → take (length text) (drop place bytes) ≡ text
  whole text is = front text [] (sym is ∙ sym (append-nil text))

  address : (s : Shown) (a : IpAddr) → IsIp value a → s ≡ is_address a → Stands bytes place s
  address s (V4 octets) p same = shown_as s (is_address (V4 octets)) same (whole octets p.1)
  address s (V6 octets) p same = shown_as s (is_address (V6 octets)) same (whole octets p.1)

  -- what a value shows stands from its place on
  pub stands_there : (form : Form) (s : Shown) → Shows form value s → Stands bytes place s
  stands_there Byte s p = shown_as s _ p.1 tt
  stands_there Boolean s p = shown_as s _ p.1 tt
  stands_there Signed32 s p = shown_as s _ p.1 tt
  stands_there Signed64 s p = shown_as s _ p.1 tt
  stands_there Little16 s p = shown_as s _ p.1 tt
  stands_there Little32 s p = shown_as s _ p.1 tt
  stands_there Little64 s p = shown_as s _ p.1 tt
  stands_there Big16 s p = shown_as s _ p.1 tt
  stands_there Big32 s p = shown_as s _ p.1 tt
  stands_there Big64 s p = shown_as s _ p.1 tt
  stands_there Uint s p = shown_as s _ p.2 tt
  stands_there Flag s p = shown_as s _ p.2 tt
  stands_there Octets4 s p = shown_as s (is_address (V4 value)) p.1 (whole value refl)
  stands_there Octets16 s p = shown_as s (is_address (V6 value)) p.1 (whole value refl)
  stands_there Ip s (a, is, same) = address s a is same
  stands_there Name s (text, is, same) =
      let stands : take (length text) (drop place bytes) ≡ text = elim is.1 [
        | inl ended ↦ front text (0 ∷ []) ended
        | inr bare ↦ whole text (sym bare.0)
      ] in
      shown_as s (is_name text) same stands
  stands_there Raw s p = shown_as s (are_bytes value) p (whole value refl)
  stands_there (Exactly size) s p = shown_as s (is_structure value) p.1 (whole value refl)
  stands_there (Leading size) s p =
      shown_as s (is_structure (take size value)) p.1 (front (take size value) (drop size value) (sym (take-append-drop size value)))
  stands_there (Listed set front) s p = shown_as s (is_inside value) p (whole value refl)
  stands_there Inside s p = shown_as s (is_inside value) p (whole value refl)
  stands_there Dropped s p = shown_as s is_nothing p refl
