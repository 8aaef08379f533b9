-- Bytes as long as a next hop's header says are that one next hop.
use Rattle.std.proofs.Common.{◌≡◌, ℕ, ◌+◌, ◌-◌, List, [], ◌∷◌, ◌++◌, length, take, drop, refl, sym, ap, subst, ◌∙◌, arith, inl, inr, length-take, length-drop}
use Rattle.std.proofs.lemmas.List.{append-nil, take_at, length_push}
use Rattle.npr_base.specs.declared.refusal.DecodeError.{DecodeError}
use Rattle.npr_route.specs.Attribute.{HopHead, HopFront, hop_text, Hop, AreHops, GovernedWrong, HopsWrong, no_hop_in_front, first_hop_wrong, later_hop_wrong, IsHop, HopWrong}
use Rattle.npr_route.specs.lemmas.Attribute.{governed-sound}
use Rattle.npr_route.specs.AttributeView.{hops_of}
use Rattle.npr_route.specs.FlatAttribute.{Context}
use Rattle.npr_route.specs.lemmas.NextHopFront.{HopFront-same, HopFront-sound, HopFront-length}
use Rattle.npr_route.specs.NextHopHeader.{IsChecked}
use Rattle.npr_route.specs.declared.next_hop_buffer.RouteNextHopBuffer.{RouteNextHopBuffer}

-- a next hop that stands in front, with what follows it cut off
cut_off : (bytes : List ℕ) (h : HopHead) (inside rest : List ℕ) → HopFront bytes h inside rest → HopFront (hop_text h inside) h inside []
cut_off bytes h inside rest f = record {
  padding = [];
  is = sym (append-nil (hop_text h inside));
  holds = f.holds;
  short = f.short;
  most = omega arith;
  whole = λ more. absurd (omega arith);
}

no_hops_left : (c : Context) (bytes : List ℕ) (hs : List Hop) → bytes ≡ [] → AreHops c bytes (hops_of hs) → hs ≡ []
no_hops_left c bytes [] is p = refl
no_hops_left c bytes (h ∷ hs) is (inside, rest, f, p, ps) = absurd (omega (arith, ap length is, HopFront-length bytes h.head inside rest f))

-- the one next hop of bytes that are its text
one : (c : Context) (bytes first : List ℕ) (h : HopHead) (inside rest : List ℕ) → HopFront bytes h inside rest → first ≡ hop_text h inside → (hs : List Hop) → AreHops c first (hops_of hs) → (k : Hop) × (hs ≡ k ∷ []) × IsHop c bytes k
one c bytes first h inside rest f is [] p = absurd (omega (arith, ap length p, ap length is))
one c bytes first h inside rest f is (k ∷ hs) (i, r, g, a, later) =
    let cut = subst (λ (b : List ℕ). HopFront b h inside []) (sym is) (cut_off bytes h inside rest f) in
    let same = HopFront-same first k.head h i inside r [] g cut in
    let none = no_hops_left c r hs same.2 later in
    let front : HopFront bytes k.head i rest = subst (λ (j : List ℕ). HopFront bytes k.head j rest) (sym same.1) (subst (λ (x : HopHead). HopFront bytes x inside rest) (sym same.0) f) in
    (k, ap (λ (ks : List Hop). k ∷ ks) none, (i, rest, front, a))

nothing_wrong_with_none : (c : Context) (bytes : List ℕ) (e : DecodeError) → bytes ≡ [] → HopsWrong c bytes e → ⊥
nothing_wrong_with_none c bytes e is (no_hop_in_front left bad) = omega (arith, ap length is)
nothing_wrong_with_none c bytes e is (first_hop_wrong h inside rest f w) = absurd (omega (arith, ap length is, HopFront-length bytes h inside rest f))
nothing_wrong_with_none c bytes e is (later_hop_wrong h inside rest ms f p w) = absurd (omega (arith, ap length is, HopFront-length bytes h inside rest f))

wrong : (c : Context) (bytes first : List ℕ) (h : HopHead) (inside rest : List ℕ) (e : DecodeError) → HopFront bytes h inside rest → HopFront first h inside [] → HopsWrong c first e → HopWrong c bytes e
wrong c bytes first h inside rest e f cut (no_hop_in_front left bad) = absurd (HopFront-sound first h inside [] e cut bad)
wrong c bytes first h inside rest e f cut (first_hop_wrong k i r g w) =
    inr (h, inside, rest, f, subst (λ (j : List ℕ). GovernedWrong c j e) (HopFront-same first k h i inside r [] g cut).1 w)
wrong c bytes first h inside rest e f cut (later_hop_wrong k i r ms g p w) = absurd (nothing_wrong_with_none c r e (HopFront-same first k h i inside r [] g cut).2 w)

-- the text that a header opens is as many bytes as it says
pub text_of : (bytes : List ℕ) (h : HopHead) (inside rest : List ℕ) (n : ℕ) → HopFront bytes h inside rest → n ≡ 8 + length inside → take n bytes ≡ hop_text h inside
text_of bytes h inside rest n f size = ap (take n) f.is ∙ take_at (hop_text h inside) (f.padding ++ rest) n (omega arith)

pub one_hop : (c : Context) (bytes : List ℕ) (h : HopHead) (inside rest : List ℕ) (n : ℕ) → HopFront bytes h inside rest → n ≡ 8 + length inside → (hs : List Hop) → AreHops c (take n bytes) (hops_of hs) → (k : Hop) × (hs ≡ k ∷ []) × IsHop c bytes k
one_hop c bytes h inside rest n f size hs p = one c bytes (take n bytes) h inside rest f (text_of bytes h inside rest n f size) hs p

pub one_hop_wrong : (c : Context) (bytes : List ℕ) (h : HopHead) (inside rest : List ℕ) (n : ℕ) (e : DecodeError) → HopFront bytes h inside rest → n ≡ 8 + length inside → HopsWrong c (take n bytes) e → HopWrong c bytes e
one_hop_wrong c bytes h inside rest n e f size w =
    wrong c bytes (take n bytes) h inside rest e f (subst (λ (b : List ℕ). HopFront b h inside []) (sym (text_of bytes h inside rest n f size)) (cut_off bytes h inside rest f)) w

-- bytes with a fault in front are no next hop
pub hop-sound : (c : Context) (bytes : List ℕ) (h : Hop) (e : DecodeError) → IsHop c bytes h → HopWrong c bytes e → ⊥
hop-sound c bytes h e (inside, rest, f, a) (inl bad) = HopFront-sound bytes h.head inside rest e f bad
hop-sound c bytes h e (inside, rest, f, a) (inr (k, i, r, g, w)) =
    governed-sound c inside h.attributes e a (subst (λ (j : List ℕ). GovernedWrong c j e) (HopFront-same bytes k h.head i inside r rest g f).1 w)

-- a checked header says how many bytes it opens
pub sized : (bytes : List ℕ) (h : RouteNextHopBuffer) → IsChecked bytes h → h.length ≡ 8 + length (take (h.length - 8) (drop 8 bytes))
sized bytes h (decoded, least, most) = omega (arith, length-take (h.length - 8) (drop 8 bytes), length-drop 8 bytes)

abbrev first_of : Hop → List Hop → Hop
first_of other [] = other
first_of other (h ∷ hs) = h

-- the last of one is that one
pub only : (hs : List Hop) (h k : Hop) → hs ++ h ∷ [] ≡ k ∷ [] → h ≡ k
only [] h k e = ap (first_of h) e
only (g ∷ hs) h k e = absurd (omega (arith, ap length e, length_push hs h))
