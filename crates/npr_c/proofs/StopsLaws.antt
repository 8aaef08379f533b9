-- What is wrong stands at one place, and is the first fault.
use Rattle.std.proofs.Common.{◌≡◌, ℕ, List, [], ◌∷◌, sym, ap, subst, ◌∙◌, arith, inl, inr, length}
use Rattle.netlink_packet_route.specs.Lists.{Each, IsWrong}
use Rattle.netlink_packet_route.specs.Framing.{Item, Front, Passes}
use Rattle.netlink_packet_route.specs.FrontLaws.{Front-same, Front-sound}
use Rattle.netlink_packet_route.specs.MessageKind.{BeginsBy, Form, form_of}
use Rattle.netlink_packet_route.specs.Nests.{reading_of}
use Rattle.netlink_packet_route.specs.declared.framing.DecodeError.{DecodeError}
use Rattle.netlink_packet_route.specs.declared.kind.MessageKind.{MessageKind}
use Rattle.netlink_packet_route.specs.declared.nests.Nest.{Nest}
use Rattle.netlink_packet_route.specs.Stops.{StopsBefore, StopsAt, StandsIn}

module _ {M : Type 0} (R : Item → M → Type 0) (F : Item → DecodeError → Type 0) (sound : (x : Item) (m : M) (e : DecodeError) → R x m → F x e → ⊥) where
  -- where an attribute stands that reads, nothing is wrong
  reads_right : (x : Item) (m : M) (bs more : List ℕ) (e : DecodeError) → Front bs x more → R x m → IsWrong F bs e → ⊥
  reads_right x m bs more e f r (inl (some, bad)) = Front-sound bs x more e f bad
  reads_right x m bs more e f r (inr (y, s, g, bad)) = sound x m e r (subst (λ (z : Item). F z e) (Front-same bs y x s more g f).0 bad)

  one_rest : (before after : List Item) (ms ns : List M) (bs r s : List ℕ) (d e : DecodeError) → Passes bs before r → Each R before ms → IsWrong F r d
      → Passes bs after s → Each R after ns → IsWrong F s e → r ≡ s
  one_rest [] [] ms ns bs r s d e p h v q i w = sym p ∙ q
  one_rest [] (y ∷ ys) ms [] bs r s d e p h v q i w = absurd i
  one_rest [] (y ∷ ys) ms (n ∷ ns) bs r s d e p h v (m, f, q) i w =
      absurd (reads_right y n bs m d f i.0 (subst (λ (b : List ℕ). IsWrong F b d) (sym p) v))
  one_rest (x ∷ xs) after [] ns bs r s d e p h v q i w = absurd h
  one_rest (x ∷ xs) [] (a ∷ ms) ns bs r s d e (m, f, p) h v q i w =
      absurd (reads_right x a bs m e f h.0 (subst (λ (b : List ℕ). IsWrong F b e) (sym q) w))
  one_rest (x ∷ xs) (y ∷ ys) (a ∷ ms) [] bs r s d e p h v q i w = absurd i
  one_rest (x ∷ xs) (y ∷ ys) (a ∷ ms) (b ∷ ns) bs r s d e (m, f, p) h v (n, g, q) i w =
      one_rest xs ys ms ns m r s d e p h.1 v (subst (λ (c : List ℕ). Passes c ys s) (Front-same bs y x n m g f).1 q) i.1 w

  pub one_stop : (bs r s : List ℕ) (d e : DecodeError) → StopsBefore R F bs r d → StopsBefore R F bs s e → r ≡ s
  one_stop bs r s d e (ms, (before, p, h), v) (ns, (after, q, i), w) = one_rest before after ms ns bs r s d e p h v q i w

-- ---- in a message

-- it begins one list, of one name
module _ (form : Form) (bytes r s : List ℕ) (l m : Nest) (p : BeginsBy form bytes l r) (q : BeginsBy form bytes m s) where
  one-rest : s ≡ r
  one-rest = q.is ∙ sym p.is

  one-context : q.context ≡ p.context
  one-context =
      let same : q.header ≡ p.header = q.reads.1 ∙ sym p.reads.1 in
      let there = subst (λ (h : form.Header). form.governs h s q.context) same q.governs in
      form.one p.header r p.context q.context p.governs (subst (λ (b : List ℕ). form.governs p.header b q.context) one-rest there)

  begins-one : (m ≡ l) × (s ≡ r)
  begins-one = (q.names ∙ ap form.nest one-context ∙ sym p.names, one-rest)

-- so it has its fault at one place
pub stands-one : (kind : MessageKind) (bytes : List ℕ) (j k : ℕ) (d e : DecodeError) → StandsIn kind bytes j d → StandsIn kind bytes k e → j ≡ k
stands-one kind bytes j k d e p q =
    let r = (reading_of p.nest).reading in
    let same = begins-one (form_of kind) bytes p.behind q.behind p.nest q.nest p.begins q.begins in
    let here : StopsAt q.nest p.behind q.rest e = subst (λ (b : List ℕ). StopsAt q.nest b q.rest e) same.1 q.stops in
    let other : StopsAt p.nest p.behind q.rest e = subst (λ (l : Nest). StopsAt l p.behind q.rest e) same.0 here in
    omega (arith, p.place, q.place, ap length (one_stop r.Reads r.Faulty r.no_fault p.behind p.rest q.rest d e p.stops other))
