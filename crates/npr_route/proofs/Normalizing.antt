-- A list whose members are brought up in place, one after the other.
use Rattle.std.proofs.Common.{◌≡◌, ℕ, ◌+◌, ◌<◌, ◌≤◌, List, [], ◌∷◌, ◌++◌, length, map, get_or, take, drop, set, refl, sym, ap, ◌∙◌, arith, length-drop}
use Rattle.npr_route.specs.Attribute.{Meaning, attribute, attributes_of, hop, Hop, normalized, attributes_normalized, normalized_hop, hops_normalized}
use Rattle.npr_route.specs.AttributeView.{hops_of}
use Rattle.std.proofs.lemmas.List.{map_push, take_more, take_more_set, drop-set-lt, drop-drop, take_all, get_or-drop}

module _ {A M : Type 0} (view : A → M) (up : M → M) where
  -- as far as a place they are brought up, and from there on as they were
  pub record NormalizedSoFar (old now : List A) (i : ℕ) : Type 0 where
    pub done : map view (take i now) ≡ map up (map view (take i old))
    pub left : drop i now ≡ drop i old

  pub normalized_none : (old : List A) → NormalizedSoFar old old 0
  normalized_none old = record { done = refl; left = refl }

  -- what comes next is as it was
  pub untouched : (old now : List A) (i : ℕ) (d : A) → NormalizedSoFar old now i → get_or now i d ≡ get_or old i d
  untouched old now i d r =
      let here : i ≡ i + 0 = omega arith in
      ap (λ (n : ℕ). get_or now n d) here ∙ sym (get_or-drop i now 0 d) ∙ ap (λ (l : List A). get_or l 0 d) r.left ∙ get_or-drop i old 0 d
      ∙ ap (λ (n : ℕ). get_or old n d) (sym here)

  pub normalized_more : (old now : List A) (i : ℕ) (d v : A) → i < length now → view v ≡ up (view (get_or now i d)) → NormalizedSoFar old now i
      → NormalizedSoFar old (set now i v) (i + 1)
  normalized_more old now i d v lt is r =
      let long : i < length old = omega (arith, ap length r.left, length-drop i now, length-drop i old) in
      let same : get_or now i d ≡ get_or old i d = untouched old now i d r in
      record {
        done =
            ap (map view) (take_more_set now i v lt) ∙ map_push view (take i now) v ∙ ap (λ (w : List M). w ++ view v ∷ []) r.done
            ∙ ap (λ (m : M). map up (map view (take i old)) ++ m ∷ []) (is ∙ ap (λ (a : A). up (view a)) same)
            ∙ sym (ap (λ (l : List A). map up (map view l)) (take_more old i d long) ∙ ap (map up) (map_push view (take i old) (get_or old i d))
            ∙ map_push up (map view (take i old)) (view (get_or old i d)));
        left =
            drop-set-lt (i + 1) now i v (omega arith) ∙ ap (λ (n : ℕ). drop n now) (omega arith) ∙ sym (drop-drop 1 i now) ∙ ap (drop 1) r.left
            ∙ drop-drop 1 i old ∙ ap (λ (n : ℕ). drop n old) (omega arith);
      }

  pub normalized_all : (old now : List A) (i : ℕ) → length old ≤ i → length now ≤ i → NormalizedSoFar old now i → map view now ≡ map up (map view old)
  normalized_all old now i p q r = sym (ap (map view) (take_all i now q)) ∙ r.done ∙ ap (λ (l : List A). map up (map view l)) (take_all i old p)

-- ---- lists and the trees of meanings

pub attributes_of-normalized : (ms : List Meaning) → attributes_of (map normalized ms) ≡ attributes_normalized (attributes_of ms)
attributes_of-normalized [] = refl
attributes_of-normalized (m ∷ ms) = ap (attribute (normalized m)) (attributes_of-normalized ms)

pub hops_of-normalized : (hs : List Hop) → hops_of (map normalized_hop hs) ≡ hops_normalized (hops_of hs)
hops_of-normalized [] = refl
hops_of-normalized (h ∷ hs) = ap (hop h.head (attributes_normalized h.attributes)) (hops_of-normalized hs)
