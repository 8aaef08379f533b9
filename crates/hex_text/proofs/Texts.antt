-- What a text stands for, by what was read of it from its front.
use Rattle.std.specs.Prelude.{option_to_list}
use Rattle.std.proofs.Common.{◌≡◌, ◌⊎◌, ℕ, ◌+◌, ◌*◌, ◌<◌, ◌≤◌, inl, inr, List, [], ◌∷◌, ◌++◌, length, take, drop, get_or, Option, refl, sym, ap, subst, ◌∙◌, arith, append-nil, append_assoc, take-add, take_all, drop-cons}
use Rattle.std.proofs.lemmas.List.{take-append-drop}
use Rattle.hex.specs.Hex.{hex_digit_value}
use Rattle.hex_text.specs.HexText.{Begins, HasOneReading, IsBadAt, IsHexText, IsPair, done, blank, comment, prefix, pair}
use Rattle.hex_text.specs.State.{Leads, ReadsFrom, Stops}
use Rattle.hex_text.specs.declared.state.State.{State}
use Rattle.hex_text.specs.declared.state.State.TheVariants.{Between, Half, Comment}
use Rattle.hex_text.proofs.States.{cases, hash-leads, blank-leads, digit-leads, x-leads, pair-leads}

-- a text that begins with `front` stands for bytes exactly if what is behind does in this state, behind those that ended
abbrev pub Reads : List ℕ → State → List ℕ → Type 0
Reads front state ended = (rest bytes : List ℕ)
    → (IsHexText (front ++ rest) bytes → (more : List ℕ) × (bytes ≡ ended ++ more) × ReadsFrom state rest more)
    × ((more : List ℕ) → ReadsFrom state rest more → IsHexText (front ++ rest) (ended ++ more))

pub reads-none : Reads [] Between []
reads-none rest bytes = (λ p. (bytes, refl, p), λ more p. p)

pub reads-more : (front ended : List ℕ) (state next : State) (c : ℕ) (o : Option ℕ) → Reads front state ended → Leads state c next o
    → Reads (front ++ c ∷ []) next (ended ++ option_to_list o)
reads-more front ended state next c o reads leads rest bytes =
    let there : (front ++ c ∷ []) ++ rest ≡ front ++ c ∷ rest = append_assoc front (c ∷ []) rest in (
      λ p.
          let (more, all, from) = (reads (c ∷ rest) bytes).0 (subst (λ (t : List ℕ). IsHexText t bytes) there p) in
          let (left, some, behind) = (leads rest more).0 from in
          (left, all ∙ ap (λ (b : List ℕ). ended ++ b) some ∙ sym (append_assoc ended (option_to_list o) left), behind),
      λ more p.
          let from = (leads rest bytes).1 more p in
          let all = (reads (c ∷ rest) bytes).1 (option_to_list o ++ more) from in
          rw (there, append_assoc ended (option_to_list o) more) all,
    )

-- ---- where it goes on, and where it does not

pub begins : (front ended : List ℕ) (state : State) → Reads front state ended → Begins front
begins front ended Between reads = ([], ended ++ [], (reads [] []).1 [] done)
begins front ended (Half high) reads =
    let last : ReadsFrom (Half high) (48 ∷ []) ((high * 16 + 0) ∷ []) = (48, [], refl, inr (0, [], refl, refl, done)) in
    (48 ∷ [], ended ++ (high * 16 + 0) ∷ [], (reads (48 ∷ []) []).1 ((high * 16 + 0) ∷ []) last)
begins front ended Comment reads = ([], ended ++ [], (reads [] []).1 [] done)

ends-here : (front ended : List ℕ) (state : State) (c : ℕ) → Reads front state ended → Stops state c → Begins (front ++ c ∷ []) → ⊥
ends-here front ended state c reads stops (rest, bytes, p) =
    let there : (front ++ c ∷ []) ++ rest ≡ front ++ c ∷ rest = append_assoc front (c ∷ []) rest in
    let (more, all, from) = (reads (c ∷ rest) bytes).0 (subst (λ (t : List ℕ). IsHexText t bytes) there p) in
    stops rest more from

pub one-more : (text : List ℕ) (place : ℕ) → place < length text → take (place + 1) text ≡ take place text ++ get_or text place 0 ∷ []
one-more text place within =
    take-add place 1 text ∙ ap (λ (t : List ℕ). take place text ++ take 1 t) (drop-cons text place 0 within)

-- a byte that is wrong
pub bad-here : (text ended : List ℕ) (state : State) (place : ℕ) → place < length text → Reads (take place text) state ended
    → Stops state (get_or text place 0) → IsBadAt text place
bad-here text ended state place within reads stops =
    let front = take place text in
    let none : Begins (take (place + 1) text) → ⊥ =
    λ p. ends-here front ended state (get_or text place 0) reads stops (subst Begins (one-more text place within) p) in (
      omega (arith, within),
      begins front ended state reads,
      λ w. none,
      λ bytes p. none (drop (place + 1) text, bytes, subst (λ (t : List ℕ). IsHexText t bytes) (sym (take-append-drop (place + 1) text)) p),
    )

-- one more byte
pub reads-next : (text ended out : List ℕ) (state next after : State) (place : ℕ) (o : Option ℕ) → place < length text
    → Reads (take place text) state ended → Leads state (get_or text place 0) next o → after ≡ next → out ≡ ended ++ option_to_list o
    → Reads (take (place + 1) text) after out
reads-next text ended out state next after place o within reads leads same all =
    rw (one-more text place within, same, all) (reads-more (take place text) ended state next (get_or text place 0) o reads leads)

-- ---- the end of a text

module _ (text ended : List ℕ) (state : State) (place : ℕ) (end : length text ≤ place) (reads : Reads (take place text) state ended) where
  all-read : (next : State) → state ≡ next → Reads text next ended
  all-read next is = rw (← is) (rw (take_all place text end) at reads)

  -- inside a pair
  pub bad-end : (high : ℕ) → state ≡ Half high → IsBadAt text (length text)
  bad-end high is =
      let all = all-read (Half high) is in
      let whole : take (length text) text ≡ text = take_all (length text) text (omega arith) in
      let none : (bytes : List ℕ) → IsHexText text bytes → ⊥ =
      λ bytes p.
      let (more, same, (low, rest, some, half)) = (all [] bytes).0 (subst (λ (t : List ℕ). IsHexText t bytes) (sym (append-nil text)) p) in
      cc in (
        omega arith,
        subst Begins (sym whole) (begins text ended (Half high) all),
        λ w. absurd (omega (arith, w)),
        none,
      )

  -- between pairs, or in a comment
  pub text-ends : (state ≡ Between) ⊎ (state ≡ Comment) → IsHexText text ended
  text-ends (inl is) =
      let p : IsHexText (text ++ []) (ended ++ []) = (all-read Between is [] []).1 [] done in
      rw (append-nil text, append-nil ended) at p
  text-ends (inr is) =
      let p : IsHexText (text ++ []) (ended ++ []) = (all-read Comment is [] []).1 [] done in
      rw (append-nil text, append-nil ended) at p

-- no text has no bytes
pub text-some : (text bytes : List ℕ) → IsHexText text bytes → 0 < length bytes → 0 < length text
text-some [] bytes is some = absurd (omega (arith, some, ap length (cases is)))
text-some (c ∷ text) bytes is some = omega arith

-- ---- one reading

same-pair : (high low byte other : ℕ) → IsPair high low byte → IsPair high low other → byte ≡ other
same-pair high low byte other (h, l, dh, dl, is) (k, m, dk, dm, are) =
    let high_same : h ≡ k = cc in
    let low_same : l ≡ m = cc in
    omega (arith, is, are, high_same, low_same)

same_bytes : {text bytes other : List ℕ} → IsHexText text bytes → IsHexText text other → bytes ≡ other
same_bytes done q = sym (cases q)
same_bytes {other = other} (blank {c = c} {text = rest} e p) q =
    let (more, all, from) = (blank-leads c e rest other).0 q in
    same_bytes p from ∙ sym all
same_bytes {other = other} (comment {c = c} {text = rest} e p) q =
    let (more, all, from) = (hash-leads c e rest other).0 q in
    same_bytes p from ∙ sym all
same_bytes {other = other} (prefix {c = c} {x = x} {text = rest} zero e p) q =
    let (more, all, half) = (digit-leads c 0 (ap hex_digit_value zero) (x ∷ rest) other).0 q in
    let (left, some, from) = (x-leads 0 x refl e rest more).0 half in
    same_bytes p from ∙ sym (all ∙ some)
same_bytes {other = other} (pair {high = high} {low = low} {byte = byte} {text = rest} {bytes = others} (h, l, dh, dl, value) p) q =
    let (more, all, half) = (digit-leads high h dh (low ∷ rest) other).0 q in
    let (left, some, from) = (pair-leads h low l dl rest more).0 half in
    ap (λ (b : ℕ). b ∷ others) (sym value) ∙ ap (λ (b : List ℕ). (h * 16 + l) ∷ b) (same_bytes p from) ∙ sym (all ∙ some)

pub one_reading : (text : List ℕ) → HasOneReading text
one_reading text bytes other p q = same_bytes p q
