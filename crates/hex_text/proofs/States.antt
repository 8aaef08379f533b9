-- What a character leads to between pairs, behind a first digit, and in a comment.
use Rattle.std.specs.Prelude.{IsTrue}
use Rattle.std.proofs.Common.{◌≡◌, ◌≢◌, ◌⊎◌, ℕ, ◌+◌, ◌*◌, ◌==◌, false, inl, inr, List, [], ◌∷◌, Some, None, refl, sym, ap, subst, ◌∙◌, arith}
use Rattle.hex.specs.Hex.{hex_digit_value}
use Rattle.hex_text.specs.HexText.{IsHexText, IsPair, after_line, is_blank, is_x, done, blank, comment, prefix, pair}
use Rattle.hex_text.specs.State.{Leads, Stops}
use Rattle.hex_text.specs.declared.state.State.TheVariants.{Between, Half, Comment}

-- ---- a character is of one class

blank-hash : (c : ℕ) → IsTrue (is_blank c) → c ≡ 35 → ⊥
unfolding is_blank
blank-hash c e h = grind arith

blank-digit : (c v : ℕ) → IsTrue (is_blank c) → hex_digit_value c ≡ Some v → ⊥
unfolding is_blank
blank-digit c v e d = grind arith

hash-digit : (c v : ℕ) → c ≡ 35 → hex_digit_value c ≡ Some v → ⊥
hash-digit c v h d = grind arith

x-digit : (c v : ℕ) → IsTrue (is_x c) → hex_digit_value c ≡ Some v → ⊥
unfolding is_x
x-digit c v e d = grind arith

zero-digit : (c v : ℕ) → c ≡ 48 → hex_digit_value c ≡ Some v → v ≡ 0
zero-digit c v e d = grind arith

digit-zero : (c : ℕ) → hex_digit_value c ≡ Some 0 → c ≡ 48
digit-zero c d = grind arith

one_digit : (c v w : ℕ) → hex_digit_value c ≡ Some v → hex_digit_value c ≡ Some w → w ≡ v
one_digit c v w d e = cc

-- ---- how a text begins

abbrev pub Cases : List ℕ → List ℕ → Type 0
Cases [] bytes = bytes ≡ []
Cases (c ∷ rest) bytes =
    (IsTrue (is_blank c) × IsHexText rest bytes)
    ⊎ (((c ≡ 35) × IsHexText (after_line rest) bytes)
    ⊎ (((x : ℕ) × (more : List ℕ) × (rest ≡ x ∷ more) × (c ≡ 48) × IsTrue (is_x x) × IsHexText more bytes)
    ⊎ ((low : ℕ) × (more : List ℕ) × (byte : ℕ) × (others : List ℕ) × (rest ≡ low ∷ more) × (bytes ≡ byte ∷ others) × IsPair c low byte
    × IsHexText more others)))

pub cases : {text bytes : List ℕ} → IsHexText text bytes → Cases text bytes
cases done = refl
cases (blank e p) = inl (e, p)
cases (comment e p) = inr (inl (e, p))
cases (prefix {x = x} {text = more} zero e p) = inr (inr (inl (x, more, refl, zero, e, p)))
cases (pair {low = low} {byte = byte} {text = more} {bytes = others} is p) = inr (inr (inr (low, more, byte, others, refl, refl, is, p)))

-- ---- between pairs

pub hash-leads : (c : ℕ) → c ≡ 35 → Leads Between c Comment None
hash-leads c h rest bytes = (
  λ p. elim (cases p) [
    | inl b ↦ absurd (blank-hash c b.0 h)
    | inr (inl q) ↦ (bytes, refl, q.1)
    | inr (inr (inl q)) ↦ absurd (omega (arith, q.3, h))
    | inr (inr (inr q)) ↦ absurd (hash-digit c q.6.0 h q.6.2)
  ],
  λ more p. comment h p,
)

pub blank-leads : (c : ℕ) → IsTrue (is_blank c) → Leads Between c Between None
blank-leads c h rest bytes = (
  λ p. elim (cases p) [
    | inl b ↦ (bytes, refl, b.1)
    | inr (inl q) ↦ absurd (blank-hash c h q.0)
    | inr (inr (inl q)) ↦ absurd (blank-digit c 0 h (ap hex_digit_value q.3))
    | inr (inr (inr q)) ↦ absurd (blank-digit c q.6.0 h q.6.2)
  ],
  λ more p. blank h p,
)

pub digit-leads : (c v : ℕ) → hex_digit_value c ≡ Some v → Leads Between c (Half v) None
digit-leads c v d rest bytes = (
  λ p. elim (cases p) [
    | inl b ↦ absurd (blank-digit c v b.0 d)
    | inr (inl q) ↦ absurd (hash-digit c v q.0 d)
    | inr (inr (inl (x, more, is, zero, e, q))) ↦ (bytes, refl, (x, more, is, inl (zero-digit c v zero d, e, q)))
    | inr (inr (inr (low, more, byte, others, is, all, (h, l, dh, dl, value), q))) ↦
        let same : h ≡ v = one_digit c v h d dh in
        let byte_is : byte ≡ v * 16 + l = omega (arith, same, value) in
        (bytes, refl, (low, more, is, inr (l, others, dl, all ∙ ap (λ (b : ℕ). b ∷ others) byte_is, q)))
  ],
  λ more p. elim p.3 [
    | inl (zero, e, q) ↦
        let digit : hex_digit_value c ≡ Some 0 = d ∙ ap Some zero in
        rw p.2 (prefix (digit-zero c digit) e q)
    | inr (l, others, dl, all, q) ↦ rw (p.2, all) (pair (v, l, d, dl, refl) q)
  ],
)

pub other-stops : (c : ℕ) → c ≢ 35 → is_blank c ≡ false → hex_digit_value c ≡ None → Stops Between c
other-stops c hash here digit rest bytes p = elim (cases p) [
  | inl b ↦ cc
  | inr (inl q) ↦ hash q.0
  | inr (inr (inl q)) ↦ let zero : hex_digit_value c ≡ Some 0 = ap hex_digit_value q.3 in cc
  | inr (inr (inr q)) ↦ let some = q.6.2 in cc
]

-- ---- behind a first digit

pub x-leads : (high c : ℕ) → high ≡ 0 → IsTrue (is_x c) → Leads (Half high) c Between None
x-leads high c zero e rest bytes = (
  λ (low, others, is, half).
      let same : low ≡ c = cc in
      let more : others ≡ rest = cc in
      elim half [
        | inl q ↦ (bytes, refl, subst (λ (t : List ℕ). IsHexText t bytes) more q.2)
        | inr q ↦ absurd (x-digit c q.0 e (ap hex_digit_value (sym same) ∙ q.2))
      ],
  λ more p. (c, rest, refl, inl (zero, e, p)),
)

pub pair-leads : (high c l : ℕ) → hex_digit_value c ≡ Some l → Leads (Half high) c Between (Some (high * 16 + l))
pair-leads high c l d rest bytes = (
  λ (low, others, is, half).
      let same : low ≡ c = cc in
      let more : others ≡ rest = cc in
      elim half [
        | inl q ↦ absurd (x-digit c l (subst (λ (n : ℕ). IsTrue (is_x n)) same q.1) d)
        | inr (k, left, dk, all, q) ↦
            let digit : k ≡ l = one_digit c l k d (ap hex_digit_value (sym same) ∙ dk) in
            (left, all ∙ ap (λ (n : ℕ). (high * 16 + n) ∷ left) digit, subst (λ (t : List ℕ). IsHexText t left) more q)
      ],
  λ more p. (c, rest, refl, inr (l, more, d, refl, p)),
)

pub half-stops : (high c : ℕ) → (high ≡ 0 → is_x c ≡ false) → hex_digit_value c ≡ None → Stops (Half high) c
half-stops high c x digit rest bytes (low, others, is, half) =
    let same : low ≡ c = cc in
    elim half [
      | inl q ↦ let no = x q.0 in let e = subst (λ (n : ℕ). IsTrue (is_x n)) same q.1 in cc
      | inr q ↦ let some = ap hex_digit_value (sym same) ∙ q.2 in cc
    ]

-- ---- in a comment

pub feed-leads : (c : ℕ) → c ≡ 10 → Leads Comment c Between None
feed-leads c e rest bytes = rw e (λ p. (bytes, refl, p), λ more p. p)

pub comment-leads : (c : ℕ) → (c == 10) ≡ false → Leads Comment c Comment None
comment-leads c e rest bytes = rw e (λ p. (bytes, refl, p), λ more p. p)
