-- Bytes without one final zero.
use Rattle.std.specs.Prelude.{◌≢◌}
use Rattle.std.proofs.Common.{◌≡◌, ℕ, zero, suc, ◌+◌, ◌-◌, ◌*◌, ◌≤◌, List, [], ◌∷◌, ◌++◌, length, take, get_or}
use Rattle.std.proofs.Common.{refl, sym, ap, ◌∙◌, arith, inl, inr, length-append}
use Rattle.npr_base.specs.Framing.{framed}
use Rattle.npr_base.specs.lemmas.Codec.{framed-grows}
use Rattle.npr_base.specs.NameText.{IsUnterminated}

but_last : List ℕ → List ℕ
but_last [] = []
but_last (b ∷ []) = []
but_last (b ∷ c ∷ bs) = b ∷ but_last (c ∷ bs)

but_last-zero : (s : List ℕ) → but_last (s ++ 0 ∷ []) ≡ s
unfolding but_last
but_last-zero [] = refl
but_last-zero (b ∷ []) = refl
but_last-zero (b ∷ c ∷ bs) = ap (λ (w : List ℕ). b ∷ w) (but_last-zero (c ∷ bs))

same_front : (s t : List ℕ) → s ++ 0 ∷ [] ≡ t ++ 0 ∷ [] → s ≡ t
same_front s t e = sym (but_last-zero s) ∙ ap but_last e ∙ but_last-zero t

pub name-one : (bytes x y : List ℕ) → IsUnterminated bytes x → IsUnterminated bytes y → x ≡ y
name-one bytes x y (inl p) (inl q) = same_front x y (sym p ∙ q)
name-one bytes x y (inl p) (inr q) = absurd (q.1 x p)
name-one bytes x y (inr p) (inl q) = absurd (p.1 y q)
name-one bytes x y (inr p) (inr q) = sym p.0 ∙ q.0

pub name-grows : (bytes x : List ℕ) → IsUnterminated bytes x → 2 * framed (length (x ++ 0 ∷ [])) ≤ 5 * (4 + length bytes)
name-grows bytes x (inl p) = framed-grows (length (x ++ 0 ∷ [])) (length bytes) (omega (arith, ap length p))
name-grows bytes x (inr p) = framed-grows (length (x ++ 0 ∷ [])) (length bytes) (omega (arith, ap length p.0, length-append x (0 ∷ [])))

-- ---- how a program finds it

last_split : (s : List ℕ) (n : ℕ) → length s ≡ suc n → s ≡ take n s ++ get_or s n 0 ∷ []
last_split [] n l = absurd (omega arith)
last_split (b ∷ []) zero l = refl
last_split (b ∷ []) (suc n) l = absurd (omega arith)
last_split (b ∷ c ∷ bs) zero l = absurd (omega arith)
last_split (b ∷ c ∷ bs) (suc n) l = ap (λ (w : List ℕ). b ∷ w) (last_split (c ∷ bs) n (omega arith))

last_of : (s : List ℕ) → get_or (s ++ 0 ∷ []) (length s) 0 ≡ 0
last_of [] = refl
last_of (b ∷ bs) = last_of bs

pub unterminated-zero : (s : List ℕ) → 1 ≤ length s → get_or s (length s - 1) 0 ≡ 0 → IsUnterminated s (take (length s - 1) s)
unterminated-zero s h e = inl (last_split s (length s - 1) (omega arith) ∙ ap (λ (b : ℕ). take (length s - 1) s ++ b ∷ []) e)

pub unterminated-other : (s : List ℕ) → 1 ≤ length s → get_or s (length s - 1) 0 ≢ 0 → IsUnterminated s s
unterminated-other s h e =
    inr (
      refl,
      λ front p. e (ap (λ (w : List ℕ). get_or w (length s - 1) 0) p
          ∙ ap (λ (n : ℕ). get_or (front ++ 0 ∷ []) n 0) (omega (arith, ap length p, length-append front (0 ∷ []))) ∙ last_of front),
    )

pub unterminated-nil : (s : List ℕ) → length s ≡ 0 → IsUnterminated s s
unterminated-nil s h = inr (refl, λ front p. omega (arith, ap length p, length-append front (0 ∷ [])))
