-- Bytes at a place are what is left there, cut at their number.
use Rattle.std.specs.Prelude.{ℕ, zero, suc, List, ◌∷◌, length, drop, take}
use Rattle.std.proofs.Common.{◌≡◌, ◌≤◌, ◌+◌, ◌-◌, refl, ap, ◌∙◌, get_or, arith}
use Rattle.std.proofs.lemmas.List.{drop_more, take-take}
use Rattle.npr_base.specs.MoreFields.{bytes_at}

pub octets-cut : (n : ℕ) (b : List ℕ) (i : ℕ) → i + n ≤ length b → take n (drop i b) ≡ bytes_at n b i
octets-cut zero b i fits = refl
octets-cut (suc n) b i fits =
    ap (λ (l : List ℕ). take (suc n) l) (drop_more b i 0 (omega (arith, fits)))
    ∙ ap (λ (l : List ℕ). get_or b i 0 ∷ l) (octets-cut n b (i + 1) (omega (arith, fits)))

-- so are those of what is left as a slice
pub octets-standing : (n : ℕ) (b : List ℕ) (i : ℕ) → i + n ≤ length b → take n (take (length b - i) (drop i b)) ≡ bytes_at n b i
octets-standing n b i fits = take-take n (length b - i) (drop i b) (omega (arith, fits)) ∙ octets-cut n b i fits
