use Rattle.std.proofs.Common.{◌≡◌, ℕ, zero, suc, ◌<◌, List, [], ◌∷◌, length, get_or, replicate, refl, arith}
use Rattle.npr_tc_qdiscs.proofs.laws.law_default.Goals as goal

-- a list of zeros is the one of its length
all_zero : (n : ℕ) (xs : List ℕ) → length xs ≡ n → ((i d : ℕ) → i < n → get_or xs i d ≡ 0) → xs ≡ replicate n 0
all_zero zero [] long at = refl
all_zero zero (x ∷ xs) long at = absurd (omega (arith, long))
all_zero (suc n) [] long at = absurd (omega (arith, long))
all_zero (suc n) (x ∷ xs) long at =
    let rest = all_zero n xs (omega (arith, long)) (λ i d lt. at (suc i) d (omega (arith, lt))) in
    λ i. at 0 0 (omega arith) i ∷ rest i

pub returns-clause-mqprio_qopt : goal.returns-clause-mqprio_qopt
returns-clause-mqprio_qopt c x p =
    let classes = all_zero 16 x.prio_tc_map p.1.0.long p.1.0.at in
    let counts = all_zero 16 x.count p.1.1.1.0.long p.1.1.1.0.at in
    let offsets = all_zero 16 x.offset p.1.1.1.1.long p.1.1.1.1.at in
    λ i. record { num_tc = p.0 i; prio_tc_map = classes i; hw = p.1.1.0 i; count = counts i; offset = offsets i }
