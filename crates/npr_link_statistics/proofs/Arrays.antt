-- The numbers of an array that is taken apart, put together again.
--     unsigned_array, signed_array    they are the array
use Rattle.std.specs.Prelude.{ℤ, pos}
use Rattle.std.proofs.Common.{◌≡◌, ℕ, zero, suc, ◌+◌, List, [], ◌∷◌, length, get_or, map, drop, refl, sym, ap, ◌∙◌, arith, to_z-of_z}
use Rattle.std.proofs.lemmas.List.{drop_all, drop_more}
use denote.Array.{Array, each}
use denote.Laws.{Is}
use denote.Plain.{UInt}
use denote.Shadow.{shadow}
use denote.Signed.{SInt}
use mir.Syntax.{Width}
use mir.Val.{Val, of_z, to_z}

-- those from a place on, each as it is passed on
abbrev pub spread : {A : Type 0} → (A → A) → A → ℕ → ℕ → List A → List A
spread pass none zero at xs = []
spread pass none (suc n) at xs = pass (get_or xs at none) ∷ spread pass none n (at + 1) xs

spread-map : {A : Type 0} (pass : A → A) (none : A) (n at : ℕ) (xs : List A) → at + n ≡ length xs → spread pass none n at xs ≡ map pass (drop at xs)
spread-map pass none zero at xs e = ap (map pass) (sym (drop_all at xs (omega (arith, e))))
spread-map pass none (suc n) at xs e =
    ap (λ (ys : List _). pass (get_or xs at none) ∷ ys) (spread-map pass none n (at + 1) xs (omega (arith, e)))
    ∙ ap (map pass) (sym (drop_more xs at none (omega (arith, e))))

same-map : {A : Type 0} (xs : List A) → map (λ x. x) xs ≡ xs
same-map [] = refl
same-map (x ∷ xs) = ap (λ (ys : List _). x ∷ ys) (same-map xs)

signed-map : (w : Width) (xs : List ℤ) (us : List Val) → shadow (each ℤ (SInt w).own_val xs us) → map (λ z. to_z w (of_z w z)) xs ≡ xs
signed-map w [] us p = refl
signed-map w (x ∷ xs) [] p = absurd p
signed-map w (x ∷ xs) (u ∷ us) p = λ i. to_z-of_z {z = x} (record { sfits = p.0.1 }) i ∷ signed-map w xs us p.1 i

pub unsigned_array : (w : Width) (n : ℕ) (xs : List ℕ) (vs : List Val) → Is (Array (UInt w) n) xs vs → spread (λ x. x) 0 n 0 xs ≡ xs
unsigned_array w n xs vs p = spread-map (λ x. x) 0 n 0 xs (omega (arith, p.1.0.1)) ∙ same-map xs

pub signed_array : (w : Width) (n : ℕ) (xs : List ℤ) (vs : List Val) → Is (Array (SInt w) n) xs vs → spread (λ z. to_z w (of_z w z)) (pos 0) n 0 xs ≡ xs
signed_array w n xs vs p = spread-map (λ z. to_z w (of_z w z)) (pos 0) n 0 xs (omega (arith, p.1.0.1)) ∙ signed-map w xs p.0 p.1.1
