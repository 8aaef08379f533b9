-- Numbers of one width by their places in the bytes.
--     numbers-count                  how many there are
--     number-there, number-not       the one at a place, and where there is none
--     numbers-behind, none-behind    those behind so many, and where there are none
use Rattle.std.specs.Prelude.{slice_get}
use Rattle.std.proofs.Common.{◌≡◌, ℕ, zero, suc, ◌+◌, ◌*◌, ◌/◌, ◌<◌, ◌≤◌, List, [], ◌∷◌, length, drop, refl, sym, ap, ◌∙◌, subst, arith, length-drop, suc-mul, zero-mul, take, ◌-◌, div-lt_iff_lt-mul, le-div_iff_mul-le, ◌++◌, set, get_or}
use Rattle.std.proofs.lemmas.List.{drop-drop, drop_more, take_all, drop_all}
use Rattle.std.proofs.lemmas.Option.{slice_get_past}
use Rattle.npr_base.specs.Blocks.{IsBlock, AreBlocks, blocks-one}
use Rattle.npr_base.specs.Layout.{Layout}
use Rattle.npr_base.specs.Blocks.{Width}
use Rattle.npr_link_statistics.specs.Grown.{filled, number_or, numbers_in, numbers_in-are}

counted : (n m s : ℕ) → 0 < s → m * s ≤ n → n < (m + 1) * s → n / s ≡ m
counted n m s positive from to =
    let high : n / s < m + 1 = (div-lt_iff_lt-mul positive).1 to in
    let low : m ≤ n / s = (le-div_iff_mul-le positive).1 from in
    omega (arith, high, low)

module _ {A : Type 0} (L : Layout A) where
  fit : (bytes : List ℕ) (xs : List A) → AreBlocks L bytes xs → length xs * L.size ≤ length bytes
  fit bytes [] p = omega (arith)
  fit bytes (x ∷ xs) p = omega (arith, suc-mul (length xs) L.size, fit (drop L.size bytes) xs p.1, p.0.long, length-drop L.size bytes)

  end : (bytes : List ℕ) (xs : List A) → AreBlocks L bytes xs → length bytes < suc (length xs) * L.size
  end bytes [] p = omega (arith, p, suc-mul 0 L.size)
  end bytes (x ∷ xs) p = omega (arith, suc-mul (suc (length xs)) L.size, end (drop L.size bytes) xs p.1, p.0.long, length-drop L.size bytes)

  behind : (n : ℕ) (bytes : List ℕ) (xs : List A) → n ≤ length xs → AreBlocks L bytes xs → AreBlocks L (drop (n * L.size) bytes) (drop n xs)
  behind zero bytes xs le p = subst (λ (k : ℕ). AreBlocks L (drop k bytes) xs) (sym (zero-mul L.size)) p
  behind (suc n) bytes [] le p = absurd (omega (arith, le))
  behind (suc n) bytes (x ∷ xs) le p =
      let far : drop (n * L.size) (drop L.size bytes) ≡ drop (suc n * L.size) bytes = drop-drop (n * L.size) L.size bytes ∙ ap (λ (k : ℕ). drop k bytes) (omega (arith, suc-mul n L.size)) in
      subst (λ (b : List ℕ). AreBlocks L b (drop n xs)) far (behind n (drop L.size bytes) xs (omega (arith, le)) p.1)

  there : (none x : A) (n : ℕ) (bytes : List ℕ) (xs : List A) → n < length xs → AreBlocks L bytes xs → IsBlock L (drop (n * L.size) bytes) x
      → x ≡ number_or none (slice_get xs n)
  there none x n bytes [] le p is = absurd (omega (arith, le))
  there none x zero bytes (y ∷ xs) le p is = (subst (λ (k : ℕ). IsBlock L (drop k bytes) x) (zero-mul L.size) is).is ∙ sym p.0.is
  there none x (suc n) bytes (y ∷ xs) le p is =
      let far : drop (suc n * L.size) bytes ≡ drop (n * L.size) (drop L.size bytes) = ap (λ (k : ℕ). drop k bytes) (omega (arith, suc-mul n L.size)) ∙ sym (drop-drop (n * L.size) L.size bytes) in
      there none x n (drop L.size bytes) xs (omega (arith, le)) p.1 (subst (λ (b : List ℕ). IsBlock L b x) far is)

  -- what a slice from there on is
  rest : (bytes : List ℕ) (k n size : ℕ) → size ≡ L.size → k ≡ n * size → take (length bytes - k) (drop k bytes) ≡ drop (n * L.size) bytes
  rest bytes k n size same e =
      take_all (length bytes - k) (drop k bytes) (omega (arith, length-drop k bytes)) ∙ ap (λ (m : ℕ). drop m bytes) (e ∙ ap (λ (m : ℕ). n * m) same)

module _ {A : Type 0} (width : Width A) (bytes : List ℕ) (size : ℕ) (same : size ≡ width.layout.size) where
  pub numbers-count : length bytes / size ≡ length (numbers_in width bytes)
  numbers-count =
      let xs = numbers_in width bytes in
      let are = numbers_in-are width bytes in
      let low = fit width.layout bytes xs are in
      let high = subst (λ (k : ℕ). length bytes < k * width.layout.size) (omega arith) (end width.layout bytes xs are) in
      ap (λ (k : ℕ). length bytes / k) same ∙ counted (length bytes) (length xs) width.layout.size width.positive low high

  pub number-there : {x : A} {n k : ℕ} → n < length bytes / size → k ≡ n * size → IsBlock width.layout (take (length bytes - k) (drop k bytes)) x
      → x ≡ number_or width.none (slice_get (numbers_in width bytes) n)
  number-there {x} {n} {k} lt e is =
      there width.layout width.none x n bytes (numbers_in width bytes) (omega (arith, lt, numbers-count)) (numbers_in-are width bytes)
      (subst (λ (b : List ℕ). IsBlock width.layout b x) (rest width.layout bytes k n size same e) is)

  pub number-not : {n : ℕ} → length bytes / size ≤ n → width.none ≡ number_or width.none (slice_get (numbers_in width bytes) n)
  number-not {n} le = sym (ap (number_or width.none) (slice_get_past (numbers_in width bytes) n (omega (arith, le, numbers-count))))

  pub none-behind : {n : ℕ} → length bytes / size ≤ n → drop n (numbers_in width bytes) ≡ []
  none-behind {n} le = drop_all n (numbers_in width bytes) (omega (arith, le, numbers-count))

  pub numbers-behind : {n k : ℕ} (ys : List A) → n ≤ length bytes / size → k ≡ n * size → AreBlocks width.layout (take (length bytes - k) (drop k bytes)) ys
      → ys ≡ drop n (numbers_in width bytes)
  numbers-behind {n} {k} ys le e p =
      blocks-one width.layout (drop (n * width.layout.size) bytes) ys (drop n (numbers_in width bytes))
      (subst (λ (b : List ℕ). AreBlocks width.layout b ys) (rest width.layout bytes k n size same e) p)
      (behind width.layout n bytes (numbers_in width bytes) (omega (arith, le, numbers-count)) (numbers_in-are width bytes))

-- ---- fields, filled one by one

set-first : {A : Type 0} (front : List A) (y x : A) (back : List A) (n : ℕ) → length front ≡ n → set (front ++ y ∷ back) n x ≡ (front ++ x ∷ []) ++ back
set-first [] y x back zero e = refl
set-first [] y x back (suc n) e = absurd (omega (arith, e))
set-first (z ∷ front) y x back zero e = absurd (omega (arith, e))
set-first (z ∷ front) y x back (suc n) e = ap (λ (zs : List _). z ∷ zs) (set-first front y x back n (omega (arith, e)))

pub filled-length : {A : Type 0} (none : A) (n at : ℕ) (xs : List A) → length (filled none n at xs) ≡ n
filled-length none zero at xs = refl
filled-length none (suc n) at xs = ap suc (filled-length none n (at + 1) xs)

filled-push : {A : Type 0} (none : A) (n at : ℕ) (xs : List A) → filled none (suc n) at xs ≡ filled none n at xs ++ number_or none (slice_get xs (at + n)) ∷ []
filled-push none zero at xs = let e : at ≡ at + 0 = omega arith in ap (λ (k : ℕ). number_or none (slice_get xs k) ∷ []) e
filled-push none (suc n) at xs =
    let e : (at + 1) + n ≡ at + suc n = omega arith in
    ap (λ (ys : List _). number_or none (slice_get xs at) ∷ ys)
    (filled-push none n (at + 1) xs ∙ ap (λ (k : ℕ). filled none n (at + 1) xs ++ number_or none (slice_get xs k) ∷ []) e)

pub filled-next : {A : Type 0} (width : Width A) (bytes : List ℕ) (old : List A) (at : ℕ) (x : A) → at < length old
    → x ≡ number_or width.none (slice_get (numbers_in width bytes) at)
    → set (filled width.none at 0 (numbers_in width bytes) ++ drop at old) at x ≡ filled width.none (at + 1) 0 (numbers_in width bytes) ++ drop (at + 1) old
filled-next {A} width bytes old at x lt is =
    let front = filled width.none at 0 (numbers_in width bytes) in
    let next = λ (k : ℕ). front ++ number_or width.none (slice_get (numbers_in width bytes) k) ∷ [] in
    let more : at + 1 ≡ suc at = omega arith in
    let here : 0 + at ≡ at = omega arith in
    let last = ap (λ (y : A). front ++ y ∷ []) (sym is) in
    let one = ap (λ (k : ℕ). filled width.none k 0 (numbers_in width bytes)) more ∙ filled-push width.none at 0 (numbers_in width bytes) ∙ ap next here ∙ last in
    ap (λ (ys : List _). set (front ++ ys) at x) (drop_more old at x lt)
    ∙ set-first front (get_or old at x) x (drop (at + 1) old) at (filled-length width.none at 0 (numbers_in width bytes))
    ∙ ap (λ (ys : List _). ys ++ drop (at + 1) old) (sym one)
