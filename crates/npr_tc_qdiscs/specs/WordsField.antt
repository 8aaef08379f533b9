-- So many numbers of two bytes in a structure, one behind the other, the lowest byte first.
--     words_field      the field
--     words-from       they are read behind other bytes as there
use Rattle.std.proofs.Common.{◌≡◌, ℕ, zero, suc, ◌+◌, ◌*◌, ◌^◌, ◌<◌, List, [], ◌∷◌, ◌++◌, length, refl, sym, ap, subst, ◌∙◌, arith}
use Rattle.std.specs.Prelude.{slice_index}
use Rattle.std.specs.Int.{w16, from_le_bytes}
use Rattle.std.proofs.Common.{append_assoc, length-append, length-take, get_or, take, drop, ◌≤◌}
use Rattle.std.proofs.lemmas.List.{get_or-append-add, take-append-drop}
use Rattle.npr_base.specs.Blocks.{block_bytes}
use Rattle.npr_base.specs.Fields.{Field, le_two}
use Rattle.npr_base.specs.Framing.{IsBytes}
use Rattle.npr_base.specs.Layout.{le16}
use Rattle.npr_base.specs.Lists.{AllOf}
use Rattle.npr_base.specs.MoreFields.{bytes_at, bytes-long, bytes-own}

-- so many from a place on
abbrev pub words_at : ℕ → List ℕ → ℕ → List ℕ
words_at zero b i = []
words_at (suc n) b i = le_two.at b i ∷ words_at n b (i + 2)

-- each of two bytes
abbrev pub are_words : List ℕ → Type 0
are_words xs = AllOf (λ (n : ℕ). n < 2 ^ 16) xs

pub words-long : (n : ℕ) (b : List ℕ) (i : ℕ) → length (words_at n b i) ≡ n
words-long zero b i = refl
words-long (suc n) b i = ap suc (words-long n b (i + 2))

pub words-hold : (n : ℕ) (b : List ℕ) (i : ℕ) → IsBytes b → are_words (words_at n b i)
words-hold zero b i is = tt
words-hold (suc n) b i is = (le_two.Holds-at b i is, words-hold n b (i + 2) is)

-- they are those that were written there
written : (xs front more : List ℕ) → are_words xs → words_at (length xs) (front ++ (block_bytes le16 xs ++ more)) (length front) ≡ xs
written [] front more all = refl
written (x ∷ xs) front more all =
    let rest = block_bytes le16 xs ++ more in
    let bytes : front ++ ((le_two.encode x ++ block_bytes le16 xs) ++ more) ≡ front ++ (le_two.encode x ++ rest) =
    ap (λ (b : List ℕ). front ++ b) (append_assoc (le_two.encode x) (block_bytes le16 xs) more) in
    let first = ap (λ (b : List ℕ). le_two.at b (length front)) bytes ∙ le_two.at-encode front rest x all.0 in
    let shift = bytes ∙ sym (append_assoc front (le_two.encode x) rest) in
    let place : length front + 2 ≡ length (front ++ le_two.encode x) = sym (length-append front (le_two.encode x)) in
    let others =
    ap (λ (b : List ℕ). words_at (length xs) b (length front + 2)) shift
    ∙ ap (words_at (length xs) ((front ++ le_two.encode x) ++ rest)) place ∙ written xs (front ++ le_two.encode x) more all.1 in
    λ i. first i ∷ others i

pub bytes-written : (xs : List ℕ) → length (block_bytes le16 xs) ≡ 2 * length xs
bytes-written [] = refl
bytes-written (x ∷ xs) = omega (arith, length-append (le16.encode x) (block_bytes le16 xs), bytes-written xs)

pub words-back : (n : ℕ) (front more xs : List ℕ) → length xs ≡ n → are_words xs
    → words_at n (front ++ (block_bytes le16 (bytes_at n xs 0) ++ more)) (length front) ≡ xs
words-back n front more xs is all =
    ap (λ (ys : List ℕ). words_at n (front ++ (block_bytes le16 ys ++ more)) (length front)) (bytes-own n xs is)
    ∙ subst (λ (k : ℕ). words_at k (front ++ (block_bytes le16 xs ++ more)) (length front) ≡ xs) is (written xs front more all)

-- as many as the field has are written
abbrev pub words_field : ℕ → Field (List ℕ)
words_field n = record {
  width = 2 * n;
  at = words_at n;
  encode = λ xs. block_bytes le16 (bytes_at n xs 0);
  Holds = λ xs. (length xs ≡ n) × are_words xs;
  length-encode = λ xs. bytes-written (bytes_at n xs 0) ∙ ap (λ (k : ℕ). 2 * k) (bytes-long n xs 0);
  at-encode = λ front more xs h. words-back n front more xs h.0 h.1;
  Holds-at = λ bytes i is. (words-long n bytes i, words-hold n bytes i is);
}

-- ---- behind other bytes

word-behind : (front rest : List ℕ) (i : ℕ) → le_two.at (front ++ rest) (length front + i) ≡ le_two.at rest i
word-behind front rest i =
    let place : (length front + i) + 1 ≡ length front + (i + 1) = omega arith in
    let second = ap (λ (k : ℕ). get_or (front ++ rest) k 0) place ∙ get_or-append-add front rest (i + 1) 0 in
    let first : slice_index (front ++ rest) (length front + i) ≡ slice_index rest i = get_or-append-add front rest i 0 in
    λ j. from_le_bytes w16 (first j ∷ second j ∷ [])

words-behind : (n : ℕ) (front rest : List ℕ) (i j : ℕ) → j ≡ length front + i → words_at n (front ++ rest) j ≡ words_at n rest i
words-behind zero front rest i j is = refl
words-behind (suc n) front rest i j is =
    let first = ap (le_two.at (front ++ rest)) is ∙ word-behind front rest i in
    let more = words-behind n front rest (i + 2) (j + 2) (omega (arith, is)) in
    λ k. first k ∷ more k

pub words-from : (n at : ℕ) (b : List ℕ) → at ≤ length b → words_at n (drop at b) 0 ≡ words_at n b at
words-from n at b room =
    sym (words-behind n (take at b) (drop at b) 0 at (omega (arith, length-take at b)))
    ∙ ap (λ (w : List ℕ). words_at n w at) (take-append-drop at b)
