-- What a loop has written of parts, and the next one.
use Rattle.std.proofs.Common.{ℕ, ◌≡◌, ◌≤◌, ◌<◌, ◌+◌, ◌-◌, ◌^◌, false, Option, Some, None, List, [], ◌∷◌, ◌++◌, length, take, drop, get_or, flat_map, map, replicate, refl, sym, ap, ◌∙◌, arith}
use Rattle.std.specs.Fmt.{padded_integral, format_spec, char_count, option_append}
use Rattle.std.proofs.Output.{then_text_assoc}
use Rattle.std.proofs.lemmas.List.{take_more, take_all, flat_map_more, append-nil}
use Rattle.npr_base.specs.Text.{each_after, joined_by}

-- nothing before a text is nothing behind it
nil_both : (o : Option (List ℕ)) → option_append (Some []) o ≡ option_append o (Some [])
nil_both None = refl
nil_both (Some t) = ap Some (sym (append-nil t))

pub next_part : {X : Type 0} (text : X → List ℕ) (xs : List X) (i : ℕ) (x : X) → i < length xs → flat_map text (take i xs) ++ text (get_or xs i x) ≡ flat_map text (take (i + 1) xs)
next_part text xs i x inside = flat_map_more text [] (take i xs) (get_or xs i x) ∙ ap (flat_map text) (sym (take_more xs i x inside))

-- what `{:06x}` writes of digits
pub six_wide : (ds : List ℕ) → padded_integral (format_spec 32 0 4 6 (2 ^ 64 - 1)) false [] ds ≡ replicate (6 - length ds) 48 ++ ds
unfolding padded_integral char_count
six_wide ds = let none : 6 - length ds - 0 - 0 ≡ 6 - length ds = omega arith in (λ i. replicate (none i) 48 ++ append-nil ds i)

-- what is written after one part more
pub each_after-push : {X : Type 0} (separator : List ℕ) (text : X → Option (List ℕ)) (xs : List X) (x : X)
    → option_append (each_after separator text xs) (option_append (Some separator) (text x)) ≡ each_after separator text (xs ++ x ∷ [])
each_after-push separator text [] x = nil_both (option_append (Some separator) (text x))
each_after-push separator text (y ∷ ys) x =
    then_text_assoc (option_append (Some separator) (text y)) (each_after separator text ys) (option_append (Some separator) (text x))
    ∙ ap (option_append (option_append (Some separator) (text y))) (each_after-push separator text ys x)

pub each_after-more : {X : Type 0} (separator : List ℕ) (text : X → Option (List ℕ)) (xs : List X) (i : ℕ) (x : X) → i < length xs → x ≡ get_or xs i x
    → option_append (each_after separator text (take i xs)) (option_append (Some separator) (text x)) ≡ each_after separator text (take (i + 1) xs)
each_after-more {X = X} separator text xs i x inside e =
    each_after-push separator text (take i xs) x ∙ ap (λ (y : X). each_after separator text (take i xs ++ y ∷ [])) e ∙ ap (each_after separator text) (sym (take_more xs i x inside))

-- parts are the first and those after it
pub joined_first : {X : Type 0} (separator : List ℕ) (text : X → Option (List ℕ)) (xs : List X) (x : X) → 1 ≤ length xs → x ≡ get_or xs 0 x
    → option_append (text x) (each_after separator text (take (length xs - 1) (drop 1 xs))) ≡ joined_by separator text xs
joined_first separator text [] x some e = absurd (omega (arith, some))
joined_first separator text (y ∷ ys) x some e =
    let all : take (length (y ∷ ys) - 1) ys ≡ ys = take_all (length (y ∷ ys) - 1) ys (omega arith) in
    λ i. option_append (text (e i)) (each_after separator text (all i))

pub joined_by-push : {X : Type 0} (separator : List ℕ) (text : X → Option (List ℕ)) (xs : List X) (x : X) → 0 < length xs
    → option_append (joined_by separator text xs) (option_append (Some separator) (text x)) ≡ joined_by separator text (xs ++ x ∷ [])
joined_by-push separator text [] x some = absurd (omega (arith, some))
joined_by-push separator text (y ∷ ys) x some =
    then_text_assoc (text y) (each_after separator text ys) (option_append (Some separator) (text x)) ∙ ap (option_append (text y)) (each_after-push separator text ys x)

-- ---- by what a part means

-- A is how a part lies in memory, and M what it means
module _ {A M : Type 0} (separator : List ℕ) (text : M → Option (List ℕ)) (view : A → M) where
  each_after-map : (xs : List A) → each_after separator (λ x. text (view x)) xs ≡ each_after separator text (map view xs)
  each_after-map [] = refl
  each_after-map (x ∷ xs) = ap (option_append (option_append (Some separator) (text (view x)))) (each_after-map xs)

  joined_by-map : (xs : List A) → joined_by separator (λ x. text (view x)) xs ≡ joined_by separator text (map view xs)
  joined_by-map [] = refl
  joined_by-map (x ∷ xs) = ap (option_append (text (view x))) (each_after-map xs)

  -- ys is what a slice shows of xs
  pub joined_by-view : (xs ys : List A) → ys ≡ xs → joined_by separator (λ x. text (view x)) ys ≡ joined_by separator text (map view xs)
  joined_by-view xs ys is = ap (joined_by separator (λ x. text (view x))) is ∙ joined_by-map xs
