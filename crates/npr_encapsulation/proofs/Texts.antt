-- The last value of a kind in a list.
use Rattle.std.proofs.Common.{◌≡◌, ℕ, ◌+◌, ◌<◌, Option, Some, None, unwrap_or, List, [], ◌∷◌, ◌++◌, length, map, get_or, take, refl, sym, ap, ◌∙◌}
use Rattle.std.specs.Prelude.{filter_map}
use Rattle.std.specs.List.{last_or, cons_option}
use Rattle.std.proofs.lemmas.List.{take_more, append-nil, map-append}
use Rattle.std.proofs.lemmas.List.Elements.{filter_map-append}
use Rattle.npr_encapsulation.specs.ErspanOptions.{family, last_of}
use Rattle.npr_encapsulation.specs.declared.erspan.RouteErspanOpt.{RouteErspanOpt}

last_or-push : (o : Option ℕ) (ns : List ℕ) (n : ℕ) → last_or o (ns ++ n ∷ []) ≡ Some n
last_or-push o [] n = refl
last_or-push o (x ∷ ns) n = last_or-push (Some x) ns n

last_or-cons_option : (o : Option ℕ) (ns : List ℕ) → unwrap_or (last_or None (ns ++ cons_option o [])) 0 ≡ unwrap_or o (unwrap_or (last_or None ns) 0)
last_or-cons_option None ns = ap (λ l. unwrap_or (last_or None l) 0) (append-nil ns)
last_or-cons_option (Some n) ns = ap (λ o. unwrap_or o 0) (last_or-push None ns n)

last_of-push : (value : family.Meaning → Option ℕ) (ms : List family.Meaning) (m : family.Meaning) → last_of value (ms ++ m ∷ []) ≡ unwrap_or (value m) (last_of value ms)
last_of-push value ms m = ap (λ ns. unwrap_or (last_or None ns) 0) (filter_map-append value ms (m ∷ [])) ∙ last_or-cons_option (value m) (filter_map value ms)

-- one option more
pub last_of-more : (xs : List RouteErspanOpt) (i : ℕ) (x : RouteErspanOpt) → i < length xs → x ≡ get_or xs i x → (m : family.Meaning) → family.meaning x ≡ m → (value : family.Meaning → Option ℕ)
    → last_of value (map family.meaning (take (i + 1) xs)) ≡ unwrap_or (value m) (last_of value (map family.meaning (take i xs)))
last_of-more xs i x inside is m means value =
    let before = take i xs in
    let one_more : take (i + 1) xs ≡ before ++ x ∷ [] = take_more xs i x inside ∙ ap (λ y. before ++ y ∷ []) (sym is) in
    let meant : map family.meaning (before ++ x ∷ []) ≡ map family.meaning before ++ m ∷ [] = map-append family.meaning before (x ∷ []) ∙ ap (λ y. map family.meaning before ++ y ∷ []) means in
    ap (λ ys. last_of value (map family.meaning ys)) one_more ∙ ap (last_of value) meant ∙ last_of-push value (map family.meaning before) m
