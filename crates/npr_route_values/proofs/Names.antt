-- Names that are set, and one more.
use Rattle.std.proofs.Common.{ℕ, ◌≡◌, Bool, true, false, Some, List, [], ◌∷◌, ◌++◌, refl, sym, ap, arith}
use Rattle.std.specs.Prelude.{if◌then◌else◌}
use Rattle.std.specs.Fmt.{option_append}
use Rattle.std.proofs.lemmas.List.{append-nil}
use Rattle.npr_base.specs.Text.{joined_by}
use Rattle.npr_base.proofs.Texts.{joined_by-push}
use Rattle.npr_route_values.specs.RouteFlags.{names_set}

abbrev pub any_of : List (List ℕ) → Bool
any_of [] = false
any_of (n ∷ ns) = true

-- whether the next one is set or not
pub names_set-push : (ns : List (Bool × List ℕ)) (is_set : Bool) (name : List ℕ) → names_set (ns ++ (is_set, name) ∷ []) ≡ names_set ns ++ (if is_set then name ∷ [] else [])
names_set-push [] true name = refl
names_set-push [] false name = refl
names_set-push ((true, n) ∷ ns) is_set name = ap (λ (l : List (List ℕ)). n ∷ l) (names_set-push ns is_set name)
names_set-push ((false, n) ∷ ns) is_set name = names_set-push ns is_set name

pub any_of-push : (ns : List (List ℕ)) (n : List ℕ) → true ≡ any_of (ns ++ n ∷ [])
any_of-push [] n = refl
any_of-push (m ∷ ns) n = refl

-- a text behind those that are there, with a separator where there are some
pub joined_push : (separator : List ℕ) (ns : List (List ℕ)) (n : List ℕ)
    → option_append (joined_by separator Some ns) (Some ((if any_of ns then separator else []) ++ n)) ≡ joined_by separator Some (ns ++ n ∷ [])
joined_push separator [] n = ap Some (sym (append-nil n))
joined_push separator (m ∷ ns) n = joined_by-push separator Some (m ∷ ns) n (omega arith)
