-- A search for what governs a list, one attribute more.
use Rattle.std.proofs.Common.{◌≡◌, List, [], ◌∷◌, ◌++◌, refl}
use Rattle.npr_base.specs.Counts.{Counts, hit}
use Rattle.npr_base.specs.Framing.{Item}
use Rattle.npr_base.specs.Lists.{AllOf}
use Rattle.npr_base.specs.FirstTold.{hit_each}

-- one more of them
pub AllOf-more : {A : Type 0} (P : A → Type 0) (xs : List A) (x : A) → AllOf P xs → P x → AllOf P (xs ++ x ∷ [])
AllOf-more P [] x all h = (h, tt)
AllOf-more P (y ∷ ys) x all h = (all.0, AllOf-more P ys x all.1 h)

pub hit_each-more : (xs : List Item) (x : Item) (c : Counts) → hit_each (xs ++ x ∷ []) c ≡ hit (hit_each xs c)
hit_each-more [] x c = refl
hit_each-more (y ∷ ys) x c = hit_each-more ys x (hit c)
