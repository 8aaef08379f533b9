-- What `==` answers of a variant's one field, by what it holds: the facts of a family's law.
--     one             what the test of its type answers
--     list            a list of another family
--     number, truth   a number, a truth value
--     bytes, kept     bytes as they stand, an attribute of another number
--     nothing         a variant without a field
use Rattle.std.specs.Prelude.{ℕ, Bool, true, map, nat_eq, ◌==◌}
use Rattle.std.specs.Bool.{Decides, beq}
use Rattle.std.specs.Cmp.{booleans_Decides, unsigned_Decides}
use Rattle.std.specs.Cmp.Lexicographic.{pointwise}
use Rattle.std.specs.declared.alloc.Global.{Global}
use Rattle.std.specs.declared.vec.Vec.{Vec}
use Rattle.std.proofs.Common.{◌≡◌, refl}
use Rattle.npr_base.specs.Equality.{IsEqualityOf}
use Rattle.npr_base.specs.Framing.{Item}
use Rattle.npr_base.proofs.MeaningLaws.{items_equality, items_meaning}
use Rattle.npr_base.specs.ViewEquality.{item_equality, same_item}

pub one : {A : Type 0} {P : A → A → Type 0} → ((a b : A) → P a b) → (x y : A × Unit {0}) → P x.0 y.0
one h x y = h x.0 y.0

pub list : {A M : Type 0} {meaning : A → M} {test : A → A → Bool} → IsEqualityOf meaning test → (x y : Vec A Global × Unit {0})
    → Decides (pointwise test x.0.items y.0.items) (map meaning x.0.items ≡ map meaning y.0.items)
list {meaning = meaning} h x y = items_meaning meaning h x.0 y.0

pub number : (x y : ℕ × Unit {0}) → Decides (x.0 == y.0) (x.0 ≡ y.0)
number = one unsigned_Decides

pub truth : (x y : Bool × Unit {0}) → Decides (beq x.0 y.0) (x.0 ≡ y.0)
truth = one booleans_Decides

pub bytes : (x y : Vec ℕ Global × Unit {0}) → Decides (pointwise nat_eq x.0.items y.0.items) (x.0.items ≡ y.0.items)
bytes = one (items_equality unsigned_Decides)

pub kept : (x y : Item × Unit {0}) → Decides (same_item x.0 y.0) (x.0 ≡ y.0)
kept = one item_equality

pub nothing : (x y : Unit {0}) → Decides true (◌≡◌ {A = Unit {0}} tt tt)
nothing x y = (λ e. refl, λ e. refl)
