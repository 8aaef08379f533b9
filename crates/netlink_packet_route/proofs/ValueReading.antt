-- What the form of a value says of it: a list is read where the attribute is, one that is cut off is refused, a value with a reader of
-- its own has one of the numbers of those, and any other is read where it stands.
use Rattle.std.specs.Prelude.{◌≡◌, ◌-◌, ◌<◌, ◌≤◌, ◌||◌, ℕ, Bool, true, false, List, length, take, drop}
use Rattle.std.proofs.Common.{refl, sym, ap, subst, ◌∙◌, length-drop}
use Rattle.std.proofs.Math.Seq.{take-length}
use Rattle.npr_base.specs.Framing.{Item, number_of}
use Rattle.npr_base.proofs.NestLaws.{cut-here, opens-here, owned-here}
use Rattle.npr_base.specs.Opening.{Opens}
use Rattle.npr_base.specs.Value.{IsWhole, Misshown, Shown, Shows}
use Rattle.npr_base.specs.declared.attribute_set.At.{At}
use Rattle.npr_base.specs.declared.attribute_set.AttributeSet.{AttributeSet}
use Rattle.npr_base.specs.declared.refusal.DecodeError.{DecodeError}
use Rattle.npr_base.specs.declared.refusal.DecodeError.TheVariants.{HeaderTooShort}
use Rattle.npr_base.specs.declared.value.Form.{Form}
use Rattle.npr_base.specs.declared.value.Form.TheVariants.{List as Listed, Inside}
use Rattle.netlink_packet_route.proofs.NestLaws.{nests}
use Rattle.netlink_packet_route.proofs.NestRows.{Own}
use Rattle.netlink_packet_route.specs.NestLists.{IsAttributeAt, IsListAt, ListFaultAt}
use Rattle.netlink_packet_route.specs.Nests.{Inner, has_reader, holds_hops, reading_of, stands_apart, within}
use Rattle.netlink_packet_route.specs.declared.nests.Nest.{Nest}

-- a value from some byte on
pub behind : (front : ℕ) (value : List ℕ) → take (length value - front) (drop front value) ≡ drop front value
behind front value = ap (λ (n : ℕ). take n (drop front value)) (sym (length-drop front value)) ∙ take-length (drop front value)

only-first : (a b : Bool) → b ≡ false → (a || b) ≡ true → a ≡ true
only-first true b other e = refl
only-first false true other e = absurd cc
only-first false false other e = e

pub form-whole : (form : Form) → ((set : AttributeSet) (front : ℕ) → form ≡ Listed set front → ⊥) → (form ≡ Inside → ⊥) → IsWhole form
form-whole (Listed set front) list reader = absurd (list set front refl)
form-whole Inside list reader = absurd (reader refl)
form-whole form list reader = tt

module _ (n : Nest) (x : Item) where
  abbrev told : ℕ → At × Form
  told = (reading_of n).reading.seeing.form_at

  module _ (set : AttributeSet) (front : ℕ) (form : (told (number_of x.kind)).1 ≡ Listed set front) where
    opens : (inner : Nest) → Inner (within n.set n.context) set x.value inner → front ≤ length x.value
        → Opens (reading_of n).reading (reading_of inner).reading (number_of x.kind) front x.value
    opens inner named long =
        opens-here reading_of (Inner (within n.set n.context)) (Own n.set n.context) (reading_of n).reading (nests n) (number_of x.kind) set front form
        x.value inner named long

    pub list-read : (inner : Nest) → Inner (within n.set n.context) set x.value inner → front ≤ length x.value → IsListAt inner (drop front x.value)
        → IsAttributeAt n x
    list-read inner named long (ms, reads) = (opens inner named long).up x ms refl refl reads

    pub list-faulty : (inner : Nest) (e : DecodeError) → Inner (within n.set n.context) set x.value inner → front ≤ length x.value
        → ListFaultAt inner (drop front x.value) e → (reading_of n).reading.Faulty x e
    list-faulty inner e named long bad = (opens inner named long).fault x e refl refl bad

    pub list-cut : length x.value < front → (reading_of n).reading.Faulty x (HeaderTooShort (length x.value) front)
    list-cut short =
        cut-here reading_of (Inner (within n.set n.context)) (Own n.set n.context) (reading_of n).reading (nests n) (number_of x.kind) set front form x
        refl short

  pub reader-apart : (told (number_of x.kind)).1 ≡ Inside → holds_hops n.set (number_of x.kind) ≡ false
      → stands_apart n.set n.context (number_of x.kind) ≡ true
  reader-apart form other =
      only-first (stands_apart n.set n.context (number_of x.kind)) (holds_hops n.set (number_of x.kind)) other
      (owned-here reading_of (Inner (within n.set n.context)) (Own n.set n.context) (reading_of n).reading (nests n) x form)

  module _ (p : At × Form) (k : ℕ) (v : List ℕ) (is : p ≡ told k) (number : k ≡ number_of x.kind) (same : v ≡ x.value) where
    here : p ≡ told (number_of x.kind)
    here = is ∙ ap told number

    pub told-read : IsWhole p.1 → (s : Shown) × Shows p.1 v s → IsAttributeAt n x
    told-read whole (s, shows) =
        let there = subst (λ (b : List ℕ). Shows p.1 b s) same shows in
        (reading_of n).reading.seeing.whole x s (subst (λ (q : At × Form). IsWhole q.1) here whole)
        (subst (λ (q : At × Form). Shows q.1 x.value s) here there)

    pub told-wrong : (e : DecodeError) → Misshown p.1 p.0 v e → (reading_of n).reading.Faulty x e
    told-wrong e bad =
        let there = subst (λ (b : List ℕ). Misshown p.1 p.0 b e) same bad in
        (reading_of n).reading.seeing.wrong x e (subst (λ (q : At × Form). Misshown q.1 q.0 x.value e) here there)
