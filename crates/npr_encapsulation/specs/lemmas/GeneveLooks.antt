-- The looks that reading options of Geneve takes: one at the header of each child, up to the end or to the first that is faulty.
use Rattle.std.proofs.Common.{◌≡◌, ◌≢◌, ℕ, ◌+◌, ◌≤◌, false, List, [], ◌∷◌, length, sym, ap, ◌∙◌, inl, inr, arith}
use Rattle.npr_base.specs.Counts.{Counts, AddsAtMost, SawEach}
use Rattle.npr_base.specs.Lists.{list_members}
use Rattle.npr_base.specs.Framing.{Item, Front, number_of}
use Rattle.npr_base.specs.lemmas.Front.{Front-same, Front-shrinks, Front-takes}
use Rattle.npr_base.specs.lemmas.LookBounds.{list-bounded, list-saw}
use Rattle.npr_base.specs.Family.{list_looking}
use Rattle.npr_base.specs.Looks.{Adds}
use Rattle.npr_base.specs.lemmas.Looks.{one_hit, raised-hit}
use Rattle.npr_encapsulation.specs.Geneve.{Geneve, Child, class_child, type_child, data_child, fresh, options_behind, AreGroups, AreOptions}
use Rattle.npr_encapsulation.specs.GeneveChildren.{child_reading}
use Rattle.npr_encapsulation.specs.GeneveLooks.{BeginsInside, OptionsLooks}

pub looks-one : (bytes : List ℕ) (old new other : Counts) → OptionsLooks false bytes old new → OptionsLooks false bytes old other → new ≡ other
looks-one bytes old new other (inl p) (inl q) = p.1 ∙ sym q.1
looks-one bytes old new other (inl p) (inr q) = absurd (q.0 p.0)
looks-one bytes old new other (inr p) (inl q) = absurd (p.0 q.0)
looks-one bytes old new other (inr p) (inr q) = (list_looking child_reading).one bytes old new other p.1 q.1

pub looks-add : (bytes : List ℕ) (old new : Counts) → OptionsLooks false bytes old new → Adds (OptionsLooks false bytes) old new
looks-add bytes old new (inl p) = record { number = one_hit; is = p.1 ∙ sym (raised-hit old); alike = λ c. inl (p.0, raised-hit c) }
looks-add bytes old new (inr p) =
    let a = (list_looking child_reading).adds bytes old new p.1 in
    record { number = a.number; is = a.is; alike = λ c. inr (p.0, a.alike c) }

pub options-bounded : (bytes : List ℕ) (old new : Counts) → OptionsLooks false bytes old new → AddsAtMost old new (length bytes)
options-bounded bytes old new (inl ((x, rest, f, k), p)) =
    let s = ap (λ (c : Counts). c.successful) p in
    let t = ap (λ (c : Counts). c.failed) p in
    record { kept = omega (arith, s); successful = omega (arith, s, Front-takes bytes x rest f); failed_kept = omega (arith, t); failed = omega (arith, t) }
options-bounded bytes old new (inr p) = list-bounded child_reading bytes old new p.1

pub front-outside : (bytes rest : List ℕ) (x : Item) → Front bytes x rest → number_of x.kind ≢ 2 → number_of x.kind ≢ 3 → BeginsInside bytes → ⊥
front-outside bytes rest x f two three (y, more, g, k) =
    let same = ap (λ (z : Item). number_of z.kind) (Front-same bytes x y rest more f g).0 in
    elim k [ inl e ↦ two (same ∙ e) | inr e ↦ three (same ∙ e) ]

-- options begin with a class
pub options-outside : (bytes : List ℕ) (os : List Geneve) → AreOptions bytes os → BeginsInside bytes → ⊥
options-outside bytes os ([], ([], p, each), g) (x, more, f, k) = omega (arith, ap length p, Front-shrinks bytes x more f)
options-outside bytes os ([], (y ∷ ys, p, each), g) inside = each
options-outside bytes os (c ∷ cs, ([], p, each), g) inside = each
options-outside bytes os (class_child n ∷ cs, (y ∷ ys, (r, h, p), each), g) inside =
    front-outside bytes r y h (λ two. omega (arith, each.0.0, two)) (λ three. omega (arith, each.0.0, three)) inside
options-outside bytes os (c ∷ cs, (y ∷ ys, p, each), g) inside = g

behind-fewer : (cs : List Child) (o : Geneve) → length (options_behind o cs) ≤ 1 + list_members (λ c. 0) cs
behind-fewer [] o = omega arith
behind-fewer (class_child n ∷ cs) o = omega (arith, behind-fewer cs (fresh n))
behind-fewer (type_child n ∷ cs) o = omega (arith, behind-fewer cs (record o { typ = n }))
behind-fewer (data_child d ∷ cs) o = omega (arith, behind-fewer cs (record o { opt_data = d }))

groups-fewer : (cs : List Child) (os : List Geneve) → AreGroups cs os → length os ≤ list_members (λ c. 0) cs
groups-fewer [] os g = omega (arith, ap length g)
groups-fewer (class_child n ∷ cs) os g = omega (arith, ap length g, behind-fewer cs (fresh n))
groups-fewer (c ∷ cs) os g = absurd g

pub options-saw : (bytes : List ℕ) (os : List Geneve) (old new : Counts) → AreOptions bytes os → OptionsLooks false bytes old new → SawEach old new (length os)
options-saw bytes os old new p (inl q) = absurd (options-outside bytes os p q.0)
options-saw bytes os old new (cs, p, g) (inr q) =
    let saw = list-saw child_reading bytes cs old new p q.1 in
    record { failed = saw.failed; each = λ below. omega (arith, saw.each below, groups-fewer cs os g) }
