use Rattle.std.proofs.Common.{◌≡◌, ℕ, ◌<◌, ◌≤◌, List, [], length, drop, true, false, ap, sym, subst, ◌∙◌, arith}
use Rattle.std.specs.Prelude.{Result, Ok, Err, IfOk, is_err}
use Rattle.std.proofs.lemmas.Bool.Decides.{nat_tests}
use Rattle.std.proofs.lemmas.List.{nil_from_length}
use Rattle.std.proofs.lemmas.Result.{err_from_is_err_and, IfOk-weaker, IfErr-weaker}
use Rattle.npr_base.specs.Framing.{Front, Fault}
use Rattle.npr_base.specs.declared.attribute_set.At.{At}
use Rattle.npr_base.specs.declared.refusal.DecodeError.TheVariants.{HeaderTooShort}
use Rattle.npr_base.specs.declared.value.Form.{Form}
use Rattle.npr_base.specs.declared.value.Form.TheVariants.{List as Listed, Inside}
use Rattle.netlink_packet_route.proofs.ValueReading.{behind, form-whole, list-cut, list-faulty, list-read, reader-apart, told-read, told-wrong}
use Rattle.netlink_packet_route.proofs.CheckLaws.{list-stops, list-wrong, list-more, hops-read, hops-faulty}
use Rattle.netlink_packet_route.specs.NestLists.{IsListAt, ListFaultAt}
use Rattle.netlink_packet_route.proofs.LeftLaws.{left-all, left-on, left-through, hop-on, hop-reached, hops-wrong-alone, left-ends, left-stops, left-wrong}
use Rattle.netlink_packet_route.proofs.LeftLaws.{left-more, left-taken, hop-stops, hop-leads}
use Rattle.netlink_packet_route.specs.Pending.{Pending, AreLeft, LeftWrong, LeftLeads, HopLeads}
use Rattle.netlink_packet_route.specs.Nests.{Inner, holds_hops, reading_of, within}
use Rattle.netlink_packet_route.specs.declared.context.Context.{Context}
use Rattle.netlink_packet_route.proofs.+checking.Goals as goal

-- ---- lists

pub nests::Nest::check-returns-in_err-item-clause-refused : goal.nests::Nest::check-returns-in_err-item-clause-refused
nests::Nest::check-returns-in_err-item-clause-refused t c =
    let p = err_from_is_err_and c.from_residual.result c.from_residual.ensures.1 in
    let e = c.in_err-item.field-0.0 in
    let walk = c.loop-next.walk in
    let step : (0 < length walk) × Fault walk e × (c.next.new.self ≡ []) = rw c.in_err-item.was at c.in-Some.ensures.steps in
    rw (p.1, p.2) (c.loop-next.invariant.faulty e (list-stops c.args.self walk e step.0 step.1))

pub nests::Nest::check-loop-next-preserved : goal.nests::Nest::check-loop-next-preserved
nests::Nest::check-loop-next-preserved t c =
    let item = c.in_ok-item.item in
    let walk = c.loop-next.walk in
    let rest = c.next.new.self in
    let front : Front walk item rest = rw c.in_ok-item.was at c.in-Some.ensures.steps in
    list-more c.args.self c.args.bytes.now walk rest item c.loop-next.invariant front c.in_ok-check_attribute.ensures.ok

pub nests::Nest::check-returns-in_err-check_attribute-clause-refused : goal.nests::Nest::check-returns-in_err-check_attribute-clause-refused
nests::Nest::check-returns-in_err-check_attribute-clause-refused t c =
    let p = err_from_is_err_and c.from_residual-in_err-check_attribute.result c.from_residual-in_err-check_attribute.ensures.1 in
    let e = c.in_err-check_attribute.field-0.0 in
    let item = c.in_ok-item.item in
    let walk = c.loop-next.walk in
    let rest = c.next.new.self in
    let front : Front walk item rest = rw c.in_ok-item.was at c.in-Some.ensures.steps in
    rw (p.1, p.2) (c.loop-next.invariant.faulty e (list-wrong c.args.self walk rest item e front c.in_err-check_attribute.ensures.refused))

-- ---- attributes

pub nests::Nest::check_attribute-returns-then-value-front-clause-refused : goal.nests::Nest::check_attribute-returns-then-value-front-clause-refused
nests::Nest::check_attribute-returns-then-value-front-clause-refused t c =
    let self = c.args.self in
    let item = c.args.item.now in
    let set = c.in-List.set in
    let front = c.in-List.front in
    let form = subst (λ (k : ℕ). ((reading_of self).reading.seeing.form_at k).1 ≡ Listed set front) c.kind.ensures
    (sym (ap (λ (f : At × Form). f.1) c.form-form.ensures) ∙ c.in-List.is) in
    let same = c.value-value.ensures in
    let short : length item.value < front = subst (λ (v : List ℕ). length v < front) same c.if-value-front.true in
    subst (λ (v : List ℕ). (reading_of self).reading.Faulty item (HeaderTooShort (length v) front)) (sym same) (list-cut self item set front form short)

pub nests::Nest::check_attribute-returns-else-value-front-clause-ok : goal.nests::Nest::check_attribute-returns-else-value-front-clause-ok
nests::Nest::check_attribute-returns-else-value-front-clause-ok t c =
    let self = c.args.self in
    let item = c.args.item.now in
    let set = c.in-List.set in
    let front = c.in-List.front in
    let form = subst (λ (k : ℕ). ((reading_of self).reading.seeing.form_at k).1 ≡ Listed set front) c.kind.ensures
    (sym (ap (λ (f : At × Form). f.1) c.form-form.ensures) ∙ c.in-List.is) in
    let same = c.value-value.ensures in
    let long = subst (λ (v : List ℕ). front ≤ length v) same (omega (arith, c.if-value-front.false)) in
    let outer : Context = within self.set self.context in
    let of_outer = subst (λ (d : Context). Inner d set c.value-value.result.now c.inner.result) c.within-outer.ensures c.inner.ensures in
    let named = subst (λ (v : List ℕ). Inner outer set v c.inner.result) same of_outer in
    let rest = behind front c.value-value.result.now ∙ ap (drop front) same in
    IfOk-weaker c.check.result _ _
    (λ u list. list-read self item set front form c.inner.result named long (subst (λ (b : List ℕ). IsListAt c.inner.result b) rest list))
    c.check.ensures.ok

pub nests::Nest::check_attribute-returns-else-value-front-clause-refused : goal.nests::Nest::check_attribute-returns-else-value-front-clause-refused
nests::Nest::check_attribute-returns-else-value-front-clause-refused t c =
    let self = c.args.self in
    let item = c.args.item.now in
    let set = c.in-List.set in
    let front = c.in-List.front in
    let form = subst (λ (k : ℕ). ((reading_of self).reading.seeing.form_at k).1 ≡ Listed set front) c.kind.ensures
    (sym (ap (λ (f : At × Form). f.1) c.form-form.ensures) ∙ c.in-List.is) in
    let same = c.value-value.ensures in
    let long = subst (λ (v : List ℕ). front ≤ length v) same (omega (arith, c.if-value-front.false)) in
    let outer : Context = within self.set self.context in
    let of_outer = subst (λ (d : Context). Inner d set c.value-value.result.now c.inner.result) c.within-outer.ensures c.inner.ensures in
    let named = subst (λ (v : List ℕ). Inner outer set v c.inner.result) same of_outer in
    let rest = behind front c.value-value.result.now ∙ ap (drop front) same in
    IfErr-weaker c.check.result _ _
    (λ e bad. list-faulty self item set front form c.inner.result e named long (subst (λ (b : List ℕ). ListFaultAt c.inner.result b e) rest bad))
    c.check.ensures.refused

pub nests::Nest::check_attribute-returns-then-holds_hops-clause-ok : goal.nests::Nest::check_attribute-returns-then-holds_hops-clause-ok
nests::Nest::check_attribute-returns-then-holds_hops-clause-ok t c =
    let self = c.args.self in
    let item = c.args.item.now in
    let nine = subst (λ (k : ℕ). holds_hops self.set k ≡ true) c.kind-in-Inside.ensures (sym c.holds_hops.ensures ∙ c.if-holds_hops.true) in
    IfOk-weaker c.check_hops.result _ _ (λ u are. hops-read self.set self.context item nine are) (rw c.value-value.ensures at c.check_hops.ensures.ok)

pub nests::Nest::check_attribute-returns-then-holds_hops-clause-refused : goal.nests::Nest::check_attribute-returns-then-holds_hops-clause-refused
nests::Nest::check_attribute-returns-then-holds_hops-clause-refused t c =
    let self = c.args.self in
    let item = c.args.item.now in
    let nine = subst (λ (k : ℕ). holds_hops self.set k ≡ true) c.kind-in-Inside.ensures (sym c.holds_hops.ensures ∙ c.if-holds_hops.true) in
    IfErr-weaker c.check_hops.result _ _ (λ e bad. hops-faulty self.set self.context item e nine bad)
    (rw c.value-value.ensures at c.check_hops.ensures.refused)

pub nests::Nest::check_attribute-returns-else-holds_hops-clause-ok : goal.nests::Nest::check_attribute-returns-else-holds_hops-clause-ok
nests::Nest::check_attribute-returns-else-holds_hops-clause-ok t c =
    let self = c.args.self in
    let item = c.args.item.now in
    let form = subst (λ (k : ℕ). ((reading_of self).reading.seeing.form_at k).1 ≡ Inside) c.kind.ensures
    (sym (ap (λ (f : At × Form). f.1) c.form-form.ensures) ∙ c.in-Inside.is) in
    let other = subst (λ (k : ℕ). holds_hops self.set k ≡ false) c.kind-in-Inside.ensures (sym c.holds_hops.ensures ∙ c.if-holds_hops.false) in
    c.check_reader.ensures.ok (reader-apart self item form other)

pub nests::Nest::check_attribute-returns-else-holds_hops-clause-refused : goal.nests::Nest::check_attribute-returns-else-holds_hops-clause-refused
nests::Nest::check_attribute-returns-else-holds_hops-clause-refused t c =
    let self = c.args.self in
    let item = c.args.item.now in
    let form = subst (λ (k : ℕ). ((reading_of self).reading.seeing.form_at k).1 ≡ Inside) c.kind.ensures
    (sym (ap (λ (f : At × Form). f.1) c.form-form.ensures) ∙ c.in-Inside.is) in
    let other = subst (λ (k : ℕ). holds_hops self.set k ≡ false) c.kind-in-Inside.ensures (sym c.holds_hops.ensures ∙ c.if-holds_hops.false) in
    c.check_reader.ensures.refused (reader-apart self item form other)

pub nests::Nest::check_attribute-returns-in_default : goal.nests::Nest::check_attribute-returns-in_default
nests::Nest::check_attribute-returns-in_default t c =
    let self = c.args.self in
    let item = c.args.item.now in
    let p = c.form-form.result in
    let whole = form-whole p.1 c.in_default.not-List c.in_default.not-Inside in
    let k = c.kind.result in
    let v = c.value-value.result.now in
    record {
      ok = IfOk-weaker c.check_form.result _ _
          (λ u shown. told-read self item p k v c.form-form.ensures c.kind.ensures c.value-value.ensures whole shown) c.check_form.ensures.ok;
      refused = IfErr-weaker c.check_form.result _ _
          (λ e bad. told-wrong self item p k v c.form-form.ensures c.kind.ensures c.value-value.ensures e bad) c.check_form.ensures.refused;
    }

pub nests::Nest::check_hops-returns-clause-refused : goal.nests::Nest::check_hops-returns-clause-refused
nests::Nest::check_hops-returns-clause-refused t c =
    let self = c.args.self in
    let bytes = c.args.bytes.now in
    IfErr-weaker c.check.new.answer _ _ (λ e bad. hops-wrong-alone self bytes e bad) (rw c.next_hops-left.ensures at c.check.ensures.refused)

-- ---- next hops

pub checking::Left::reach_hops-loop-self-init : goal.checking::Left::reach_hops-loop-self-init
checking::Left::reach_hops-loop-self-init t c =
    let here : Pending = record { nest = c.self.inside.nest; hops = c.self.inside.hops.now; rest = c.self.inside.rest } in
    subst (λ (q : Pending). LeftLeads q here) c.self.view_is (left-all here)

pub checking::Left::reach_hops-returns-in_default-clause-end : goal.checking::Left::reach_hops-returns-in_default-clause-end
checking::Left::reach_hops-returns-in_default-clause-end t c =
    let here = c.loop-self.self-inside in
    λ none. left-ends here.nest here.hops.now c.next.new.self none c.in_default.ensures.steps.1

pub checking::Left::reach_hops-returns-in_err-item-clause-refused : goal.checking::Left::reach_hops-returns-in_err-item-clause-refused
checking::Left::reach_hops-returns-in_err-item-clause-refused t c =
    let p = err_from_is_err_and c.from_residual.result c.from_residual.ensures.1 in
    let e = c.in_err-item.field-0.0 in
    let here = c.loop-self.self-inside in
    let none : here.hops.now ≡ [] = nil_from_length here.hops.now (grind (arith, nat_tests)) in
    let step : (0 < length here.rest) × Fault here.rest e × (c.next.new.self ≡ []) = rw c.in_err-item.was at c.in-Some.ensures.steps in
    rw (p.1, p.2) (c.loop-self.invariant.wrong e (left-stops here.nest here.hops.now here.rest none e step.0 step.1))

pub checking::Left::reach_hops-loop-self-preserved-then-holds_hops : goal.checking::Left::reach_hops-loop-self-preserved-then-holds_hops
checking::Left::reach_hops-loop-self-preserved-then-holds_hops t c =
    let item = c.in_ok-item.item in
    let rest = c.next.new.self in
    let here = c.loop-self.self-inside in
    let none : here.hops.now ≡ [] = nil_from_length here.hops.now (grind (arith, nat_tests)) in
    let front : Front here.rest item rest = rw c.in_ok-item.was at c.in-Some.ensures.steps in
    let all : Pending = record { nest = here.nest; hops = here.hops.now; rest = here.rest } in
    let nine = subst (λ (k : ℕ). holds_hops here.nest.set k ≡ true) c.kind.ensures (sym c.holds_hops.ensures ∙ c.if-holds_hops.true) in
    let taken = left-taken here.nest here.hops.now here.rest none item rest front nine in
    let more : Pending = record { nest = here.nest; hops = item.value; rest = rest } in
    rw c.value-self-inside.ensures (left-through c.args.self.now all more c.loop-self.invariant taken)

pub checking::Left::reach_hops-loop-self-preserved : goal.checking::Left::reach_hops-loop-self-preserved
checking::Left::reach_hops-loop-self-preserved t c =
    let item = c.in_ok-item.item in
    let rest = c.next.new.self in
    let here = c.loop-self.self-inside in
    let none : here.hops.now ≡ [] = nil_from_length here.hops.now (grind (arith, nat_tests)) in
    let front : Front here.rest item rest = rw c.in_ok-item.was at c.in-Some.ensures.steps in
    let all : Pending = record { nest = here.nest; hops = here.hops.now; rest = here.rest } in
    let more : Pending = record { nest = here.nest; hops = here.hops.now; rest = rest } in
    left-through c.args.self.now all more c.loop-self.invariant
    (left-more here.nest here.hops.now here.rest none item rest front c.in_ok-check_attribute.ensures.ok)

pub checking::Left::reach_hops-returns-in_err-check_attribute-clause-refused :
    goal.checking::Left::reach_hops-returns-in_err-check_attribute-clause-refused
checking::Left::reach_hops-returns-in_err-check_attribute-clause-refused t c =
    let p = err_from_is_err_and c.from_residual-in_err-check_attribute.result c.from_residual-in_err-check_attribute.ensures.1 in
    let e = c.in_err-check_attribute.field-0.0 in
    let item = c.in_ok-item.item in
    let rest = c.next.new.self in
    let here = c.loop-self.self-inside in
    let none : here.hops.now ≡ [] = nil_from_length here.hops.now (grind (arith, nat_tests)) in
    let front : Front here.rest item rest = rw c.in_ok-item.was at c.in-Some.ensures.steps in
    let bad = c.in_err-check_attribute.ensures.refused in
    rw (p.1, p.2) (c.loop-self.invariant.wrong e (left-wrong here.nest here.hops.now here.rest none item rest front e bad))

pub checking::Left::enter_hop-returns-in_err-attributes-clause-refused : goal.checking::Left::enter_hop-returns-in_err-attributes-clause-refused
checking::Left::enter_hop-returns-in_err-attributes-clause-refused t c =
    let p = err_from_is_err_and c.from_residual.result c.from_residual.ensures.1 in
    let e = c.in_err-attributes.field-0.0 in
    let here = c.self.inside in
    let bad = c.in_err-attributes.ensures.refused in
    rw (p.1, p.2) (subst (λ (q : Pending). 0 < length q.hops → LeftWrong q e) c.self.view_is (λ left. hop-stops here.nest here.hops.now here.rest e left bad))

pub checking::Left::enter_hop-returns-in_err-reach_hops-clause-refused : goal.checking::Left::enter_hop-returns-in_err-reach_hops-clause-refused
checking::Left::enter_hop-returns-in_err-reach_hops-clause-refused t c =
    let p = err_from_is_err_and c.from_residual-in_err-reach_hops.result c.from_residual-in_err-reach_hops.ensures.1 in
    let e = c.in_err-reach_hops.field-0.0 in
    let here = c.self.inside in
    let found = c.in_ok-attributes in
    let (h, front) = found.ensures.ok in
    let step = hop-leads here.nest here.hops.now here.rest h found.attributes.now found.behind.now c.of_next_hop.result front c.of_next_hop.ensures.nest in
    let bad = subst (λ (q : Pending). LeftWrong q e) c.list-inner.ensures c.in_err-reach_hops.ensures.refused in
    rw (p.1, p.2) (subst (λ (q : Pending). 0 < length q.hops → LeftWrong q e) c.self.view_is (λ left. step.wrong e bad))

pub checking::Left::enter_hop-returns-clause-hop : goal.checking::Left::enter_hop-returns-clause-hop
checking::Left::enter_hop-returns-clause-hop t c =
    let here = c.self.inside in
    let found = c.in_ok-attributes in
    let (h, front) = found.ensures.ok in
    let all : Pending = record { nest = here.nest; hops = here.hops.now; rest = here.rest } in
    let behind : Pending = record { nest = here.nest; hops = found.behind.now; rest = here.rest } in
    let first : Pending = record { nest = c.of_next_hop.result; hops = []; rest = found.attributes.now } in
    let step = hop-leads here.nest here.hops.now here.rest h found.attributes.now found.behind.now c.of_next_hop.result front c.of_next_hop.ensures.nest in
    let reached = c.reach_hops.new.self in
    let past : LeftLeads first reached = subst (λ (q : Pending). LeftLeads q reached) c.list-inner.ensures c.in_ok-reach_hops.ensures.ok in
    subst (λ (q : Pending). HopLeads q behind reached) c.self.view_is (hop-reached all behind first reached step past)

pub checking::Left::next_nest-returns-in_err-inner-clause-refused : goal.checking::Left::next_nest-returns-in_err-inner-clause-refused
checking::Left::next_nest-returns-in_err-inner-clause-refused t c =
    let p = err_from_is_err_and c.from_residual-in_err-inner.result c.from_residual-in_err-inner.ensures.1 in
    let e = c.in_err-inner.field-0.0 in
    let some : 0 < length c.self.inside.hops.now = grind (arith, nat_tests) in
    let left = subst (λ (q : Pending). 0 < length q.hops) c.self.view_is some in
    rw (p.1, p.2) (c.loop-self.invariant.leads.wrong e (c.in_err-inner.ensures.refused left))

pub checking::Left::next_nest-returns-then-not-is_empty-clause-hop : goal.checking::Left::next_nest-returns-then-not-is_empty-clause-hop
checking::Left::next_nest-returns-then-not-is_empty-clause-hop t c =
    hop-on c.args.self.now c.loop-self.self c.enter_hop.new.self c.in_ok-inner.inner c.loop-self.invariant.leads c.in_ok-inner.ensures.hop

pub checking::Left::next_nest-loop-self-preserved : goal.checking::Left::next_nest-loop-self-preserved
checking::Left::next_nest-loop-self-preserved t c =
    let all = c.args.self.now in
    let left = c.loop-self.self in
    let behind = c.enter_hop.new.self in
    let inner = c.in_ok-inner.inner in
    let none = subst (λ (q : Pending). q.hops ≡ []) c.inner.view_is (nil_from_length c.inner.inside.hops.now (grind (arith, nat_tests))) in
    let past = left-on all left behind inner c.loop-self.invariant.leads c.in_ok-inner.ensures.hop (c.in_ok-inner.ensures.end none) in
    let more = c.reach_hops-in-loop-self.new.self in
    record { leads = left-through all behind more past c.in_ok-reach_hops-2.ensures.ok; end = c.in_ok-reach_hops-2.ensures.end }

pub checking::Left::next_nest-returns-in_err-reach_hops-2-clause-refused : goal.checking::Left::next_nest-returns-in_err-reach_hops-2-clause-refused
checking::Left::next_nest-returns-in_err-reach_hops-2-clause-refused t c =
    let p = err_from_is_err_and c.from_residual-in_err-reach_hops-2.result c.from_residual-in_err-reach_hops-2.ensures.1 in
    let e = c.in_err-reach_hops-2.field-0.0 in
    let all = c.args.self.now in
    let left = c.loop-self.self in
    let behind = c.enter_hop.new.self in
    let inner = c.in_ok-inner.inner in
    let none = subst (λ (q : Pending). q.hops ≡ []) c.inner.view_is (nil_from_length c.inner.inside.hops.now (grind (arith, nat_tests))) in
    let past = left-on all left behind inner c.loop-self.invariant.leads c.in_ok-inner.ensures.hop (c.in_ok-inner.ensures.end none) in
    rw (p.1, p.2) (past.wrong e c.in_err-reach_hops-2.ensures.refused)

unless_err : {A E : Type 0} (r : Result A E) {P : Type 0} → is_err r ≡ false → IfOk r (λ u. P) → P
unless_err (Ok a) fine p = p
unless_err (Err e) fine p = absurd cc

pub checking::Left::check-returns-then-is_err-clause-refused : goal.checking::Left::check-returns-then-is_err-clause-refused
checking::Left::check-returns-then-is_err-clause-refused t c =
    let step : HopLeads c.loop-inner.self c.goes_on.new.self c.goes_on.new.inner = c.goes_on.ensures.hop c.loop-inner-test.true in
    IfErr-weaker c.check.new.answer _ _ (λ e bad. c.loop-inner.invariant.wrong e (step.wrong e bad)) c.check.ensures.refused

pub checking::Left::check-loop-inner-preserved : goal.checking::Left::check-loop-inner-preserved
checking::Left::check-loop-inner-preserved t c =
    let inner = c.goes_on.new.inner in
    let step : HopLeads c.loop-inner.self c.goes_on.new.self inner = c.goes_on.ensures.hop c.loop-inner-test.true in
    let are : AreLeft inner = unless_err c.check.new.answer (sym c.if-is_err.ensures.value) c.check.ensures.ok in
    left-on c.args.self.now c.loop-inner.self c.goes_on.new.self inner c.loop-inner.invariant step are
