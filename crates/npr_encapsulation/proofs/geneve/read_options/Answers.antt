use Rattle.std.proofs.Common.{◌≡◌, ◌<◌, Bool, Option, Some, None, refl, [], subst, map, length}
use Rattle.std.proofs.lemmas.Result.{err_from_is_err_and}
use Rattle.npr_base.specs.Counts.{hit, miss}
use Rattle.npr_base.specs.Framing.{Front, Fault}
use Rattle.npr_encapsulation.specs.Geneve.{option_of, WrongChild}
use Rattle.npr_encapsulation.specs.GeneveSteps.{seen, is_some}
use Rattle.npr_encapsulation.specs.declared.geneve.RouteGeneveOpt.{RouteGeneveOpt}
use Rattle.npr_encapsulation.proofs.Groups.{looks-end, looks-cut, looks-faulty, none_read, child_read}
use Rattle.npr_encapsulation.proofs.geneve.read_options.Goals as goal

pub loop-next-init : goal.loop-next-init
loop-next-init c = rw (c.new-walk.ensures, c.new-options.ensures.items) (none_read c.args.bytes.now c.args.looks.now)

pub loop-next-preserved : goal.loop-next-preserved
loop-next-preserved c =
    let child = c.in_ok-child.child in
    let rest = c.next_counted.new.self in
    let f : Front c.loop-next.walk child rest = rw c.in_ok-child.was at c.in-Some.ensures.step in
    let look : c.next_counted.new.looks ≡ hit c.loop-next.looks = rw c.in_ok-child.was at c.in-Some.ensures.counted in
    let read = c.in_ok-closed.ensures.ok in
    rw (look, c.in_ok-close.ensures.ok) (child_read c.args.bytes.now c.args.looks.now c.loop-next.looks (map option_of c.loop-next.options.items) (seen c.loop-next.current) (seen c.in_ok-closed.closed) (option_of c.in_ok-closed.opened) c.loop-next.walk rest child read.0 c.loop-next.invariant f read.1 read.2)

-- ---- the looks

pub returns-clause-exact : goal.returns-clause-exact
returns-clause-exact c = λ answered. c.loop-next.invariant.exact c.next_counted.new.looks (looks-end (is_some (seen c.loop-next.current)) c.loop-next.walk c.loop-next.looks c.next_counted.new.looks c.in_default.ensures.step.0 c.in_default.ensures.counted)

pub returns-in_err-child-clause-exact : goal.returns-in_err-child-clause-exact
returns-in_err-child-clause-exact c = λ answered.
    let e = c.in_err-child.field-0.0 in
    let step : (0 < length c.loop-next.walk) × Fault c.loop-next.walk e × (c.next_counted.new.self ≡ []) = rw c.in_err-child.was at c.in-Some.ensures.step in
    let look : c.next_counted.new.looks ≡ miss c.loop-next.looks = rw c.in_err-child.was at c.in-Some.ensures.counted in
    c.loop-next.invariant.exact c.next_counted.new.looks (looks-cut (is_some (seen c.loop-next.current)) c.loop-next.walk c.loop-next.looks c.next_counted.new.looks e step.0 step.1 look)

some_seen : (o : Option RouteGeneveOpt) → is_some o ≡ is_some (seen o)
some_seen None = refl
some_seen (Some o) = refl

pub returns-in_err-closed-clause-exact : goal.returns-in_err-closed-clause-exact
returns-in_err-closed-clause-exact c =
    let p = err_from_is_err_and c.from_residual-in_err-closed.result c.from_residual-in_err-closed.ensures.1 in
    let child = c.in_ok-child.child in
    let rest = c.next_counted.new.self in
    let f : Front c.loop-next.walk child rest = rw c.in_ok-child.was at c.in-Some.ensures.step in
    let look : c.next_counted.new.looks ≡ hit c.loop-next.looks = rw c.in_ok-child.was at c.in-Some.ensures.counted in
    let e = c.in_err-closed.field-0.0 in
    rw (p.1, p.2) (λ other.
    let wrong = subst (λ (b : Bool). WrongChild b child e) (some_seen c.loop-next.current) (c.in_err-closed.ensures.refused other) in
    c.loop-next.invariant.exact c.next_counted.new.looks (looks-faulty (is_some (seen c.loop-next.current)) c.loop-next.walk rest c.loop-next.looks c.next_counted.new.looks child e f wrong look))
