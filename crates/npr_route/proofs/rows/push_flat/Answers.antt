use Rattle.std.specs.Prelude.{Result, Ok, Err, IsOk, IfErr}
use Rattle.std.proofs.Common.{◌≡◌, arith}
use Rattle.std.proofs.lemmas.Result.{IfOk-weaker}
use Rattle.npr_base.specs.Framing.{number_of}
use Rattle.npr_base.proofs.Lists.{set_pushed}
use Rattle.npr_route.specs.Attribute.{typed}
use Rattle.npr_route.specs.AttributeLooks.{value_faulty}
use Rattle.npr_route.specs.AttributeView.{meaning_of}
use Rattle.npr_route.proofs.RowLooks.{looks_read, answered_ok, answered_err}
use Rattle.npr_route.proofs.rows.push_flat.Goals as goal

-- where what is given makes it succeed, a refusal says that it isn't given
unless : {T E : Type 0} (N : Type 0) (r : Result T E) (O Q : E → Type 0) → (N → IsOk r) → IfErr r (λ e. O e → Q e) → IfErr r (λ e. O e → (N → ⊥) × Q e)
unless N (Ok x) O Q n h = tt
unless N (Err e) O Q n h = λ other. ((λ given. let ok = n given in absurd cc), h other)

pub returns-clause-refused : goal.returns-clause-refused
returns-clause-refused c =
    unless (number_of c.args.item.now.kind ≡ 9) c.read_flat.result _ _ c.read_flat.ensures.nine c.read_flat.ensures.refused

pub returns-clause-ok : goal.returns-clause-ok
returns-clause-ok c =
    let place = c.read_flat.new.place in
    let pushed = set_pushed c.args.list.now.items c.push.new.self.items _ place c.len-last.result c.in_ok-push.ensures.items (omega arith) in
    IfOk-weaker c.read_flat.result _ _ (λ _ h. (place, pushed, h)) c.read_flat.ensures.ok

-- ---- the looks

pub returns-clause-read : goal.returns-clause-read
returns-clause-read c =
    let context = typed c.args.context c.args.encap_type in
    answered_ok c.read_flat.result _ _ (λ _ h. looks_read context c.args.item.now (meaning_of c.read_flat.new.place) c.args.looks.now c.read_flat.new.looks c.requires h) c.read_flat.ensures.ok c.read_flat.ensures.exact

pub returns-clause-faulty : goal.returns-clause-faulty
returns-clause-faulty c =
    let refused = unless (number_of c.args.item.now.kind ≡ 9) c.read_flat.result _ _ c.read_flat.ensures.nine c.read_flat.ensures.refused in
    answered_err c.read_flat.result _ _ (λ e w. value_faulty e w.0 w.1) refused c.read_flat.ensures.exact
