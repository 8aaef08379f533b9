use Rattle.std.proofs.Common.{refl, ap}
use Rattle.std.proofs.lemmas.Result.{err_from_is_err_and}
use Rattle.npr_base.specs.lemmas.Looks.{none-most}
use Rattle.npr_tc.specs.Options.{options, options_of, unknown}
use Rattle.npr_tc.specs.lemmas.Steps.{data_read, data_looks, data_wrong, options_mean, unknown_means}
use Rattle.npr_tc.specs.declared.attribute.TcAttribute.{TcAttribute}
use Rattle.npr_tc.proofs.attribute.put_options.Goals as goal

pub returns-in_ok-read-in-Kept : goal.returns-in_ok-read-in-Kept
returns-in_ok-read-in-Kept g c =
    let x = c.in_ok-read-in-Kept.field-0 in
    let is = c.in_ok-read-in-Kept.ensures.ok in
    record {
      ok = (TcAttribute.OptionsUnknown x, unknown x, c.put.ensures, unknown_means x, rw c.in-Kept.is (ap unknown is));
      refused = tt;
      exact = λ answered. rw c.in-Kept.is refl;
      bounded = none-most _ _ _ refl;
    }

pub returns-in_err-options-in_default-clause-refused : goal.returns-in_err-options-in_default-clause-refused
returns-in_err-options-in_default-clause-refused g c =
    let p = err_from_is_err_and c.from_residual-in_err-options-in_default.result c.from_residual-in_err-options-in_default.ensures.1 in
    let wrong = rw c.value.ensures at c.in_err-options-in_default.ensures.refused in
    rw (p.1, p.2) (λ other. data_wrong c.args.form c.args.item.now _ (wrong other))

pub returns-in_err-options-in_default-clause-exact : goal.returns-in_err-options-in_default-clause-exact
returns-in_err-options-in_default-clause-exact g c =
    let p = err_from_is_err_and c.from_residual-in_err-options-in_default.result c.from_residual-in_err-options-in_default.ensures.1 in
    let looks = rw c.value.ensures at c.in_err-options-in_default.ensures.exact in
    rw (p.1, p.2) (λ answered. data_looks c.args.form c.args.item.now _ _ (looks answered))

pub returns-in_ok-options-in_default-clause-ok : goal.returns-in_ok-options-in_default-clause-ok
returns-in_ok-options-in_default-clause-ok g c =
    let o = c.in_ok-options-in_default.options in
    let reads = rw c.value.ensures at c.in_ok-options-in_default.ensures.ok in
    (TcAttribute.Options o, options (options_of o), c.put-in_default.ensures, options_mean o, data_read c.args.form c.args.item.now (options_of o) reads)

pub returns-in_ok-options-in_default-clause-exact : goal.returns-in_ok-options-in_default-clause-exact
returns-in_ok-options-in_default-clause-exact g c =
    let looks = rw c.value.ensures at c.in_ok-options-in_default.ensures.exact in
    λ answered. data_looks c.args.form c.args.item.now _ _ (looks tt)
