use Rattle.std.specs.Prelude.{◌==◌}
use Rattle.std.proofs.Common.{ℕ, sym, ap, ◌∙◌}
use Rattle.npr_base.specs.Unterminated.{name_told}
use Rattle.npr_tc_values.specs.Form.{form_named}
use Rattle.npr_tc.proofs.attribute.TcAttributeGoverned.told.Goals as goal

pub returns-in-1 : goal.returns-in-1
returns-in-1 c =
    name_told 1 form_named c.args.item.now c.value.result.now c.without_zero.result.now c.form_of_name.result c.value.ensures c.without_zero.ensures
    (ap (λ (k : ℕ). k == 1) (sym c.kind.ensures ∙ c.in-1.is)) c.form_of_name.ensures
