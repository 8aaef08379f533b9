use Rattle.std.specs.Prelude.{◌==◌}
use Rattle.std.proofs.Common.{ℕ, sym, ap, ◌∙◌}
use Rattle.npr_link.specs.PortKind.{form_named}
use Rattle.npr_base.specs.Unterminated.{name_told}
use Rattle.npr_link.proofs.info_list.port_told.Goals as goal

pub returns-in-4 : goal.returns-in-4
returns-in-4 c =
    name_told 4 form_named c.args.item.now c.value.result.now c.without_zero.result.now c.form_of_name.result c.value.ensures c.without_zero.ensures
    (ap (λ (k : ℕ). k == 4) (sym c.kind.ensures ∙ c.in-4.is)) c.form_of_name.ensures
