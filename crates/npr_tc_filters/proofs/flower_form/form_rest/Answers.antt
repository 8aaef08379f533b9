use Rattle.std.proofs.Common.{refl, sym, ap, ◌∙◌}
use Rattle.npr_base.specs.declared.attribute_set.At.{At}
use Rattle.npr_base.specs.declared.attribute_set.AttributeSet.TheVariants.{TcFilterFlower as AtFlower}
use Rattle.npr_base.specs.declared.value.Form.TheVariants.{Raw}
use Rattle.npr_tc_filters.specs.Flower.{table, no_row}
use Rattle.npr_tc_filters.specs.contracts.flower_option.TcFilterFlowerOption.{enum}
use Rattle.npr_base.proofs.OtherRows.{other-form}
use Rattle.npr_tc_filters.proofs.flower_form.form_rest.Goals as goal

pub returns : goal.returns
returns c =
    ap (λ (a : At). (a, Raw)) c.at.ensures
    ∙ sym (other-form no_row c.args.number c.requires AtFlower enum.parts table.rows refl)
