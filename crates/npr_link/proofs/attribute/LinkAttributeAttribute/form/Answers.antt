use Rattle.std.proofs.Common.{ap, sym, ◌∙◌}
use Rattle.npr_base.specs.declared.attribute_set.At.{At}
use Rattle.npr_base.specs.declared.value.Form.TheVariants.{Raw}
use Rattle.npr_link.specs.AfSpecs.{form_of}
use Rattle.npr_link.specs.ProtoInfos.{form_of as proto_form_of}
use Rattle.npr_link.proofs.Unlisted.{form-kept}
use Rattle.npr_link.proofs.attribute.LinkAttributeAttribute.form.Goals as goal

pub returns-in_default : goal.returns-in_default
returns-in_default c =
    ap (λ (a : At). (a, Raw)) c.form_rows-at.ensures
    ∙ sym (form-kept (proto_form_of c.args.family) (form_of c.args.family) c.args.number c.in_default.in_default-own.rest)
