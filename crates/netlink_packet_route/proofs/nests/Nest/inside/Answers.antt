use Rattle.std.proofs.Common.{sym, ap, subst, ◌∙◌, arith}
use Rattle.npr_base.specs.declared.attribute_set.At.{At}
use Rattle.npr_base.specs.declared.value.Form.{Form}
use Rattle.netlink_packet_route.specs.Nests.{Inner}
use Rattle.netlink_packet_route.specs.declared.context.Context.{Context}
use Rattle.netlink_packet_route.proofs.ValueReading.{behind}
use Rattle.netlink_packet_route.proofs.NumberLaws.{inner-bytes}
use Rattle.netlink_packet_route.proofs.nests.Nest.inside.Goals as goal

pub returns-else-value-front-clause-inside : goal.returns-else-value-front-clause-inside
returns-else-value-front-clause-inside c = record {
  set = c.in-List.set;
  front = c.in-List.front;
  form = sym (ap (λ (f : At × Form). f.1) c.form-form.ensures) ∙ c.in-List.is;
  long = omega (arith, c.if-value-front.false);
  named = subst (λ (d : Context). Inner d c.in-List.set c.args.value.now c.inner.result) c.within-outer.ensures c.inner.ensures;
  is = behind c.in-List.front c.args.value.now;
}

pub returns-else-value-front-clause-numbers : goal.returns-else-value-front-clause-numbers
returns-else-value-front-clause-numbers c =
    let named = subst (λ (d : Context). Inner d c.in-List.set c.args.value.now c.inner.result) c.within-outer.ensures c.inner.ensures in
    λ from. inner-bytes c.in-List.set c.args.self c.args.value.now c.inner.result named from
