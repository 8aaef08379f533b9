use Rattle.std.specs.Prelude.{Option, Some, None}
use Rattle.std.proofs.Common.{◌≡◌, ℕ, sym, subst, ap, ◌∙◌, inr}
use Rattle.npr_base.specs.declared.attribute_set.At.{At}
use Rattle.npr_base.specs.declared.value.Form.{Form}
use Rattle.netlink_packet_route.specs.Nests.{listed, nest_in, reading_of}
use Rattle.netlink_packet_route.specs.Stops.{AreLengths, IsApart, form_at}
use Rattle.netlink_packet_route.specs.declared.nests.Nest.{Nest}
use Rattle.npr_names.specs.Refusals.{lengths_told}
use Rattle.netlink_packet_route.proofs.locating.lengths_at.Goals as goal

-- by the answer
are_lengths : (nest : Nest) (at : At) (found : Option (ℕ × ℕ)) → (IsApart (nest_in (listed at.set) nest.context) at.set → ⊥)
    → lengths_told (form_at nest at) ≡ found → AreLengths nest at found
are_lengths nest at (Some lengths) apart told = (apart, told)
are_lengths nest at None apart told = inr told

pub returns : goal.returns
returns c =
    let nest = c.args.nest in
    let at = c.args.at in
    let list = c.new-inner.ensures in
    let read = c.form-form.ensures ∙ ap (λ (n : Nest). (reading_of n).reading.seeing.form_at at.number) list in
    are_lengths nest at c.lengths_of.result
    (subst (λ (n : Nest). IsApart n at.set → ⊥) list (c.is_apart.ensures.not c.if-is_apart.false))
    (sym (c.lengths_of.ensures.told ∙ ap (λ (x : At × Form). lengths_told x.1) read))
