use Rattle.std.proofs.Common.{◌∙◌, sym}
use Rattle.std.proofs.lemmas.Bool.{not-false}
use Rattle.npr_base.specs.contracts.attribute_set.AttributeSet.{the_type as sets}
use denote.Enum.Bare.{sameb, same_true}
use Rattle.netlink_packet_route.proofs.locating.is_apart.Goals as goal

pub returns-then-matches-clause-not : goal.returns-then-matches-clause-not
returns-then-matches-clause-not c = λ no apart.
    let told = c.told_set.result in
    let same = not-false (sameb sets told c.args.set) (sym c.ne.ensures ∙ no) in
    apart.1 (sym c.told_set.ensures ∙ same_true sets tt told c.args.set same)
