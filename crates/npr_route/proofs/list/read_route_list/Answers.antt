use Rattle.std.proofs.Common.{map}
use Rattle.std.proofs.lemmas.Result.{IfErr-weaker}
use Rattle.npr_base.specs.lemmas.FirstTold.{searched}
use Rattle.npr_base.specs.lemmas.LookBounds.{searched-read, searched-saw_ok}
use Rattle.npr_base.specs.Lists.{list_members}
use Rattle.npr_encapsulation.specs.declared.encap_type.RouteLwEnCapType.TheVariants.{None as NoEncapsulation}
use Rattle.npr_route.specs.AttributeView.{meaning_of}
use Rattle.npr_route.specs.AttributeFamily.{attributes, writing}
use Rattle.npr_route.specs.Governing.{item_type}
use Rattle.npr_route.specs.lemmas.RouteList.{route-list-sound}
use Rattle.npr_route.proofs.list.read_route_list.Goals as goal

pub returns-clause-none : goal.returns-clause-none
returns-clause-none c =
    IfErr-weaker c.parse_list.result _ _
    (λ e refused other xs is. route-list-sound c.args.under c.args.bytes.now xs e is (c.governing_type-encap_type.result, c.governing_type-encap_type.ensures.governs, refused other))
    c.parse_list.ensures.refused

pub returns-clause-bounded : goal.returns-clause-bounded
returns-clause-bounded c =
    let looks = c.governing_type-encap_type.new.looks in
    let s = searched item_type NoEncapsulation c.args.bytes.now c.governing_type-encap_type.result c.args.looks.now looks c.governing_type-encap_type.ensures.looks in
    searched-read c.args.bytes.now c.args.looks.now looks c.parse_list.new.looks s c.parse_list.ensures.walked

pub returns-clause-counted : goal.returns-clause-counted
returns-clause-counted c =
    let looks = c.governing_type-encap_type.new.looks in
    let s = searched item_type NoEncapsulation c.args.bytes.now c.governing_type-encap_type.result c.args.looks.now looks c.governing_type-encap_type.ensures.looks in
    searched-saw_ok (λ v. map meaning_of v.items) (list_members writing.members) (attributes (c.args.under.0, c.args.under.1, c.governing_type-encap_type.result)).Reads c.args.bytes.now
    c.args.looks.now looks c.parse_list.new.looks s c.parse_list.result c.parse_list.ensures.ok c.parse_list.ensures.counted

pub returns-clause-exact : goal.returns-clause-exact
returns-clause-exact c = λ answered. (c.governing_type-encap_type.result, c.governing_type-encap_type.new.looks, c.governing_type-encap_type.ensures.looks, c.parse_list.ensures.exact answered)
