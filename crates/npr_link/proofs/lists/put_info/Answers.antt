use Rattle.std.specs.Prelude.{IfOk}
use Rattle.std.proofs.Common.{List, map, sym, subst}
use Rattle.npr_link.specs.Attribute.{MeansInfo}
use Rattle.npr_link.specs.AttributeSteps.{info_means}
use Rattle.npr_link.specs.Info as OfInfo
use Rattle.npr_link.specs.InfoList.{info_list}
use Rattle.npr_link.specs.declared.attribute.LinkAttribute.{LinkAttribute}
use Rattle.npr_link.proofs.OkAs.{ok_as, answered_from}
use Rattle.npr_link.proofs.lists.put_info.Goals as goal

pub returns-clause-ok : goal.returns-clause-ok
returns-clause-ok g c =
    ok_as c.put_read.result (λ u p.
    let xs = map OfInfo.family.meaning p.0.items in
    let reads = subst (λ r. IfOk r (λ v. info_list.Reads c.args.value.now (map OfInfo.family.meaning v.items))) p.2 c.read_info.ensures.ok in
    (p.1, xs, p.4, subst (λ (a : LinkAttribute). MeansInfo a xs) (sym p.3) (info_means p.0), reads)) c.put_read.ensures.ok

pub returns-clause-exact : goal.returns-clause-exact
returns-clause-exact g c = λ answered.
    c.read_info.ensures.exact
    (answered_from c.read_info.result c.put_read.result (λ u p. (p.0, p.2)) c.put_read.ensures.ok c.put_read.ensures.refused answered)
