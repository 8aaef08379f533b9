use Rattle.std.proofs.Common.{◌≡◌, map, refl, ap, rules}
use Rattle.std.proofs.lemmas.Result.{err_from_is_err_and}
use Rattle.npr_base.specs.lemmas.Looks.{none-most}
use Rattle.npr_link.specs.AfSpecInet6 as OfAfSpecInet6
use Rattle.npr_link.specs.AttributeSteps.{inet6_means, port_means, whole_means}
use Rattle.npr_link.specs.ProtoInfos.{as_inet6, as_bridge, as_whole, form_of, inet6, bridge, unknown}
use Rattle.npr_link_bridge.specs.BridgePort as OfBridgePort
use Rattle.npr_link.specs.declared.attribute.LinkAttribute.{LinkAttribute}
use Rattle.npr_link.proofs.header_family.put_proto_info.Goals as goal

pub returns-in_err-parse_list-in-Inet6-clause-refused : goal.returns-in_err-parse_list-in-Inet6-clause-refused
returns-in_err-parse_list-in-Inet6-clause-refused g c =
    let f : form_of c.args.family ≡ as_inet6 = search rules in
    let p = err_from_is_err_and c.from_residual.result c.from_residual.ensures.1 in
    let wrong = rw c.value.ensures at c.in_err-parse_list-in-Inet6.ensures.refused in
    rw (p.1, p.2, f) (λ other. wrong other)

pub returns-in_err-parse_list-in-Inet6-clause-exact : goal.returns-in_err-parse_list-in-Inet6-clause-exact
returns-in_err-parse_list-in-Inet6-clause-exact g c =
    let f : form_of c.args.family ≡ as_inet6 = search rules in
    let p = err_from_is_err_and c.from_residual.result c.from_residual.ensures.1 in
    let looks = rw c.value.ensures at c.in_err-parse_list-in-Inet6.ensures.exact in
    rw (p.1, p.2, f) (λ answered. looks answered)

pub returns-in_ok-parse_list-in-Inet6-clause-ok : goal.returns-in_ok-parse_list-in-Inet6-clause-ok
returns-in_ok-parse_list-in-Inet6-clause-ok g c =
    let f : form_of c.args.family ≡ as_inet6 = search rules in
    let v = c.in_ok-parse_list-in-Inet6.field-0 in
    let xs = map OfAfSpecInet6.family.meaning v.items in
    let reads = rw c.value.ensures at c.in_ok-parse_list-in-Inet6.ensures.ok in
    (LinkAttribute.ProtoInfoInet6 v, inet6 xs, c.put.ensures, inet6_means v, rw f (xs, reads, refl))

pub returns-in_ok-parse_list-in-Inet6-clause-exact : goal.returns-in_ok-parse_list-in-Inet6-clause-exact
returns-in_ok-parse_list-in-Inet6-clause-exact g c =
    let f : form_of c.args.family ≡ as_inet6 = search rules in
    let looks = rw c.value.ensures at c.in_ok-parse_list-in-Inet6.ensures.exact in
    λ answered. rw f (looks tt)

pub returns-in_err-parse_list-in-Bridge-clause-exact : goal.returns-in_err-parse_list-in-Bridge-clause-exact
returns-in_err-parse_list-in-Bridge-clause-exact g c =
    let f : form_of c.args.family ≡ as_bridge = search rules in
    let q = c.from_residual-in_err-parse_list-in-Bridge in
    let p = err_from_is_err_and q.result q.ensures.1 in
    let looks = rw c.value-in-Bridge.ensures at c.in_err-parse_list-in-Bridge.ensures.exact in
    rw (p.1, p.2, f) (λ answered. looks answered)

pub returns-in_ok-parse_list-in-Bridge-clause-ok : goal.returns-in_ok-parse_list-in-Bridge-clause-ok
returns-in_ok-parse_list-in-Bridge-clause-ok g c =
    let f : form_of c.args.family ≡ as_bridge = search rules in
    let v = c.in_ok-parse_list-in-Bridge.field-0 in
    let xs = map OfBridgePort.family.meaning v.items in
    let reads = rw c.value-in-Bridge.ensures at c.in_ok-parse_list-in-Bridge.ensures.ok in
    (LinkAttribute.ProtoInfoBridge v, bridge xs, c.put-in-Bridge.ensures, port_means v, rw f (xs, reads, refl))

pub returns-in_ok-parse_list-in-Bridge-clause-exact : goal.returns-in_ok-parse_list-in-Bridge-clause-exact
returns-in_ok-parse_list-in-Bridge-clause-exact g c =
    let f : form_of c.args.family ≡ as_bridge = search rules in
    let looks = rw c.value-in-Bridge.ensures at c.in_ok-parse_list-in-Bridge.ensures.exact in
    λ answered. rw f (looks tt)

pub returns-in_ok-read-in_default : goal.returns-in_ok-read-in_default
returns-in_ok-read-in_default g c =
    let f : form_of c.args.family ≡ as_whole = search rules in
    let x = c.in_ok-read-in_default.field-0 in
    let is = c.in_ok-read-in_default.ensures.ok in
    record {
      ok = (
        LinkAttribute.ProtoInfoUnknown x,
        unknown x,
        c.put-in_default.ensures,
        whole_means x,
        rw f (ap unknown is),
      );
      refused = tt;
      exact = λ answered. rw f refl;
      bounded = none-most _ _ _ refl;
    }
