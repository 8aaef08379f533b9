use Rattle.std.proofs.Common.{◌≡◌, map, refl, rules}
use Rattle.std.proofs.lemmas.Result.{err_from_is_err_and}
use Rattle.npr_base.specs.lemmas.Looks.{none-most}
use Rattle.npr_link.specs.AfSpec as OfAfSpec
use Rattle.npr_link.specs.AfSpecs.{as_list, as_bridge, as_bytes, form_of, unspec, bridge, unknown}
use Rattle.npr_link.specs.AttributeSteps.{unspec_means, bridge_means, unknown_means}
use Rattle.npr_link_bridge.specs.AfSpecBridge as OfAfSpecBridge
use Rattle.npr_link.specs.declared.attribute.LinkAttribute.{LinkAttribute}
use Rattle.npr_link.proofs.header_family.put_af_spec.Goals as goal

pub returns-in_err-parse_list-in-Unspec-clause-refused : goal.returns-in_err-parse_list-in-Unspec-clause-refused
returns-in_err-parse_list-in-Unspec-clause-refused g c =
    let f : form_of c.args.family ≡ as_list = search rules in
    let p = err_from_is_err_and c.from_residual.result c.from_residual.ensures.1 in
    rw (p.1, p.2, f) (λ other. c.in_err-parse_list-in-Unspec.ensures.refused other)

pub returns-in_ok-parse_list-in-Unspec-clause-ok : goal.returns-in_ok-parse_list-in-Unspec-clause-ok
returns-in_ok-parse_list-in-Unspec-clause-ok g c =
    let f : form_of c.args.family ≡ as_list = search rules in
    let v = c.in_ok-parse_list-in-Unspec.field-0 in
    let xs = map OfAfSpec.family.meaning v.items in
    (LinkAttribute.AfSpecUnspec v, unspec xs, c.put.ensures, unspec_means v, rw f (xs, c.in_ok-parse_list-in-Unspec.ensures.ok, refl))

pub returns-in_err-parse_list-in-Bridge-clause-refused : goal.returns-in_err-parse_list-in-Bridge-clause-refused
returns-in_err-parse_list-in-Bridge-clause-refused g c =
    let f : form_of c.args.family ≡ as_bridge = search rules in
    let q = c.from_residual-in_err-parse_list-in-Bridge in
    let p = err_from_is_err_and q.result q.ensures.1 in
    rw (p.1, p.2, f) (λ other. c.in_err-parse_list-in-Bridge.ensures.refused other)

pub returns-in_ok-parse_list-in-Bridge-clause-ok : goal.returns-in_ok-parse_list-in-Bridge-clause-ok
returns-in_ok-parse_list-in-Bridge-clause-ok g c =
    let f : form_of c.args.family ≡ as_bridge = search rules in
    let v = c.in_ok-parse_list-in-Bridge.field-0 in
    let xs = map OfAfSpecBridge.family.meaning v.items in
    (LinkAttribute.AfSpecBridge v, bridge xs, c.put-in-Bridge.ensures, bridge_means v, rw f (xs, c.in_ok-parse_list-in-Bridge.ensures.ok, refl))

pub returns-in_ok-read_bytes-in_default : goal.returns-in_ok-read_bytes-in_default
returns-in_ok-read_bytes-in_default g c =
    let f : form_of c.args.family ≡ as_bytes = search rules in
    let v = c.in_ok-read_bytes-in_default.field-0 in
    record {
      ok = (
        LinkAttribute.AfSpecUnknown v,
        unknown v.items,
        c.put-in_default.ensures,
        unknown_means v,
        rw f (v.items, c.in_ok-read_bytes-in_default.ensures.ok, refl),
      );
      refused = tt;
      exact = λ answered. rw f refl;
      bounded = none-most _ _ _ refl;
    }
