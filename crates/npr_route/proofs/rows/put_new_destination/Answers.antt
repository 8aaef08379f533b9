use Rattle.std.proofs.Common.{refl}
use Rattle.std.proofs.lemmas.Result.{err_from_is_err_and}
use Rattle.npr_route_values.specs.RouteAddress.{address_of}
use Rattle.npr_route.specs.FlatAttribute as Flat
use Rattle.npr_route.proofs.RouteRows.{address_reads, address_wrong}
use Rattle.npr_route.proofs.Views.{view_new_destination, view_new_destination_address}
use Rattle.npr_route.proofs.rows.put_new_destination.Goals as goal

pub returns-in_ok-labels-in-Mpls-clause-ok : goal.returns-in_ok-labels-in-Mpls-clause-ok
returns-in_ok-labels-in-Mpls-clause-ok c =
    let v = c.in_ok-labels-in-Mpls.labels in
    rw (c.put.ensures, c.in-Mpls.is) (Flat.new_destination v.items, (v.items, c.in_ok-labels-in-Mpls.ensures.ok, refl), view_new_destination v)

pub returns-in_ok-address-in_default : goal.returns-in_ok-address-in_default
returns-in_ok-address-in_default c =
    let a = c.in_ok-address-in_default.address in
    record {
      ok = rw c.put-in_default.ensures (Flat.new_destination_address (address_of a), address_reads c.args.family c.in_default.not-Mpls c.args.value.now (address_of a) c.in_ok-address-in_default.ensures.ok, view_new_destination_address a);
      refused = tt;
    }

pub returns-in_err-address-in_default : goal.returns-in_err-address-in_default
returns-in_err-address-in_default c =
    let p = err_from_is_err_and c.from_residual-in_err-address-in_default.result c.from_residual-in_err-address-in_default.ensures.1 in
    let h = rw c.at.ensures at c.in_err-address-in_default.ensures.refused in
    record {
      ok = rw p.1 tt;
      refused = rw (p.1, p.2) (λ other. address_wrong c.args.family c.in_default.not-Mpls c.args.value.now _ (h other));
    }
