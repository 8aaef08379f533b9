use Rattle.std.proofs.Common.{◌≡◌, ℕ, List, sym, ◌∙◌}
use Rattle.std.proofs.lemmas.Result.{IfOk-weaker}
use Rattle.npr_base.specs.Framing.{Item, number_of}
use Rattle.npr_base.specs.Tables.{value_at}
use Rattle.npr_link_devices.specs.Addresses.{AreAddresses}
use Rattle.npr_link_devices.specs.Bond.{table, attributes}
use Rattle.npr_link_devices.proofs.bond.InfoBond.check_apart.Goals as goal

-- targets, in the row of their number
arp_read : (x : Item) (xs : List (List ℕ)) → number_of x.kind ≡ 8 → AreAddresses 4 x.value xs → attributes.Reads x (value_at table 8 xs)
unfolding attributes
arp_read x xs number are = rw number are

ns_read : (x : Item) (xs : List (List ℕ)) → number_of x.kind ≡ 31 → AreAddresses 16 x.value xs → attributes.Reads x (value_at table 31 xs)
unfolding attributes
ns_read x xs number are = rw number are

pub returns-in-8-clause-ok : goal.returns-in-8-clause-ok
returns-in-8-clause-ok c =
    let x = c.args.item.now in
    let number : number_of x.kind ≡ 8 = sym c.kind-number.ensures ∙ c.in-8.is in
    let read = rw c.value.ensures at c.check_addresses_value.ensures.ok in
    IfOk-weaker c.check_addresses_value.result _ _ (λ u xs. (value_at table 8 xs.0, arp_read x xs.0 number xs.1)) read

pub returns-in-31-clause-ok : goal.returns-in-31-clause-ok
returns-in-31-clause-ok c =
    let x = c.args.item.now in
    let number : number_of x.kind ≡ 31 = sym c.kind-number.ensures ∙ c.in-31.is in
    let read = rw c.value-in-31.ensures at c.check_addresses_value-in-31.ensures.ok in
    IfOk-weaker c.check_addresses_value-in-31.result _ _ (λ u xs. (value_at table 31 xs.0, ns_read x xs.0 number xs.1)) read
