use Rattle.std.proofs.Common.{◌≡◌, ◌<◌, ◌++◌, ◌∷◌, [], length, map}
use Rattle.std.proofs.lemmas.List.{map_push}
use Rattle.npr_base.specs.Counts.{hit, miss}
use Rattle.npr_base.specs.Framing.{Front, Fault}
use Rattle.npr_link_devices.specs.Targets.{IsTarget, IsNoTarget}
use Rattle.npr_link_devices.proofs.AddressSteps.{one_read, looks-end, looks-cut, looks-faulty}
use Rattle.npr_link_devices.proofs.addresses.read_addresses.Goals as goal

pub loop-next-preserved : goal.loop-next-preserved
loop-next-preserved g c =
    let octets = g.A.Address.octets in
    let done = c.loop-next.addresses.items in
    let a = c.in_ok-address.address in
    let item = c.in_ok-item.item in
    let rest = c.next_counted.new.self in
    let f : Front c.loop-next.walk item rest = rw c.in_ok-item.was at c.in-Some.ensures.step in
    let look : c.next_counted.new.looks ≡ hit c.loop-next.looks = rw c.in_ok-item.was at c.in-Some.ensures.counted in
    let reads : IsTarget g.A.Address.size item (octets a) = rw c.value.ensures at c.in_ok-address.ensures.ok in
    let pushed : map octets c.push.new.self.items ≡ map octets done ++ octets a ∷ [] = rw (c.in_ok-push.ensures.items, c.make_room.ensures.items) (map_push octets done a) in
    rw (look, pushed) (one_read g.A.Address.size c.args.bytes.now c.args.looks.now c.loop-next.looks (map octets done) c.loop-next.walk c.loop-next.invariant rest item (octets a) f reads)

-- ---- the looks

pub returns-clause-exact : goal.returns-clause-exact
returns-clause-exact g c = λ answered.
    looks-end g.A.Address.size c.args.bytes.now c.args.looks.now c.loop-next.looks (map g.A.Address.octets c.loop-next.addresses.items) c.loop-next.walk
    c.loop-next.invariant c.next_counted.new.looks c.in_default.ensures.step.0 c.in_default.ensures.counted

pub returns-in_err-item-clause-exact : goal.returns-in_err-item-clause-exact
returns-in_err-item-clause-exact g c = λ answered.
    let e = c.in_err-item.field-0.0 in
    let step : (0 < length c.loop-next.walk) × Fault c.loop-next.walk e × (c.next_counted.new.self ≡ []) = rw c.in_err-item.was at c.in-Some.ensures.step in
    let look : c.next_counted.new.looks ≡ miss c.loop-next.looks = rw c.in_err-item.was at c.in-Some.ensures.counted in
    looks-cut g.A.Address.size c.args.bytes.now c.args.looks.now c.loop-next.looks (map g.A.Address.octets c.loop-next.addresses.items) c.loop-next.walk
    c.loop-next.invariant c.next_counted.new.looks e step.0 step.1 look

pub returns-in_err-address-clause-exact : goal.returns-in_err-address-clause-exact
returns-in_err-address-clause-exact g c = λ answered.
    let e = c.in_err-address.field-0.0 in
    let item = c.in_ok-item.item in
    let rest = c.next_counted.new.self in
    let f : Front c.loop-next.walk item rest = rw c.in_ok-item.was at c.in-Some.ensures.step in
    let look : c.next_counted.new.looks ≡ hit c.loop-next.looks = rw c.in_ok-item.was at c.in-Some.ensures.counted in
    let bad : IsNoTarget g.A.Address.size c.args.at item e = rw c.value.ensures at c.in_err-address.ensures.refused in
    looks-faulty g.A.Address.size c.args.bytes.now c.args.looks.now c.loop-next.looks (map g.A.Address.octets c.loop-next.addresses.items) c.loop-next.walk
    c.loop-next.invariant c.next_counted.new.looks rest item c.args.at e f bad look
