use Rattle.std.proofs.Common.{◌++◌, ◌∷◌, []}
use Rattle.npr_base.specs.Framing.{Front}
use Rattle.npr_base.proofs.Lists.{ReadsTo-more}
use Rattle.npr_link_devices.specs.Targets.{IsTarget}
use Rattle.npr_link_devices.proofs.addresses.check_addresses_value.Goals as goal

pub loop-next-preserved : goal.loop-next-preserved
loop-next-preserved g c =
    let size = g.A.Address.size in
    let item = c.in_ok-item.item in
    let rest = c.next.new.self in
    let past = c.loop-next.invariant in
    let f : Front c.loop-next.walk item rest = rw c.in_ok-item.was at c.in-Some.ensures.steps in
    let a = g.A.Address.octets c.in_ok-read.field-0 in
    let reads : IsTarget size item a = rw c.value.ensures at c.in_ok-read.ensures.ok in
    (past.0 ++ a ∷ [], ReadsTo-more (IsTarget size) c.args.bytes.now past.0 c.loop-next.walk item a rest past.1 f reads)
