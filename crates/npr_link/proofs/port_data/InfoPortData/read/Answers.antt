use Rattle.std.proofs.Common.{map, refl}
use Rattle.npr_link.specs.Vrf as OfVrf
use Rattle.npr_link_bridge.specs.BridgePort as OfBridgePort
use Rattle.npr_link_devices.specs.BondPort as OfBondPort
use Rattle.npr_link.proofs.port_data.InfoPortData.read.Goals as goal

pub returns-in_ok-parse_list-in-Bridge-clause-ok : goal.returns-in_ok-parse_list-in-Bridge-clause-ok
returns-in_ok-parse_list-in-Bridge-clause-ok c =
    let read = c.in_ok-parse_list-in-Bridge in
    rw c.in-Bridge.is (map OfBridgePort.family.meaning read.field-0.items, read.ensures.ok, refl)

pub returns-in_ok-parse_list-in-Vrf-clause-ok : goal.returns-in_ok-parse_list-in-Vrf-clause-ok
returns-in_ok-parse_list-in-Vrf-clause-ok c =
    let read = c.in_ok-parse_list-in-Vrf in
    rw c.in-Vrf.is (map OfVrf.family.meaning read.field-0.items, read.ensures.ok, refl)

pub returns-in_ok-parse_list-in-Bond-clause-ok : goal.returns-in_ok-parse_list-in-Bond-clause-ok
returns-in_ok-parse_list-in-Bond-clause-ok c =
    let read = c.in_ok-parse_list-in-Bond in
    rw c.in-Bond.is (map OfBondPort.family.meaning read.field-0.items, read.ensures.ok, refl)

pub returns-in_ok-read_bytes-in-Kept-clause-ok : goal.returns-in_ok-read_bytes-in-Kept-clause-ok
returns-in_ok-read_bytes-in-Kept-clause-ok c =
    let read = c.in_ok-read_bytes-in-Kept in
    rw c.in-Kept.is (read.field-0.items, read.ensures.ok, refl)
