use Rattle.std.proofs.Common.{arith, refl, subst, sym}
use Rattle.npr_base.specs.declared.address_family.AddressFamily.{AddressFamily}
use Rattle.npr_base.specs.declared.attribute_set.AttributeSet.TheVariants as At
use Rattle.netlink_packet_route.specs.MessageKind.{begun, form_of, of_family}
use Rattle.netlink_packet_route.specs.Nests.{FromBytes}
use Rattle.netlink_packet_route.proofs.NumberLaws.{link-bytes, link-number, neighbour-bytes, neighbour-number, next-hop-bytes}
use Rattle.netlink_packet_route.proofs.NumberLaws.{plain-bytes, route-bytes, tc-bytes}
use Rattle.netlink_packet_route.specs.declared.kind.MessageKind.TheVariants as Kind
use Rattle.netlink_packet_route.proofs.nests.Nest.begin.Goals as goal

pub returns-in_ok-attributes-in-Address-clause-ok : goal.returns-in_ok-attributes-in-Address-clause-ok
returns-in_ok-attributes-in-Address-clause-ok c =
    let found = c.in_ok-attributes-in-Address in
    let (h, reads, behind, governs) = found.ensures.ok in
    rw c.in-Address.is (begun (form_of Kind.Address) c.args.bytes.now h found.attributes.now tt reads behind refl)

pub returns-in_ok-attributes-in-Address-clause-numbers : goal.returns-in_ok-attributes-in-Address-clause-numbers
returns-in_ok-attributes-in-Address-clause-numbers c = plain-bytes At.Address refl refl

pub returns-in_ok-attributes-in-Rule-clause-ok : goal.returns-in_ok-attributes-in-Rule-clause-ok
returns-in_ok-attributes-in-Rule-clause-ok c =
    let found = c.in_ok-attributes-in-Rule in
    let (h, reads, behind, governs) = found.ensures.ok in
    rw c.in-Rule.is (begun (form_of Kind.Rule) c.args.bytes.now h found.attributes.now tt reads behind refl)

pub returns-in_ok-attributes-in-Rule-clause-numbers : goal.returns-in_ok-attributes-in-Rule-clause-numbers
returns-in_ok-attributes-in-Rule-clause-numbers c = plain-bytes At.Rule refl refl

pub returns-in_ok-attributes-in-Nsid-clause-ok : goal.returns-in_ok-attributes-in-Nsid-clause-ok
returns-in_ok-attributes-in-Nsid-clause-ok c =
    let found = c.in_ok-attributes-in-Nsid in
    let (h, reads, behind, governs) = found.ensures.ok in
    rw c.in-Nsid.is (begun (form_of Kind.Nsid) c.args.bytes.now h found.attributes.now tt reads behind refl)

pub returns-in_ok-attributes-in-Nsid-clause-numbers : goal.returns-in_ok-attributes-in-Nsid-clause-numbers
returns-in_ok-attributes-in-Nsid-clause-numbers c = plain-bytes At.Nsid refl refl

pub returns-in_ok-attributes-in-Netconf-clause-ok : goal.returns-in_ok-attributes-in-Netconf-clause-ok
returns-in_ok-attributes-in-Netconf-clause-ok c =
    let found = c.in_ok-attributes-in-Netconf in
    let (h, reads, behind, governs) = found.ensures.ok in
    rw c.in-Netconf.is (begun (form_of Kind.Netconf) c.args.bytes.now h found.attributes.now tt reads behind refl)

pub returns-in_ok-attributes-in-Netconf-clause-numbers : goal.returns-in_ok-attributes-in-Netconf-clause-numbers
returns-in_ok-attributes-in-Netconf-clause-numbers c = plain-bytes At.Netconf refl refl

pub returns-in_ok-attributes-in-AddressLabel-clause-ok : goal.returns-in_ok-attributes-in-AddressLabel-clause-ok
returns-in_ok-attributes-in-AddressLabel-clause-ok c =
    let found = c.in_ok-attributes-in-AddressLabel in
    let (h, reads, behind, governs) = found.ensures.ok in
    rw c.in-AddressLabel.is (begun (form_of Kind.AddressLabel) c.args.bytes.now h found.attributes.now tt reads behind refl)

pub returns-in_ok-attributes-in-AddressLabel-clause-numbers : goal.returns-in_ok-attributes-in-AddressLabel-clause-numbers
returns-in_ok-attributes-in-AddressLabel-clause-numbers c = plain-bytes At.AddressLabel refl refl

pub returns-in_ok-attributes-in-NeighbourTable-clause-ok : goal.returns-in_ok-attributes-in-NeighbourTable-clause-ok
returns-in_ok-attributes-in-NeighbourTable-clause-ok c =
    let found = c.in_ok-attributes-in-NeighbourTable in
    let (h, reads, behind, governs) = found.ensures.ok in
    rw c.in-NeighbourTable.is (begun (form_of Kind.NeighbourTable) c.args.bytes.now h found.attributes.now tt reads behind refl)

pub returns-in_ok-attributes-in-NeighbourTable-clause-numbers : goal.returns-in_ok-attributes-in-NeighbourTable-clause-numbers
returns-in_ok-attributes-in-NeighbourTable-clause-numbers c = plain-bytes At.NeighbourTable refl refl

pub returns-in_ok-attributes-in-Prefix-clause-ok : goal.returns-in_ok-attributes-in-Prefix-clause-ok
returns-in_ok-attributes-in-Prefix-clause-ok c =
    let found = c.in_ok-attributes-in-Prefix in
    let (h, reads, behind, governs) = found.ensures.ok in
    rw c.in-Prefix.is (begun (form_of Kind.Prefix) c.args.bytes.now h found.attributes.now tt reads behind refl)

pub returns-in_ok-attributes-in-Prefix-clause-numbers : goal.returns-in_ok-attributes-in-Prefix-clause-numbers
returns-in_ok-attributes-in-Prefix-clause-numbers c = plain-bytes At.Prefix refl refl

pub returns-in_ok-attributes-in-Stats-clause-ok : goal.returns-in_ok-attributes-in-Stats-clause-ok
returns-in_ok-attributes-in-Stats-clause-ok c =
    let found = c.in_ok-attributes-in-Stats in
    let (h, reads, behind, governs) = found.ensures.ok in
    rw c.in-Stats.is (begun (form_of Kind.Stats) c.args.bytes.now h found.attributes.now tt reads behind refl)

pub returns-in_ok-attributes-in-Stats-clause-numbers : goal.returns-in_ok-attributes-in-Stats-clause-numbers
returns-in_ok-attributes-in-Stats-clause-numbers c = plain-bytes At.Stats refl refl

pub returns-in_ok-attributes-in-TcAction-clause-ok : goal.returns-in_ok-attributes-in-TcAction-clause-ok
returns-in_ok-attributes-in-TcAction-clause-ok c =
    let found = c.in_ok-attributes-in-TcAction in
    let (h, reads, behind, governs) = found.ensures.ok in
    rw c.in-TcAction.is (begun (form_of Kind.TcAction) c.args.bytes.now h found.attributes.now tt reads behind refl)

pub returns-in_ok-attributes-in-TcAction-clause-numbers : goal.returns-in_ok-attributes-in-TcAction-clause-numbers
returns-in_ok-attributes-in-TcAction-clause-numbers c = plain-bytes At.TcActionMessage refl refl

pub returns-in_ok-tc-in-Tc-clause-ok : goal.returns-in_ok-tc-in-Tc-clause-ok
returns-in_ok-tc-in-Tc-clause-ok c =
    let found = c.in_ok-tc-in-Tc in
    let (h, reads, behind, governs) = found.ensures.ok in
    rw c.in-Tc.is (begun (form_of Kind.Tc) c.args.bytes.now h found.attributes.now found.tc reads behind governs)

pub returns-in_ok-tc-in-Tc-clause-numbers : goal.returns-in_ok-tc-in-Tc-clause-numbers
returns-in_ok-tc-in-Tc-clause-numbers c = tc-bytes c.in_ok-tc-in-Tc.tc

pub returns-in_ok-told-in-Route-clause-ok : goal.returns-in_ok-told-in-Route-clause-ok
returns-in_ok-told-in-Route-clause-ok c =
    let found = c.in_ok-told-in-Route in
    let (h, reads, behind, governs) = found.ensures.ok in
    rw c.in-Route.is (begun (form_of Kind.Route) c.args.bytes.now h found.attributes.now found.told reads behind governs)

pub returns-in_ok-told-in-Route-clause-numbers : goal.returns-in_ok-told-in-Route-clause-numbers
returns-in_ok-told-in-Route-clause-numbers c =
    let found = c.in_ok-told-in-Route in
    let (h, reads, behind, governs) = found.ensures.ok in
    route-bytes c.args.bytes.now h found.attributes.now found.told (λ i. omega (arith, c.type_inv.bytes i)) reads behind governs

pub returns-in_ok-told-in-NextHop-clause-ok : goal.returns-in_ok-told-in-NextHop-clause-ok
returns-in_ok-told-in-NextHop-clause-ok c =
    let found = c.in_ok-told-in-NextHop in
    let (h, reads, behind, governs) = found.ensures.ok in
    rw c.in-NextHop.is (begun (form_of Kind.NextHop) c.args.bytes.now h found.attributes.now found.told reads behind governs)

pub returns-in_ok-told-in-NextHop-clause-numbers : goal.returns-in_ok-told-in-NextHop-clause-numbers
returns-in_ok-told-in-NextHop-clause-numbers c =
    let found = c.in_ok-told-in-NextHop in
    let (h, reads, behind, governs) = found.ensures.ok in
    next-hop-bytes c.args.bytes.now h found.attributes.now found.told (λ i. omega (arith, c.type_inv.bytes i)) reads behind governs

pub returns-in_ok-family-in-Neighbour-clause-ok : goal.returns-in_ok-family-in-Neighbour-clause-ok
returns-in_ok-family-in-Neighbour-clause-ok c =
    let found = c.in_ok-family-in-Neighbour in
    let (h, reads, behind, governs) = found.ensures.ok in
    rw c.in-Neighbour.is (begun (form_of Kind.Neighbour) c.args.bytes.now h found.attributes.now found.family reads behind governs)

pub returns-in_ok-family-in-Neighbour-clause-numbers : goal.returns-in_ok-family-in-Neighbour-clause-numbers
returns-in_ok-family-in-Neighbour-clause-numbers c =
    let found = c.in_ok-family-in-Neighbour in
    let (h, reads, behind, governs) = found.ensures.ok in
    subst (λ (f : AddressFamily). FromBytes (of_family At.Neighbour f)) (sym governs)
    (neighbour-bytes _ (neighbour-number c.args.bytes.now h (λ i. omega (arith, c.type_inv.bytes i)) reads))

pub returns-in_ok-family-in-Link-clause-ok : goal.returns-in_ok-family-in-Link-clause-ok
returns-in_ok-family-in-Link-clause-ok c =
    let found = c.in_ok-family-in-Link in
    let (h, reads, behind, governs) = found.ensures.ok in
    rw c.in-Link.is (begun (form_of Kind.Link) c.args.bytes.now h found.attributes.now found.family reads behind governs)

pub returns-in_ok-family-in-Link-clause-numbers : goal.returns-in_ok-family-in-Link-clause-numbers
returns-in_ok-family-in-Link-clause-numbers c =
    let found = c.in_ok-family-in-Link in
    let (h, reads, behind, governs) = found.ensures.ok in
    subst (λ (f : AddressFamily). FromBytes (of_family At.Link f)) (sym governs)
    (link-bytes _ (link-number c.args.bytes.now h (λ i. omega (arith, c.type_inv.bytes i)) reads))
