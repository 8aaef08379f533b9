-- What `==` answers of the attributes of such devices: whether they mean the same.
use Rattle.std.specs.Prelude.{ℕ, List, Bool, map}
use Rattle.std.specs.Bool.{Decides}
use Rattle.std.specs.Cmp.{signed_Decides}
use Rattle.std.specs.Cmp.Lexicographic.{pointwise}
use Rattle.std.specs.declared.alloc.Global.{Global}
use Rattle.std.specs.declared.vec.Vec.{Vec}
use Rattle.std.proofs.Common.{◌≡◌}
use Rattle.npr_base.specs.Equality.{IsEquality, IsEqualityOf}
use Rattle.npr_base.specs.EnumTable.{◌also◌}
use Rattle.npr_base.proofs.FieldEquality.{one, list, number, truth, bytes, kept}
use Rattle.npr_base.proofs.IpLaws.{ipv4_equality, ipv6_equality}
use Rattle.npr_base.proofs.MeaningLaws.{items_meaning}
use Rattle.npr_base.specs.Tables.{table_decides}
use Rattle.npr_base.specs.ViewEquality.{bytes_equality}
use Rattle.npr_link_devices.specs.IpVlan as OfIpVlan
use Rattle.npr_link_devices.specs.contracts.ip_vlan.InfoIpVlanPartialEq.TheImpl as InfoIpVlanEq
use Rattle.npr_link_devices.specs.Tun as OfTun
use Rattle.npr_link_devices.specs.contracts.tun.InfoTunPartialEq.TheImpl as InfoTunEq
use Rattle.npr_link_devices.specs.MacVlanAddress as OfMacVlanAddress
use Rattle.npr_link_devices.specs.contracts.mac_vlan_address.MacVlanAddressPartialEq.TheImpl as MacVlanAddressEq
use Rattle.npr_link_devices.specs.MacVlan as OfMacVlan
use Rattle.npr_link_devices.specs.contracts.mac_vlan.InfoMacVlanPartialEq.TheImpl as InfoMacVlanEq
use Rattle.npr_link_devices.specs.AdInfo as OfAdInfo
use Rattle.npr_link_devices.specs.contracts.ad_info.BondAdInfoPartialEq.TheImpl as BondAdInfoEq
use Rattle.npr_link_devices.specs.BondPort as OfBondPort
use Rattle.npr_link_devices.specs.contracts.bond_port.InfoBondPortPartialEq.TheImpl as InfoBondPortEq
use Rattle.npr_link_devices.specs.Bond as OfBond
use Rattle.npr_link_devices.specs.contracts.bond.InfoBondPartialEq.TheImpl as InfoBondEq
use Rattle.npr_link_devices.specs.Addresses.{octets_of}
use Rattle.npr_link_devices.proofs.ValueEquality.{all_port_active_equality, arp_all_targets_equality, arp_validation_equality, bond_mode_equality}
use Rattle.npr_link_devices.proofs.ValueEquality.{bond_port_state_equality, fail_over_mac_equality, ip_vlan_flags_equality, ip_vlan_mode_equality}
use Rattle.npr_link_devices.proofs.ValueEquality.{lacp_rate_equality, mac_vlan_address_mode_equality, mac_vlan_flags_equality, mac_vlan_mode_equality}
use Rattle.npr_link_devices.proofs.ValueEquality.{mii_status_equality, primary_reselect_equality, tun_type_equality, xmit_hash_policy_equality}
use Rattle.npr_link_devices.specs.Hsr as OfHsr
use Rattle.npr_link_devices.specs.contracts.hsr.InfoHsrPartialEq.TheImpl as InfoHsrEq
use Rattle.npr_link_devices.proofs.ValueEquality.{hsr_protocol_equality}
use Rattle.npr_link_devices.specs.Ipoib as OfIpoib
use Rattle.npr_link_devices.specs.contracts.ipoib.InfoIpoibPartialEq.TheImpl as InfoIpoibEq
use Rattle.npr_link_devices.proofs.ValueEquality.{ipoib_mode_equality}
use Rattle.npr_link_devices.specs.MacSec as OfMacSec
use Rattle.npr_link_devices.specs.contracts.mac_sec.InfoMacSecPartialEq.TheImpl as InfoMacSecEq
use Rattle.npr_link_devices.proofs.ValueEquality.{mac_sec_cipher_equality}
use Rattle.npr_link_devices.proofs.ValueEquality.{mac_sec_offload_equality}
use Rattle.npr_link_devices.proofs.ValueEquality.{mac_sec_validation_equality}

-- ---- addresses, one behind the other

addresses : {test : List ℕ → List ℕ → Bool} → IsEquality test → (x y : Vec (List ℕ) Global × Unit {0})
    → Decides (pointwise test x.0.items y.0.items) (map octets_of x.0.items ≡ map octets_of y.0.items)
addresses h x y = items_meaning octets_of h x.0 y.0

-- ---- families

pub mac_sec_equality : IsEqualityOf OfMacSec.family.meaning InfoMacSecEq.ghosts.eq
mac_sec_equality =
    table_decides OfMacSec.table _
    (number also number also number also one mac_sec_cipher_equality also number also number also number also number also number also
    number also number also number also one mac_sec_validation_equality also one mac_sec_offload_equality also kept also tt)

pub ipoib_equality : IsEqualityOf OfIpoib.family.meaning InfoIpoibEq.ghosts.eq
ipoib_equality =
    table_decides OfIpoib.table _
    (number also one ipoib_mode_equality also number also kept also tt)

pub hsr_equality : IsEqualityOf OfHsr.family.meaning InfoHsrEq.ghosts.eq
hsr_equality =
    table_decides OfHsr.table _
    (number also number also number also one bytes_equality also number also number also one hsr_protocol_equality also number also kept also tt)

pub ip_vlan_equality : IsEqualityOf OfIpVlan.family.meaning InfoIpVlanEq.ghosts.eq
ip_vlan_equality =
    table_decides OfIpVlan.table _
    (one ip_vlan_mode_equality also one ip_vlan_flags_equality also kept also tt)

pub tun_equality : IsEqualityOf OfTun.family.meaning InfoTunEq.ghosts.eq
tun_equality =
    table_decides OfTun.table _
    (number also number also one tun_type_equality also truth also truth also truth also truth also number also number also
    kept also tt)

pub mac_vlan_address_equality : IsEqualityOf OfMacVlanAddress.family.meaning MacVlanAddressEq.ghosts.eq
mac_vlan_address_equality =
    table_decides OfMacVlanAddress.table _
    (one bytes_equality also kept also tt)

pub mac_vlan_equality : IsEqualityOf OfMacVlan.family.meaning InfoMacVlanEq.ghosts.eq
mac_vlan_equality =
    table_decides OfMacVlan.table _
    (one mac_vlan_mode_equality also one mac_vlan_flags_equality also one mac_vlan_address_mode_equality also
    one bytes_equality also list mac_vlan_address_equality also number also number also number also one signed_Decides also
    kept also tt)

pub ad_info_equality : IsEqualityOf OfAdInfo.family.meaning BondAdInfoEq.ghosts.eq
ad_info_equality =
    table_decides OfAdInfo.table _
    (number also number also number also number also one bytes_equality also kept also tt)

pub bond_port_equality : IsEqualityOf OfBondPort.family.meaning InfoBondPortEq.ghosts.eq
bond_port_equality =
    table_decides OfBondPort.table _
    (one bond_port_state_equality also one mii_status_equality also number also bytes also number also number also number also
    number also one signed_Decides also number also number also number also kept also tt)

pub bond_equality : IsEqualityOf OfBond.family.meaning InfoBondEq.ghosts.eq
bond_equality =
    table_decides OfBond.table _
    (one bond_mode_equality also number also number also number also number also truth also number also
    addresses ipv4_equality also one arp_validation_equality also one arp_all_targets_equality also number also
    one primary_reselect_equality also one fail_over_mac_equality also one xmit_hash_policy_equality also number also number also
    one all_port_active_equality also number also number also number also one lacp_rate_equality also number also
    list ad_info_equality also number also number also one bytes_equality also truth also number also truth also number also
    addresses ipv6_equality also truth also truth also truth also kept also tt)
