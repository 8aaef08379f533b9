-- What `==` answers of the values of such devices that hold no vector: whether they are equal.
use Rattle.std.specs.Cmp.{unsigned_Decides}
use Rattle.std.proofs.Common.{refl, rules}
use Rattle.npr_base.specs.Equality.{IsEquality}
use Rattle.npr_base.proofs.EqualityLaws.{enum_equality, one_equality}
use Rattle.npr_link_devices.specs.contracts.bond_mode.BondMode.{enum as bond_mode_enum}
use Rattle.npr_link_devices.specs.contracts.bond_mode.BondModePartialEq.TheImpl as BondModeEq
use Rattle.npr_link_devices.specs.contracts.arp_validate.BondArpValidate.{enum as arp_validation_enum}
use Rattle.npr_link_devices.specs.contracts.arp_validate.BondArpValidatePartialEq.TheImpl as BondArpValidateEq
use Rattle.npr_link_devices.specs.contracts.arp_all_targets.BondArpAllTargets.{enum as arp_all_targets_enum}
use Rattle.npr_link_devices.specs.contracts.arp_all_targets.BondArpAllTargetsPartialEq.TheImpl as BondArpAllTargetsEq
use Rattle.npr_link_devices.specs.contracts.primary_reselect.BondPrimaryReselect.{enum as primary_reselect_enum}
use Rattle.npr_link_devices.specs.contracts.primary_reselect.BondPrimaryReselectPartialEq.TheImpl as BondPrimaryReselectEq
use Rattle.npr_link_devices.specs.contracts.fail_over_mac.BondFailOverMac.{enum as fail_over_mac_enum}
use Rattle.npr_link_devices.specs.contracts.fail_over_mac.BondFailOverMacPartialEq.TheImpl as BondFailOverMacEq
use Rattle.npr_link_devices.specs.contracts.xmit_hash_policy.BondXmitHashPolicy.{enum as xmit_hash_policy_enum}
use Rattle.npr_link_devices.specs.contracts.xmit_hash_policy.BondXmitHashPolicyPartialEq.TheImpl as BondXmitHashPolicyEq
use Rattle.npr_link_devices.specs.contracts.all_port_active.BondAllPortActive.{enum as all_port_active_enum}
use Rattle.npr_link_devices.specs.contracts.all_port_active.BondAllPortActivePartialEq.TheImpl as BondAllPortActiveEq
use Rattle.npr_link_devices.specs.contracts.lacp_rate.BondLacpRate.{enum as lacp_rate_enum}
use Rattle.npr_link_devices.specs.contracts.lacp_rate.BondLacpRatePartialEq.TheImpl as BondLacpRateEq
use Rattle.npr_link_devices.specs.contracts.bond_port_state.BondPortState.{enum as bond_port_state_enum}
use Rattle.npr_link_devices.specs.contracts.bond_port_state.BondPortStatePartialEq.TheImpl as BondPortStateEq
use Rattle.npr_link_devices.specs.contracts.mii_status.MiiStatus.{enum as mii_status_enum}
use Rattle.npr_link_devices.specs.contracts.mii_status.MiiStatusPartialEq.TheImpl as MiiStatusEq
use Rattle.npr_link_devices.specs.contracts.mac_vlan_mode.MacVlanMode.{enum as mac_vlan_mode_enum}
use Rattle.npr_link_devices.specs.contracts.mac_vlan_mode.MacVlanModePartialEq.TheImpl as MacVlanModeEq
use Rattle.npr_link_devices.specs.contracts.mac_vlan_address_mode.MacVlanMacAddressMode.{enum as mac_vlan_address_mode_enum}
use Rattle.npr_link_devices.specs.contracts.mac_vlan_address_mode.MacVlanMacAddressModePartialEq.TheImpl as MacVlanMacAddressModeEq
use Rattle.npr_link_devices.specs.contracts.ip_vlan_mode.IpVlanMode.{enum as ip_vlan_mode_enum}
use Rattle.npr_link_devices.specs.contracts.ip_vlan_mode.IpVlanModePartialEq.TheImpl as IpVlanModeEq
use Rattle.npr_link_devices.specs.contracts.tun_type.TunType.{enum as tun_type_enum}
use Rattle.npr_link_devices.specs.contracts.tun_type.TunTypePartialEq.TheImpl as TunTypeEq
use Rattle.npr_link_devices.specs.contracts.mac_vlan_flags.MacVlanFlagsPartialEq.TheImpl as MacVlanFlagsEq
use Rattle.npr_link_devices.specs.contracts.ip_vlan_flags.IpVlanFlagsPartialEq.TheImpl as IpVlanFlagsEq
use Rattle.npr_link_devices.specs.contracts.hsr_protocol.HsrProtocol.{enum as hsr_protocol_enum}
use Rattle.npr_link_devices.specs.contracts.hsr_protocol.HsrProtocolPartialEq.TheImpl as HsrProtocolEq
use Rattle.npr_link_devices.specs.contracts.ipoib_mode.IpoibMode.{enum as ipoib_mode_enum}
use Rattle.npr_link_devices.specs.contracts.ipoib_mode.IpoibModePartialEq.TheImpl as IpoibModeEq
use Rattle.npr_link_devices.specs.contracts.mac_sec_cipher.MacSecCipherId.{enum as mac_sec_cipher_enum}
use Rattle.npr_link_devices.specs.contracts.mac_sec_cipher.MacSecCipherIdPartialEq.TheImpl as MacSecCipherIdEq
use Rattle.npr_link_devices.specs.contracts.mac_sec_offload.MacSecOffload.{enum as mac_sec_offload_enum}
use Rattle.npr_link_devices.specs.contracts.mac_sec_offload.MacSecOffloadPartialEq.TheImpl as MacSecOffloadEq
use Rattle.npr_link_devices.specs.contracts.mac_sec_validate.MacSecValidate.{enum as mac_sec_validate_enum}
use Rattle.npr_link_devices.specs.contracts.mac_sec_validate.MacSecValidatePartialEq.TheImpl as MacSecValidateEq

-- ---- enumerations

pub bond_mode_equality : IsEquality BondModeEq.ghosts.eq
bond_mode_equality = enum_equality bond_mode_enum _ refl (one_equality unsigned_Decides, tt)

pub arp_validation_equality : IsEquality BondArpValidateEq.ghosts.eq
arp_validation_equality = enum_equality arp_validation_enum _ refl (one_equality unsigned_Decides, tt)

pub arp_all_targets_equality : IsEquality BondArpAllTargetsEq.ghosts.eq
arp_all_targets_equality = enum_equality arp_all_targets_enum _ refl (one_equality unsigned_Decides, tt)

pub primary_reselect_equality : IsEquality BondPrimaryReselectEq.ghosts.eq
primary_reselect_equality = enum_equality primary_reselect_enum _ refl (one_equality unsigned_Decides, tt)

pub fail_over_mac_equality : IsEquality BondFailOverMacEq.ghosts.eq
fail_over_mac_equality = enum_equality fail_over_mac_enum _ refl (one_equality unsigned_Decides, tt)

pub xmit_hash_policy_equality : IsEquality BondXmitHashPolicyEq.ghosts.eq
xmit_hash_policy_equality = enum_equality xmit_hash_policy_enum _ refl (one_equality unsigned_Decides, tt)

pub all_port_active_equality : IsEquality BondAllPortActiveEq.ghosts.eq
all_port_active_equality = enum_equality all_port_active_enum _ refl (one_equality unsigned_Decides, tt)

pub lacp_rate_equality : IsEquality BondLacpRateEq.ghosts.eq
lacp_rate_equality = enum_equality lacp_rate_enum _ refl (one_equality unsigned_Decides, tt)

pub bond_port_state_equality : IsEquality BondPortStateEq.ghosts.eq
bond_port_state_equality = enum_equality bond_port_state_enum _ refl (one_equality unsigned_Decides, tt)

pub mii_status_equality : IsEquality MiiStatusEq.ghosts.eq
mii_status_equality = enum_equality mii_status_enum _ refl (one_equality unsigned_Decides, tt)

pub mac_vlan_mode_equality : IsEquality MacVlanModeEq.ghosts.eq
mac_vlan_mode_equality = enum_equality mac_vlan_mode_enum _ refl (one_equality unsigned_Decides, tt)

pub mac_vlan_address_mode_equality : IsEquality MacVlanMacAddressModeEq.ghosts.eq
mac_vlan_address_mode_equality = enum_equality mac_vlan_address_mode_enum _ refl (one_equality unsigned_Decides, tt)

pub ip_vlan_mode_equality : IsEquality IpVlanModeEq.ghosts.eq
ip_vlan_mode_equality = enum_equality ip_vlan_mode_enum _ refl (one_equality unsigned_Decides, tt)

pub tun_type_equality : IsEquality TunTypeEq.ghosts.eq
tun_type_equality = enum_equality tun_type_enum _ refl (one_equality unsigned_Decides, tt)

pub hsr_protocol_equality : IsEquality HsrProtocolEq.ghosts.eq
hsr_protocol_equality = enum_equality hsr_protocol_enum _ refl (one_equality unsigned_Decides, tt)

pub ipoib_mode_equality : IsEquality IpoibModeEq.ghosts.eq
ipoib_mode_equality = enum_equality ipoib_mode_enum _ refl (one_equality unsigned_Decides, tt)

pub mac_sec_cipher_equality : IsEquality MacSecCipherIdEq.ghosts.eq
mac_sec_cipher_equality = enum_equality mac_sec_cipher_enum _ refl (one_equality unsigned_Decides, tt)

pub mac_sec_offload_equality : IsEquality MacSecOffloadEq.ghosts.eq
mac_sec_offload_equality = enum_equality mac_sec_offload_enum _ refl (one_equality unsigned_Decides, tt)

pub mac_sec_validation_equality : IsEquality MacSecValidateEq.ghosts.eq
mac_sec_validation_equality = enum_equality mac_sec_validate_enum _ refl (one_equality unsigned_Decides, tt)

-- ---- flags

pub mac_vlan_flags_equality : IsEquality MacVlanFlagsEq.ghosts.eq
mac_vlan_flags_equality = search rules

pub ip_vlan_flags_equality : IsEquality IpVlanFlagsEq.ghosts.eq
ip_vlan_flags_equality = search rules
