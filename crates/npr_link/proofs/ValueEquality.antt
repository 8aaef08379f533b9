-- What `==` answers of the values of links that hold no vector and no text: whether they are equal.
use Rattle.std.specs.Cmp.{signed_Decides, unsigned_Decides}
use Rattle.std.proofs.Common.{refl, rules}
use Rattle.npr_base.proofs.AddressFamilyLaws.{family_equality}
use Rattle.npr_base.specs.Equality.{IsEquality}
use Rattle.npr_base.proofs.EqualityLaws.{enum_equality, one_equality}
use Rattle.npr_base.proofs.StructLaws.{◌beside◌, struct_equality}
use Rattle.npr_link.specs.contracts.address_mode.In6AddrGenMode.{enum as address_mode_enum}
use Rattle.npr_link.specs.contracts.address_mode.In6AddrGenModePartialEq.TheImpl as AddressModeEq
use Rattle.npr_link.specs.contracts.layer_type.LinkLayerType.{enum as layer_type_enum}
use Rattle.npr_link.specs.contracts.layer_type.LinkLayerTypePartialEq.TheImpl as LayerTypeEq
use Rattle.npr_link.specs.contracts.link_event.LinkEvent.{enum as link_event_enum}
use Rattle.npr_link.specs.contracts.link_event.LinkEventPartialEq.TheImpl as LinkEventEq
use Rattle.npr_link.specs.contracts.link_mode.LinkMode.{enum as link_mode_enum}
use Rattle.npr_link.specs.contracts.link_mode.LinkModePartialEq.TheImpl as LinkModeEq
use Rattle.npr_link.specs.contracts.netkit_mode.NetkitMode.{enum as netkit_mode_enum}
use Rattle.npr_link.specs.contracts.netkit_mode.NetkitModePartialEq.TheImpl as NetkitModeEq
use Rattle.npr_link.specs.contracts.netkit_policy.NetkitPolicy.{enum as netkit_policy_enum}
use Rattle.npr_link.specs.contracts.netkit_policy.NetkitPolicyPartialEq.TheImpl as NetkitPolicyEq
use Rattle.npr_link.specs.contracts.netkit_scrub.NetkitScrub.{enum as netkit_scrub_enum}
use Rattle.npr_link.specs.contracts.netkit_scrub.NetkitScrubPartialEq.TheImpl as NetkitScrubEq
use Rattle.npr_link.specs.contracts.state.State.{enum as state_enum}
use Rattle.npr_link.specs.contracts.state.StatePartialEq.TheImpl as StateEq
use Rattle.npr_link.specs.contracts.xdp_attached.XdpAttached.{enum as attachment_enum}
use Rattle.npr_link.specs.contracts.xdp_attached.XdpAttachedPartialEq.TheImpl as AttachmentEq
use Rattle.npr_link.specs.contracts.port_kind.InfoPortFormPartialEq.TheImpl as PortFormEq
use Rattle.npr_link.specs.contracts.flags.LinkFlagsPartialEq.TheImpl as FlagsEq
use Rattle.npr_link.specs.contracts.extent_mask.LinkExtentMaskPartialEq.TheImpl as ExtentMaskEq
use Rattle.npr_link.specs.contracts.inet6_flags.Inet6IfaceFlagsPartialEq.TheImpl as Inet6FlagsEq
use Rattle.npr_link.specs.contracts.vlan_flags.VlanFlagsPartialEq.TheImpl as VlanFlagsEq
use Rattle.npr_link.specs.contracts.inet6_cache_info.Inet6CacheInfo.{struct as cache_info_struct}
use Rattle.npr_link.specs.contracts.inet6_cache_info.Inet6CacheInfoPartialEq.TheImpl as CacheInfoEq
use Rattle.npr_link.specs.contracts.map.Map.{struct as map_struct}
use Rattle.npr_link.specs.contracts.map.MapPartialEq.TheImpl as MapEq
use Rattle.npr_link.specs.contracts.header.LinkHeader.{struct as header_struct}
use Rattle.npr_link.specs.contracts.header.LinkHeaderPartialEq.TheImpl as HeaderEq
use Rattle.npr_link.specs.contracts.header.LinkMessageBuffer.{struct as header_buffer_struct}
use Rattle.npr_link.specs.contracts.header.LinkMessageBufferPartialEq.TheImpl as HeaderBufferEq

-- ---- enumerations

pub address_mode_equality : IsEquality AddressModeEq.ghosts.eq
address_mode_equality = enum_equality address_mode_enum _ refl (one_equality unsigned_Decides, tt)

pub layer_type_equality : IsEquality LayerTypeEq.ghosts.eq
layer_type_equality = enum_equality layer_type_enum _ refl (one_equality unsigned_Decides, tt)

pub link_event_equality : IsEquality LinkEventEq.ghosts.eq
link_event_equality = enum_equality link_event_enum _ refl (one_equality unsigned_Decides, tt)

pub link_mode_equality : IsEquality LinkModeEq.ghosts.eq
link_mode_equality = enum_equality link_mode_enum _ refl (one_equality unsigned_Decides, tt)

pub netkit_mode_equality : IsEquality NetkitModeEq.ghosts.eq
netkit_mode_equality = enum_equality netkit_mode_enum _ refl (one_equality unsigned_Decides, tt)

pub netkit_policy_equality : IsEquality NetkitPolicyEq.ghosts.eq
netkit_policy_equality = enum_equality netkit_policy_enum _ refl (one_equality unsigned_Decides, tt)

pub netkit_scrub_equality : IsEquality NetkitScrubEq.ghosts.eq
netkit_scrub_equality = enum_equality netkit_scrub_enum _ refl (one_equality unsigned_Decides, tt)

pub state_equality : IsEquality StateEq.ghosts.eq
state_equality = enum_equality state_enum _ refl (one_equality unsigned_Decides, tt)

pub attachment_equality : IsEquality AttachmentEq.ghosts.eq
attachment_equality = enum_equality attachment_enum _ refl (one_equality unsigned_Decides, tt)

pub port_form_equality : IsEquality PortFormEq.ghosts.eq
port_form_equality = search rules

-- ---- flags

pub flags_equality : IsEquality FlagsEq.ghosts.eq
flags_equality = search rules

pub extent_mask_equality : IsEquality ExtentMaskEq.ghosts.eq
extent_mask_equality = search rules

pub inet6_flags_equality : IsEquality Inet6FlagsEq.ghosts.eq
inet6_flags_equality = search rules

pub vlan_flags_equality : IsEquality VlanFlagsEq.ghosts.eq
vlan_flags_equality = search rules

-- ---- structures

pub cache_info_equality : IsEquality CacheInfoEq.ghosts.eq
cache_info_equality =
    struct_equality cache_info_struct (λ v. tt) (λ d. refl)
    (signed_Decides beside signed_Decides beside signed_Decides beside one_equality signed_Decides)

pub map_equality : IsEquality MapEq.ghosts.eq
map_equality =
    struct_equality map_struct (λ v. tt) (λ d. refl)
    (unsigned_Decides beside unsigned_Decides beside unsigned_Decides beside unsigned_Decides beside unsigned_Decides beside one_equality unsigned_Decides)

pub header_equality : IsEquality HeaderEq.ghosts.eq
header_equality =
    struct_equality header_struct (λ v. tt) (λ d. refl)
    (family_equality beside layer_type_equality beside unsigned_Decides beside flags_equality beside one_equality flags_equality)

pub header_buffer_equality : IsEquality HeaderBufferEq.ghosts.eq
header_buffer_equality =
    struct_equality header_buffer_struct (λ v. tt) (λ d. refl)
    (unsigned_Decides beside unsigned_Decides beside unsigned_Decides beside unsigned_Decides beside unsigned_Decides beside one_equality unsigned_Decides)
