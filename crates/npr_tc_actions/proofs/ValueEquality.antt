-- What `==` answers of what actions are made of: whether two values are equal.
use Rattle.std.specs.Cmp.{signed_Decides, unsigned_Decides}
use Rattle.std.proofs.Common.{refl, rules}
use Rattle.npr_base.proofs.EqualityLaws.{enum_equality, one_equality}
use Rattle.npr_base.proofs.IpLaws.{ipv4_equality}
use Rattle.npr_base.proofs.StructLaws.{◌beside◌, struct_equality}
use Rattle.npr_base.specs.Equality.{IsEquality}
use Rattle.npr_tc_actions.specs.contracts.action_type.TcActionType.{enum as action_type_enum}
use Rattle.npr_tc_actions.specs.contracts.action_type.TcActionTypePartialEq.TheImpl as ActionTypeEq
use Rattle.npr_tc_actions.specs.contracts.form.TcActionFormPartialEq.TheImpl as FormEq
use Rattle.npr_tc_actions.specs.contracts.generic.TcActionGeneric.{struct as generic_struct}
use Rattle.npr_tc_actions.specs.contracts.generic.TcActionGenericPartialEq.TheImpl as GenericEq
use Rattle.npr_tc_actions.specs.contracts.mirror.TcMirror.{struct as mirror_struct}
use Rattle.npr_tc_actions.specs.contracts.mirror.TcMirrorPartialEq.TheImpl as MirrorEq
use Rattle.npr_tc_actions.specs.contracts.mirror_action_type.TcMirrorActionType.{enum as mirror_type_enum}
use Rattle.npr_tc_actions.specs.contracts.mirror_action_type.TcMirrorActionTypePartialEq.TheImpl as MirrorTypeEq
use Rattle.npr_tc_actions.specs.contracts.nat.TcNat.{struct as nat_struct}
use Rattle.npr_tc_actions.specs.contracts.nat.TcNatPartialEq.TheImpl as NatEq
use Rattle.npr_tc_actions.specs.contracts.nat_flags.TcNatFlagsPartialEq.TheImpl as NatFlagsEq
use Rattle.npr_tc_actions.specs.contracts.tcf.TcfPartialEq.TheImpl as TcfEq
use Rattle.npr_tc_actions.specs.contracts.tunnel_key.TcTunnelKey.{struct as tunnel_key_struct}
use Rattle.npr_tc_actions.specs.contracts.tunnel_key.TcTunnelKeyPartialEq.TheImpl as TunnelKeyEq

-- ---- values

pub form_equality : IsEquality FormEq.ghosts.eq
form_equality = search rules

pub action_type_equality : IsEquality ActionTypeEq.ghosts.eq
action_type_equality = enum_equality action_type_enum _ refl (one_equality signed_Decides, tt)

pub mirror_action_type_equality : IsEquality MirrorTypeEq.ghosts.eq
mirror_action_type_equality = enum_equality mirror_type_enum _ refl (one_equality signed_Decides, tt)

pub nat_flags_equality : IsEquality NatFlagsEq.ghosts.eq
nat_flags_equality = search rules

pub generic_equality : IsEquality GenericEq.ghosts.eq
generic_equality =
    struct_equality generic_struct (λ v. tt) (λ d. refl)
    (unsigned_Decides beside unsigned_Decides beside action_type_equality beside signed_Decides beside one_equality signed_Decides)

pub times_equality : IsEquality TcfEq.ghosts.eq
times_equality = search rules

pub mirror_equality : IsEquality MirrorEq.ghosts.eq
mirror_equality =
    struct_equality mirror_struct (λ v. tt) (λ d. refl) (generic_equality beside mirror_action_type_equality beside one_equality unsigned_Decides)

pub nat_equality : IsEquality NatEq.ghosts.eq
nat_equality =
    struct_equality nat_struct (λ v. tt) (λ d. refl)
    (generic_equality beside ipv4_equality beside ipv4_equality beside ipv4_equality beside one_equality nat_flags_equality)

pub tunnel_key_equality : IsEquality TunnelKeyEq.ghosts.eq
tunnel_key_equality = struct_equality tunnel_key_struct (λ v. tt) (λ d. refl) (generic_equality beside one_equality signed_Decides)
