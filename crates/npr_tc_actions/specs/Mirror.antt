-- Where an action copies or sends a packet (linux/tc_act/tc_mirred.h, struct tc_mirred).
use Rattle.std.proofs.Common.{refl}
use Rattle.npr_base.specs.Fields.{le_four, ◌holding◌, ◌fills◌, ◌then◌, last, structure}
use Rattle.npr_base.specs.Layout.{Layout}
use Rattle.npr_base.specs.MoreFields.{signed_four}
use Rattle.npr_tc_actions.specs.Generic.{generic_field}
use Rattle.npr_tc_actions.specs.MirrorActionType.{mirror_action_types}
use Rattle.npr_tc_actions.specs.contracts.mirror.TcMirror.{struct}
use Rattle.npr_tc_actions.specs.declared.mirror.TcMirror.{TcMirror}

-- what every action has, and two numbers, little endian
abbrev pub mirror : Layout TcMirror
mirror =
    structure struct
    (TcMirror.generic fills generic_field then TcMirror.eaction fills (signed_four holding mirror_action_types)
    then last (TcMirror.ifindex fills le_four)) refl (λ v. tt)
