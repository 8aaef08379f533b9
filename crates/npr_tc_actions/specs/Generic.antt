-- What every action has: five numbers of four bytes (linux/pkt_cls.h, tc_gen).
use Rattle.std.proofs.Common.{refl}
use Rattle.npr_base.specs.Fields.{Field, Part, le_four, ◌holding◌, ◌fills◌, ◌then◌, last, structure}
use Rattle.npr_base.specs.Layout.{Layout}
use Rattle.npr_base.specs.MoreFields.{signed_four}
use Rattle.npr_tc_actions.specs.ActionType.{action_types}
use Rattle.npr_tc_actions.specs.contracts.generic.TcActionGeneric.{struct}
use Rattle.npr_tc_actions.specs.declared.generic.TcActionGeneric.{TcActionGeneric}
use denote.Struct.Values.{Values}

-- in this order, little endian
abbrev pub parts : Part TcActionGeneric (Values struct.parts)
parts =
    TcActionGeneric.index fills le_four then TcActionGeneric.capab fills le_four then TcActionGeneric.action fills (signed_four holding action_types)
    then TcActionGeneric.refcnt fills signed_four then last (TcActionGeneric.bindcnt fills signed_four)

abbrev pub generic : Layout TcActionGeneric
generic = structure struct parts refl (λ v. tt)

-- in front of an action's own fields
abbrev pub generic_field : Field TcActionGeneric
generic_field = parts.field holding (record { of = λ v. struct.make v tt; number = struct.as_values; back = λ v. struct.beta v tt })
