-- How much an action lets through (linux/pkt_cls.h, struct tc_police): a number, a signed one and three of 4, two rates of 12, and
-- three numbers of 4, the first two of them signed.
use Rattle.std.proofs.Common.{refl}
use Rattle.npr_base.specs.Fields.{le_four, ◌holding◌, ◌fills◌, ◌then◌, last, structure}
use Rattle.npr_base.specs.Layout.{Layout}
use Rattle.npr_base.specs.MoreFields.{signed_four}
use Rattle.npr_tc_actions.specs.ActionType.{action_types}
use Rattle.npr_tc_values.specs.RateSpec.{rate_field}
use Rattle.npr_tc_actions.specs.contracts.police.TcPolice.{struct}
use Rattle.npr_tc_actions.specs.declared.police.TcPolice.{TcPolice}

-- in this order, little endian
abbrev pub police : Layout TcPolice
police =
    structure struct
    (TcPolice.index fills le_four then TcPolice.action fills (signed_four holding action_types) then TcPolice.limit fills le_four
    then TcPolice.burst fills le_four then TcPolice.mtu fills le_four then TcPolice.rate fills rate_field then TcPolice.peakrate fills rate_field
    then TcPolice.refcnt fills signed_four then TcPolice.bindcnt fills signed_four then last (TcPolice.capab fills le_four)) refl (λ v. tt)
