-- What becomes of some of the packets (linux/tc_act/tc_gact.h, struct tc_gact_p): two numbers of 2, and a signed one of 4.
use Rattle.std.proofs.Common.{refl}
use Rattle.npr_base.specs.Fields.{le_two, ◌holding◌, ◌fills◌, ◌then◌, last, structure}
use Rattle.npr_base.specs.Layout.{Layout}
use Rattle.npr_base.specs.MoreFields.{signed_four}
use Rattle.npr_tc_actions.specs.ActionType.{action_types}
use Rattle.npr_tc_actions.specs.contracts.gact_probability.TcGactProbability.{struct}
use Rattle.npr_tc_actions.specs.declared.gact_probability.TcGactProbability.{TcGactProbability}

-- in this order, little endian
abbrev pub gact_probability : Layout TcGactProbability
gact_probability =
    structure struct
    (TcGactProbability.ptype fills le_two then TcGactProbability.pval fills le_two
    then last (TcGactProbability.paction fills (signed_four holding action_types))) refl (λ v. tt)
