-- What an action does with the VLAN of a packet, by the table (linux/tc_act/tc_vlan.h), signed numbers.
use Rattle.std.specs.Prelude.{ℤ, pos, List, [], ◌∷◌}
use Rattle.std.proofs.Common.{refl}
use Rattle.npr_base.specs.Enumeration.{by_signed_rows}
use Rattle.npr_base.specs.Numbering.{Numbering}
use Rattle.npr_base.specs.Rows.{number_by}
use Rattle.npr_tc_actions.specs.contracts.vlan_action_type.TcVlanActionType.{enum}
use Rattle.npr_tc_actions.specs.declared.vlan_action_type.TcVlanActionType.{TcVlanActionType}
use Rattle.npr_tc_actions.specs.declared.vlan_action_type.TcVlanActionType.TheVariants.{Pop, Push, Modify, PopEth, PushEth, Other}

-- in the order of the variants
abbrev pub vlan_action_type_rows : List (ℤ × TcVlanActionType)
vlan_action_type_rows = (pos 1, Pop) ∷ (pos 2, Push) ∷ (pos 3, Modify) ∷ (pos 4, PopEth) ∷ (pos 5, PushEth) ∷ []

abbrev pub vlan_action_types : Numbering ℤ TcVlanActionType
vlan_action_types = by_signed_rows (number_by enum (pos 0) vlan_action_type_rows (λ f. f.0)) Other vlan_action_type_rows (λ d. refl) refl
