-- Where a packet goes that is copied or sent on, by the table (linux/tc_act/tc_mirred.h), signed numbers.
use Rattle.std.specs.Prelude.{ℤ, pos, List, [], ◌∷◌}
use Rattle.std.proofs.Common.{refl}
use Rattle.npr_base.specs.Enumeration.{by_signed_rows}
use Rattle.npr_base.specs.Numbering.{Numbering}
use Rattle.npr_base.specs.Rows.{number_by}
use Rattle.npr_tc_actions.specs.contracts.mirror_action_type.TcMirrorActionType.{enum}
use Rattle.npr_tc_actions.specs.declared.mirror_action_type.TcMirrorActionType.{TcMirrorActionType}
use Rattle.npr_tc_actions.specs.declared.mirror_action_type.TcMirrorActionType.TheVariants.{EgressRedir, EgressMirror, IngressRedir, IngressMirror, Other}

-- in the order of the variants
abbrev pub mirror_action_type_rows : List (ℤ × TcMirrorActionType)
mirror_action_type_rows = (pos 1, EgressRedir) ∷ (pos 2, EgressMirror) ∷ (pos 3, IngressRedir) ∷ (pos 4, IngressMirror) ∷ []

abbrev pub mirror_action_types : Numbering ℤ TcMirrorActionType
mirror_action_types = by_signed_rows (number_by enum (pos 0) mirror_action_type_rows (λ f. f.0)) Other mirror_action_type_rows (λ d. refl) refl
