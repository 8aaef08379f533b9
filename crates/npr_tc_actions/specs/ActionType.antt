-- What becomes of a packet behind an action, by the table: TC_ACT_* of linux/pkt_cls.h, signed numbers.
use Rattle.std.specs.Prelude.{ℤ, pos, negsuc, List, [], ◌∷◌}
use Rattle.std.proofs.Common.{refl}
use Rattle.npr_base.specs.Enumeration.{by_signed_rows}
use Rattle.npr_base.specs.Layout.{Layout, formed, signed32}
use Rattle.npr_base.specs.Numbering.{Numbering}
use Rattle.npr_base.specs.Rows.{number_by}
use Rattle.npr_tc_actions.specs.contracts.action_type.TcActionType.{enum}
use Rattle.npr_tc_actions.specs.declared.action_type.TcActionType.{TcActionType}
use Rattle.npr_tc_actions.specs.declared.action_type.TcActionType.TheVariants.{Unspec, Ok, Reclassify, Shot, Pipe, Stolen, Queued, Repeat, Redirect}
use Rattle.npr_tc_actions.specs.declared.action_type.TcActionType.TheVariants.{Trap, Other}

-- in the order of the variants; the first is -1
abbrev pub action_type_rows : List (ℤ × TcActionType)
action_type_rows =
    (negsuc 0, Unspec) ∷ (pos 0, Ok) ∷ (pos 1, Reclassify) ∷ (pos 2, Shot) ∷ (pos 3, Pipe) ∷ (pos 4, Stolen) ∷ (pos 5, Queued) ∷ (pos 6, Repeat)
    ∷ (pos 7, Redirect) ∷ (pos 8, Trap) ∷ []

abbrev pub action_types : Numbering ℤ TcActionType
action_types = by_signed_rows (number_by enum (pos 0) action_type_rows (λ f. f.0)) Other action_type_rows (λ d. refl) refl

-- four bytes, little endian
abbrev pub action_type : Layout TcActionType
action_type = formed signed32 action_types
