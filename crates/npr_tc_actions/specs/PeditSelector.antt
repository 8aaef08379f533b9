-- What an action that edits packets changes (linux/tc_act/tc_pedit.h, struct tc_pedit_sel): a structure, and its keys behind it.
use Rattle.std.specs.Prelude.{ℕ, List}
use Rattle.npr_base.specs.Codec.{Codec}
use Rattle.npr_base.specs.Fields.{one_byte, unused, ◌and◌, fields}
use Rattle.npr_base.specs.Layout.{Layout}
use Rattle.npr_base.specs.MoreFields.{◌behind◌}
use Rattle.npr_tc_actions.specs.Generic.{generic_field}
use Rattle.npr_tc_actions.specs.Headed.{headed}
use Rattle.npr_tc_actions.specs.PeditKey.{pedit_key_width}
use Rattle.npr_tc_actions.specs.declared.generic.TcActionGeneric.{TcActionGeneric}
use Rattle.npr_tc_actions.specs.declared.pedit_key.TcPeditKey.{TcPeditKey}
use Rattle.npr_tc_actions.specs.declared.pedit_selector.TcPeditSelector.{TcPeditSelector}

-- what every action has, nkeys and flags
abbrev pub PeditFront : Type 0
PeditFront = TcActionGeneric × (ℕ × ℕ)

-- in this order, and two bytes that are not looked at
abbrev pub pedit_front : Layout PeditFront
pedit_front = fields (generic_field and one_byte and one_byte behind unused behind unused)

abbrev pub pedit_selector : Codec (PeditFront × List TcPeditKey)
pedit_selector = headed pedit_front pedit_key_width

-- what a selector is, without where its keys lie in memory
abbrev pub pedit_parts : TcPeditSelector → PeditFront × List TcPeditKey
pedit_parts s = ((s.generic, (s.nkeys, s.flags)), s.keys.items)
