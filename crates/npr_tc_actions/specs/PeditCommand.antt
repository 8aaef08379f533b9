-- What is done with the value of a key, by the table (linux/tc_act/tc_pedit.h, TCA_PEDIT_KEY_EX_CMD_*).
use Rattle.std.specs.Prelude.{ℕ, List, [], ◌∷◌}
use Rattle.std.proofs.Common.{refl}
use Rattle.npr_base.specs.Enumeration.{enumeration}
use Rattle.npr_base.specs.Layout.{Layout, le16, formed}
use Rattle.npr_base.specs.Numbering.{Numbering}
use Rattle.npr_tc_actions.specs.contracts.pedit_command.TcPeditCommand.{enum}
use Rattle.npr_tc_actions.specs.declared.pedit_command.TcPeditCommand.{TcPeditCommand}
use Rattle.npr_tc_actions.specs.declared.pedit_command.TcPeditCommand.TheVariants.{Set, Add, Other}

-- in the order of the variants
abbrev pub pedit_command_rows : List (ℕ × TcPeditCommand)
pedit_command_rows = (0, Set) ∷ (1, Add) ∷ []

abbrev pub pedit_commands : Numbering ℕ TcPeditCommand
pedit_commands = enumeration enum pedit_command_rows Other (λ f. f.0) (λ d. refl) refl

-- two bytes, little endian
abbrev pub pedit_command : Layout TcPeditCommand
pedit_command = formed le16 pedit_commands
