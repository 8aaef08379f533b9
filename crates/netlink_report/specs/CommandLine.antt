-- What the words of a command line ask for.
use Rattle.std.specs.Prelude.{◌≡◌, ◌⊎◌, ℕ, List, [], ◌∷◌, codes, true, false}
use Rattle.netlink_packet_route.specs.MessageKind.{kind_name}
use Rattle.netlink_report.specs.declared.command_line.Command.{Command}
use Rattle.netlink_report.specs.declared.command_line.Command.TheVariants.{Help, Version, Report}

-- a report tells the place of a refusal where `--where` stands in front of the kind or behind it
abbrev pub Asks : Command → List (List ℕ) → Type 0
Asks Help words = (words ≡ codes "--help" ∷ []) ⊎ (words ≡ codes "-h" ∷ [])
Asks Version words = words ≡ codes "--version" ∷ []
Asks (Report kind false) words = words ≡ kind_name kind ∷ []
Asks (Report kind true) words = (words ≡ codes "--where" ∷ kind_name kind ∷ []) ⊎ (words ≡ kind_name kind ∷ codes "--where" ∷ [])
