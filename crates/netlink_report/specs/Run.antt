-- What a run has read, answered and written.
use Rattle.std.specs.Prelude.{◌≡◌, ◌≢◌, ℕ, ◌<◌, ◌≤◌, List, length, map, take, Option, Some, None, Result, Ok, Err, IfSome}
use Rattle.std.specs.Io.KnownBytes.{Appends}
use Rattle.hex_text.specs.HexText.{IsHexText}
use Rattle.netlink_packet_route.specs.Family.{written_by}
use Rattle.netlink_packet_route.specs.MessageKind.{form_of, kind_name}
use Rattle.netlink_packet_route.specs.Messages.{View, IsMessage, MessageFault, message_unfit, canonical_bytes}
use Rattle.netlink_packet_route.specs.declared.MessageKind.{MessageKind}
use Rattle.netlink_packet_route.specs.declared.framing.DecodeError.{DecodeError}
use Rattle.netlink_packet_route.specs.declared.framing.DecodeError.TheVariants.{OutOfMemory}
use Rattle.netlink_packet_route.specs.declared.framing.EmitError.{EmitError}
use Rattle.netlink_report.specs.Report.{report}
use Rattle.netlink_report.specs.declared.ended.Ended.{Ended}
use Rattle.netlink_report.specs.declared.error.RunError.{RunError}

-- the bytes are a message of this kind that can be written, and the text is the report on it
unfoldable pub IsReport : MessageKind → List ℕ → List ℕ → Type 0
IsReport kind bytes text =
    let f = form_of kind in
    (m : View f.grammar) × IsMessage f.grammar bytes m × (message_unfit f.grammar m ≡ None)
    × (text ≡ report (kind_name kind) (length bytes) (map (written_by f.grammar.writing) m.attributes) (canonical_bytes f.grammar m))

-- the bytes are no message of this kind, and this is their first fault
unfoldable pub IsRefused : MessageKind → List ℕ → DecodeError → Type 0
IsRefused kind bytes e = let f = form_of kind in (e ≢ OutOfMemory) × MessageFault f.grammar bytes e

-- the bytes are a message of this kind that can't be written, and this is the first cause
unfoldable pub IsUnfit : MessageKind → List ℕ → EmitError → Type 0
IsUnfit kind bytes e =
    let f = form_of kind in
    (m : View f.grammar) × IsMessage f.grammar bytes m × (message_unfit f.grammar m ≡ Some e)

-- the text that was left to read stands for bytes of which this holds
abbrev pub OfText : Option (List ℕ) → (List ℕ → Type 0) → Type 0
OfText remaining P = IfSome remaining (λ text. (bytes : List ℕ) × IsHexText text bytes × P bytes)

-- the text stands for a message, and the writer holds the report on it besides
abbrev pub Reports : MessageKind → Option (List ℕ) → Option (List ℕ) → Option (List ℕ) → Type 0
Reports kind remaining before after = OfText remaining (λ bytes. (text : List ℕ) × IsReport kind bytes text × Appends before after text)

-- the text stands for a message, and the writer holds a beginning of the report on it besides
abbrev pub ReportsPart : MessageKind → Option (List ℕ) → Option (List ℕ) → Option (List ℕ) → Type 0
ReportsPart kind remaining before after = OfText remaining (λ bytes.
    (text : List ℕ) × IsReport kind bytes text × (n : ℕ) × (n ≤ length text) × Appends before after (take n text))

-- there is something left to read
abbrev pub SomethingLeft : Option (List ℕ) → Type 0
SomethingLeft remaining = IfSome remaining (λ left. 0 < length left)

-- the run ends with this error
abbrev pub Ends : {A : Type 0} → Result A Ended → RunError → Type 0
Ends (Ok a) error = ⊥
Ends (Err ended) error = ended.error ≡ error
