-- What governs the data in a list of IFLA_LINKINFO (linux/if_link.h): the first IFLA_INFO_KIND those of the link, and the first
-- IFLA_INFO_SLAVE_KIND those of a port, wherever they stand before a fault.
--     told, port_told      what an attribute tells of them
--     Governs              what governs bytes
--     State, noted         what a search found so far, and with one attribute more
--     Searches             a search through bytes: what it finds, and the looks that it takes
use Rattle.std.specs.Prelude.{◌≡◌, ℕ, ◌<◌, ◌==◌, Bool, true, false, List, [], length, Option, Some, None, nat_lt, if◌then◌else◌}
use Rattle.std.specs.Bool.{MatchBool}
use Rattle.std.specs.Option.{option_or}
use Rattle.npr_base.specs.Counts.{Counts, hit, miss}
use Rattle.npr_base.specs.declared.refusal.DecodeError.{DecodeError}
use Rattle.npr_base.specs.FirstTold as Told
use Rattle.npr_base.specs.Framing.{Item, number_of, Front, Fault}
use Rattle.npr_link.specs.InfoKind as OfKind
use Rattle.npr_link.specs.PortKind as OfPortKind
use Rattle.npr_base.specs.Unterminated.{told_by}
use Rattle.npr_link_tunnels.specs.declared.form.InfoForm.{InfoForm}
use Rattle.npr_link_tunnels.specs.declared.form.InfoForm.TheVariants.{Kept}
use Rattle.npr_link.specs.declared.port_kind.InfoPortForm.{InfoPortForm}
use Rattle.npr_link.specs.declared.port_kind.InfoPortForm.TheVariants.{Kept as PortKept}

-- what governs the data of a link, and of a port
abbrev pub Forms : Type 0
Forms = InfoForm × InfoPortForm

abbrev pub none_governs : Forms
none_governs = (Kept, PortKept)

-- ---- the rule

abbrev pub told : Item → Option InfoForm
told x = told_by 1 OfKind.form_named x

abbrev pub port_told : Item → Option InfoPortForm
port_told x = told_by 4 OfPortKind.form_named x

abbrev pub Governs : List ℕ → Forms → Type 0
Governs bytes forms = Told.Governs told Kept bytes forms.0 × Told.Governs port_told PortKept bytes forms.1

-- ---- the search

abbrev pub State : Type 0
State = Option InfoForm × Option InfoPortForm

abbrev pub start : State
start = (None, None)

-- what is found stays
abbrev pub noted : State → Item → State
noted s x = (option_or s.0 (told x), option_or s.1 (port_told x))

abbrev pub is_complete : State → Bool
is_complete (Some form, Some port) = true
is_complete (Some form, None) = false
is_complete (None, port) = false

abbrev pub forms_of : State → Forms
forms_of s = (Told.or_else s.0 Kept, Told.or_else s.1 PortKept)

-- it ends where both are found, at the end, or at a fault, which is refused when the list is read; each attribute that is looked at
-- takes a look, and the fault one that fails
pub data Searching : State → List ℕ → Forms → Counts → Counts → Type 0 where
  search_ends : {s : State} {bytes : List ℕ} {c : Forms} {old new : Counts} → bytes ≡ [] → c ≡ forms_of s → new ≡ old → Searching s bytes c old new
  search_stops : {s : State} {bytes : List ℕ} {c : Forms} {old new : Counts} (e : DecodeError) → 0 < length bytes → Fault bytes e → c ≡ forms_of s
      → new ≡ miss old → Searching s bytes c old new
  both_found : {s : State} {bytes : List ℕ} {c : Forms} {old new : Counts} (x : Item) (rest : List ℕ) → Front bytes x rest
      → is_complete (noted s x) ≡ true → c ≡ forms_of (noted s x) → new ≡ hit old → Searching s bytes c old new
  searched_past : {s : State} {bytes : List ℕ} {c : Forms} {old new : Counts} (x : Item) (rest : List ℕ) → Front bytes x rest
      → is_complete (noted s x) ≡ false → Searching (noted s x) rest c (hit old) new → Searching s bytes c old new

-- a list of fewer than eight bytes has no room for a kind and for data beside it, and is not searched
abbrev pub Searches : List ℕ → Forms → Counts → Counts → Type 0
Searches bytes c old new =
    MatchBool (nat_lt (length bytes) 8) ((c ≡ none_governs) × (new ≡ old)) (Searching start bytes c old new)
