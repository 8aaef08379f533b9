-- A message of traffic control: its header, and attributes to the end, read under the kind among them (linux/rtnetlink.h).
use Rattle.std.proofs.Common.{ℕ, List, refl}
use Rattle.npr_base.specs.Counts.{Counts}
use Rattle.npr_base.specs.GovernedBody as Governed
use Rattle.npr_base.specs.Message.{Body, Grammar, grammar_of, IsUnder}
use Rattle.npr_tc_values.specs.declared.form.TcForm.{TcForm}
use Rattle.npr_tc_values.specs.declared.form.TcForm.TheVariants.{Kept}
use Rattle.npr_tc.specs.Attribute.{alike, attributes, family, tells, told, writing}
use Rattle.npr_tc.specs.declared.attribute.TcAttribute.{TcAttribute}
use Rattle.npr_tc.specs.declared.header.TcHeader.{TcHeader}
use Rattle.npr_tc.specs.Header.{default_header, header}

-- the context of a list is what governs it
abbrev pub context_of : TcHeader → TcForm → TcForm
context_of h form = form

abbrev pub body : Body TcHeader writing
body = Governed.governed_body tells Kept told attributes context_of alike

abbrev pub messages : Grammar TcHeader TcAttribute
messages = grammar_of family header default_header body

abbrev pub IsContext : TcHeader → List ℕ → TcForm → Type 0
IsContext = Governed.IsContext family header default_header tells Kept told context_of (λ c. c) (λ h t. refl) alike

abbrev pub SearchesIt : TcHeader → List ℕ → TcForm → Counts → Counts → Type 0
SearchesIt = Governed.SearchesIt family header default_header tells Kept told context_of (λ c. c) (λ h t. refl) alike

pub under_context : (h : TcHeader) (bytes : List ℕ) (c : TcForm) → IsContext h bytes c
    → IsUnder messages family h bytes c (IsContext h bytes) (SearchesIt h bytes c)
under_context = Governed.under_governed family header default_header tells Kept told context_of (λ c. c) (λ h t. refl) alike
