-- A next hop message: its header, and attributes to the end, read under the header's family and the type of encapsulation among them
-- (linux/nexthop.h).
use Rattle.std.proofs.Common.{ℕ, List, refl}
use Rattle.npr_base.specs.Counts.{Counts}
use Rattle.npr_base.specs.Message.{Body, Grammar, grammar_of, IsUnder}
use Rattle.npr_encapsulation.specs.declared.encap_type.RouteLwEnCapType.{RouteLwEnCapType}
use Rattle.npr_encapsulation.specs.declared.encap_type.RouteLwEnCapType.TheVariants.{None as NoEncapsulation}
use Rattle.npr_nexthop.specs.Attribute.{Context, Meaning, attributes, family, writing}
use Rattle.npr_nexthop.specs.Governing.{Searches, alike, item_type, meaning_type}
use Rattle.npr_base.specs.GovernedBody as Governed
use Rattle.npr_nexthop.specs.Header.{header, default_header}
use Rattle.npr_nexthop.specs.declared.attribute.NextHopAttribute.{NextHopAttribute}
use Rattle.npr_nexthop.specs.declared.header.NextHopHeader.{NextHopHeader}

-- the context of a list: the header's family, and the type that governs
abbrev pub context_of : NextHopHeader → RouteLwEnCapType → Context
context_of h type = (h.family, type)

-- the bytes behind a header are the list
abbrev pub IsNextHopList : NextHopHeader → List ℕ → List Meaning → Type 0
IsNextHopList h bytes xs = Governed.IsList item_type NoEncapsulation meaning_type attributes context_of alike h bytes xs

abbrev pub body : Body NextHopHeader writing
body = Governed.governed_body item_type NoEncapsulation meaning_type attributes context_of alike

abbrev pub next_hops : Grammar NextHopHeader NextHopAttribute
next_hops = grammar_of family header default_header body

abbrev pub IsContext : NextHopHeader → List ℕ → Context → Type 0
IsContext = Governed.IsContext family header default_header item_type NoEncapsulation meaning_type context_of (λ c. c.1) (λ h t. refl) alike

abbrev pub SearchesIt : NextHopHeader → List ℕ → Context → Counts → Counts → Type 0
SearchesIt h bytes c = Searches bytes c.1

pub under_context : (h : NextHopHeader) (bytes : List ℕ) (c : Context) → IsContext h bytes c
    → IsUnder next_hops family h bytes c (IsContext h bytes) (SearchesIt h bytes c)
under_context = Governed.under_governed family header default_header item_type NoEncapsulation meaning_type context_of (λ c. c.1) (λ h t. refl) alike
