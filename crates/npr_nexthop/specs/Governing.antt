-- The type that governs a list of next hop attributes: NHA_ENCAP is read by the first NHA_ENCAP_TYPE beside it, wherever that stands
-- (linux/nexthop.h).
use Rattle.std.specs.Prelude.{◌==◌, if◌then◌else◌}
use Rattle.std.proofs.Common.{◌≡◌, ℕ, List, length, Option, Some, None, refl, sym, ap, subst, ◌∙◌, rules, inl, inr}
use Rattle.std.proofs.lemmas.Bool.{eqb-true, cases_Bool}
use Rattle.npr_base.specs.Counts.{Counts}
use Rattle.npr_base.specs.Family.{Reading}
use Rattle.npr_base.specs.FirstTold as Told
use Rattle.npr_base.specs.Framing.{Item, number_of}
use Rattle.npr_base.specs.Table.{Row, ReadsAt}
use Rattle.npr_base.specs.EnumTable.{other_in}
use Rattle.npr_base.specs.EnumTable.{all_rows}
use Rattle.npr_base.specs.Tables.{table-read}
use Rattle.npr_base.proofs.Unless.{Unless, unless-reads}
use Rattle.npr_route_values.specs.RouteAddress.{Form, form_of}
use Rattle.npr_encapsulation.specs.EncapType.{encap_type}
use Rattle.npr_encapsulation.specs.Encapsulation as OfEncap
use Rattle.npr_encapsulation.specs.declared.encap_type.RouteLwEnCapType.{RouteLwEnCapType}
use Rattle.npr_encapsulation.specs.declared.encap_type.RouteLwEnCapType.TheVariants.{None as NoEncapsulation}
use Rattle.npr_nexthop.specs.Attribute.{Context, Meaning, attributes, table}
use Rattle.npr_nexthop.specs.contracts.attribute.NextHopAttribute.{enum}

-- the type that an attribute tells: one of number 7 with a value of two bytes
abbrev pub item_type : Item → Option RouteLwEnCapType
item_type x = if number_of x.kind == 7 then if length x.value == 2 then Some (encap_type.decode x.value) else None else None

-- the type that a meaning holds
abbrev pub meaning_type : Meaning → Option RouteLwEnCapType
meaning_type (inr (inr (inl type))) = Some type
meaning_type m = None

-- the type that governs bytes, and a search for it
abbrev pub Governs : List ℕ → RouteLwEnCapType → Type 0
Governs bytes type = Told.Governs item_type NoEncapsulation bytes type

abbrev pub Searches : List ℕ → RouteLwEnCapType → Counts → Counts → Type 0
Searches bytes type old new = Told.Searches item_type NoEncapsulation bytes type old new

-- the first type that a list holds, or `None`
abbrev pub first_type : List Meaning → RouteLwEnCapType
first_type xs = Told.first_told meaning_type NoEncapsulation xs

-- ---- an attribute tells the type that its meaning holds

-- a type is held by number 7 alone
abbrev HoldsNone : Meaning → Type 0
HoldsNone m = meaning_type m ≡ None

module _ (form : Form) (f : Reading OfEncap.writing) where
  abbrev rows : List (Row Meaning)
  rows = all_rows enum.parts (table form f).rows

  abbrev other : Item → Meaning
  other x = other_in enum.parts (table form f).rows x

  rows_none : Unless HoldsNone 7 rows
  rows_none = search rules

  alike_at : (x : Item) (m : Meaning) → number_of x.kind ≡ 7 → ReadsAt other rows 7 x m → item_type x ≡ meaning_type m
  alike_at x m is (v, (size, p), q) = rw (is, size) (ap Some (sym p) ∙ sym (ap meaning_type q))

  alike_in : (x : Item) (m : Meaning) → ReadsAt other rows (number_of x.kind) x m → item_type x ≡ meaning_type m
  alike_in x m p = elim (cases_Bool (number_of x.kind == 7)) [
    | inl e ↦
        let is : number_of x.kind ≡ 7 = eqb-true (number_of x.kind) 7 e in
        alike_at x m is (subst (λ (k : ℕ). ReadsAt other rows k x m) is p)
    | inr e ↦ rw e (sym (unless-reads HoldsNone 7 other rows rows_none (λ y. refl) (number_of x.kind) x m e p))
  ]

pub alike : (c : Context) (x : Item) (m : Meaning) → (attributes c).Reads x m → item_type x ≡ meaning_type m
alike c x m p =
    let form = form_of c.0 in
    let f = OfEncap.encapsulation c.1 in
    alike_in form f x m (table-read (table form f) x m p)
