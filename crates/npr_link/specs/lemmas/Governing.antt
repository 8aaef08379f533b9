-- What governs a list is one, and a search finds it.
use Rattle.std.specs.Prelude.{nat_lt, ◌==◌}
use Rattle.std.specs.Option.{option_or}
use Rattle.std.proofs.Common.{◌≡◌, ℕ, ◌<◌, ◌≤◌, ◌+◌, Bool, true, false, List, [], ◌∷◌, length, Option, Some, None, refl, sym, ap, subst, ◌∙◌, arith, inl, inr}
use Rattle.std.proofs.lemmas.Bool.{eqb-true}
use Rattle.std.proofs.lemmas.Bool.Decides.{nat_tests}
use Rattle.npr_base.specs.Counts.{Counts, hit}
use Rattle.npr_base.specs.declared.refusal.DecodeError.TheVariants.{AttributeTooShort}
use Rattle.npr_base.specs.FirstTold as Told
use Rattle.npr_base.specs.lemmas.FirstTold.{governs-one as told-one, first-step}
use Rattle.npr_base.specs.Framing.{Item, number_of, Front}
use Rattle.npr_base.specs.lemmas.Bool.{one_of}
use Rattle.npr_base.specs.Unterminated.{told_by}
use Rattle.npr_link.specs.Governing.{Forms, told, port_told, Governs, State, start, noted, is_complete, forms_of, Searching, search_ends, search_stops}
use Rattle.npr_link.specs.Governing.{both_found, searched_past, Searches}
use Rattle.npr_link_tunnels.specs.declared.form.InfoForm.TheVariants.{Kept}
use Rattle.npr_link.specs.declared.port_kind.InfoPortForm.TheVariants.{Kept as PortKept}

-- fewer bytes than a header
pub short_ends : (rest : List ℕ) → length rest < 4 → Told.NoneInFront rest
short_ends [] short = inl refl
short_ends (b ∷ rest) short = inr (AttributeTooShort (length (b ∷ rest)), omega arith, (refl, short))

-- an attribute of another number tells none
pub other_tells : {F : Type 0} (number k : ℕ) (form_named : List ℕ → F) (x : Item) → (number_of x.kind == k) ≡ true → (k == number) ≡ false
    → told_by number form_named x ≡ None
other_tells number k form_named x e other = rw (ap (λ (n : ℕ). n == number) (eqb-true (number_of x.kind) k e) ∙ other) refl

module _ {F : Type 0} (tells : Item → Option F) (kept : F) where
  pub none-first : (bytes : List ℕ) → Told.NoneInFront bytes → Told.Governs tells kept bytes kept
  none-first bytes ends = ([], bytes, refl, tt, inr (ends, refl))

  -- ---- a search, from what was found so far

  abbrev pub FirstFrom : Option F → List ℕ → F → Type 0
  FirstFrom (Some found) bytes form = form ≡ found
  FirstFrom None bytes form = Told.Governs tells kept bytes form

  pub from-end : (o : Option F) (bytes : List ℕ) (form : F) → Told.NoneInFront bytes → form ≡ Told.or_else o kept → FirstFrom o bytes form
  from-end (Some found) bytes form ends is = is
  from-end None bytes form ends is = subst (Told.Governs tells kept bytes) (sym is) (none-first bytes ends)

  past-told : (o : Option F) (x : Item) (bytes rest : List ℕ) (form : F) → tells x ≡ o → Front bytes x rest → FirstFrom o rest form
      → Told.Governs tells kept bytes form
  past-told (Some found) x bytes rest form is f same = ([], bytes, refl, tt, inl (x, rest, f, is ∙ ap Some (sym same)))
  past-told None x bytes rest form is f g = first-step tells kept None x rest bytes form is f g

  pub from-past : (o : Option F) (x : Item) (bytes rest : List ℕ) (form : F) → Front bytes x rest → FirstFrom (option_or o (tells x)) rest form
      → FirstFrom o bytes form
  from-past (Some found) x bytes rest form f same = same
  from-past None x bytes rest form f g = past-told (tells x) x bytes rest form refl f g

pub governs-one : (bytes : List ℕ) (c d : Forms) → Governs bytes c → Governs bytes d → c ≡ d
governs-one bytes c d g h =
    let form = told-one told Kept bytes c.0 d.0 g.0 h.0 in
    let port = told-one port_told PortKept bytes c.1 d.1 g.1 h.1 in
    λ i. (form i, port i)

-- ---- a search finds what governs

abbrev GovernsFrom : State → List ℕ → Forms → Type 0
GovernsFrom s bytes c = FirstFrom told Kept s.0 bytes c.0 × FirstFrom port_told PortKept s.1 bytes c.1

ends_from : (s : State) (bytes : List ℕ) (c : Forms) → Told.NoneInFront bytes → c ≡ forms_of s → GovernsFrom s bytes c
ends_from s bytes c ends is = (
  from-end told Kept s.0 bytes c.0 ends (ap (λ (d : Forms). d.0) is),
  from-end port_told PortKept s.1 bytes c.1 ends (ap (λ (d : Forms). d.1) is),
)

past_from : (s : State) (x : Item) (bytes rest : List ℕ) (c : Forms) → Front bytes x rest → GovernsFrom (noted s x) rest c → GovernsFrom s bytes c
past_from s x bytes rest c f g =
    (from-past told Kept s.0 x bytes rest c.0 f g.0, from-past port_told PortKept s.1 x bytes rest c.1 f g.1)

complete_from : (s : State) (bytes : List ℕ) (c : Forms) → is_complete s ≡ true → c ≡ forms_of s → GovernsFrom s bytes c
complete_from (Some form, Some port) bytes c whole is = (ap (λ (d : Forms). d.0) is, ap (λ (d : Forms). d.1) is)
complete_from (Some form, None) bytes c whole is = absurd cc
complete_from (None, port) bytes c whole is = absurd cc

search_from : (s : State) (bytes : List ℕ) (c : Forms) (old new : Counts) → Searching s bytes c old new → GovernsFrom s bytes c
search_from s bytes c old new (search_ends is p q) = ends_from s bytes c (inl is) p
search_from s bytes c old new (search_stops e left bad p q) = ends_from s bytes c (inr (e, left, bad)) p
search_from s bytes c old new (both_found x rest f h p q) = past_from s x bytes rest c f (complete_from (noted s x) rest c h p)
search_from s bytes c old new (searched_past x rest f h p) = past_from s x bytes rest c f (search_from (noted s x) rest c (hit old) new p)

pub below : (n m : ℕ) → nat_lt n m ≡ true → n < m
below n m e = grind (arith, nat_tests)

pub not_below : (n m : ℕ) → nat_lt n m ≡ false → m ≤ n
not_below n m e = grind (arith, nat_tests)

-- a list that is not searched has fewer than eight bytes
pub search-governs : (bytes : List ℕ) (c : Forms) (old new : Counts) → 8 ≤ length bytes → Searches bytes c old new → Governs bytes c
search-governs bytes c old new long s = one_of (nat_lt (length bytes) 8) (λ e none. absurd (omega (arith, below (length bytes) 8 e, long)))
    (λ e search. search_from start bytes c old new search) s
