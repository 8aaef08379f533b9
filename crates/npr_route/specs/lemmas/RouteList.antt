-- A list of route attributes has one meaning at most, which is coherent and is read again from what is written.
use Rattle.std.proofs.Common.{◌≡◌, ℕ, ◌*◌, ◌≤◌, List, length, None, ap, subst, ◌∙◌}
use Rattle.npr_base.specs.declared.refusal.DecodeError.{DecodeError}
use Rattle.npr_base.specs.lemmas.FirstTold.{governs-one, searches-governs, searched, search-one, search-adds}
use Rattle.npr_base.specs.Framing.{IsBytes}
use Rattle.npr_base.specs.Lists.{AllOf, ReadsList, encodings, first_unfit, list_members}
use Rattle.npr_base.specs.lemmas.List.{ReadsList-one, FirstFault-excludes, ReadsList-known, encodings-read, ReadsList-grows}
use Rattle.npr_base.specs.Counts.{Counts, AddsAtMostTwice, SawEach, raised}
use Rattle.npr_base.specs.Looks.{Adds}
use Rattle.npr_base.specs.lemmas.LookBounds.{list-walked, list-saw, searched-read, searched-saw}
use Rattle.npr_base.specs.Family.{list_looking, Reading, fits-small, written_by, unfit_by}
use Rattle.npr_base.specs.lemmas.Looks.{plus, raised-more}
use Rattle.npr_encapsulation.specs.declared.encap_type.RouteLwEnCapType.{RouteLwEnCapType}
use Rattle.npr_encapsulation.specs.declared.encap_type.RouteLwEnCapType.TheVariants.{None as NoEncapsulation}
use Rattle.npr_route.specs.Attribute.{Meaning, attributes_of, attributes_depth, first_type}
use Rattle.npr_route.specs.FlatAttribute.{Context}
use Rattle.npr_route.specs.AttributeFamily.{attributes, writing}
use Rattle.npr_route.specs.lemmas.Attribute.{attributes-depth}
use Rattle.npr_route.specs.Governing.{item_type}
use Rattle.npr_route.specs.lemmas.Governing.{first_governs, governs_first, all_read}
use Rattle.npr_route.specs.RouteList.{Under, IsRouteList, RouteListFault, RouteListTakes, IsCoherentList}

pub route-list-one : (under : Under) (bytes : List ℕ) (xs ys : List Meaning) → IsRouteList under bytes xs → IsRouteList under bytes ys → xs ≡ ys
route-list-one under bytes xs ys (a, g, p) (b, h, q) =
    let f : Reading writing = attributes (under.0, under.1, a) in
    ReadsList-one f.Reads f.one_reading bytes xs ys p
    (subst (λ (t : RouteLwEnCapType). ReadsList (attributes (under.0, under.1, t)).Reads bytes ys) (governs-one item_type NoEncapsulation bytes b a h g) q)

pub route-list-sound : (under : Under) (bytes : List ℕ) (xs : List Meaning) (e : DecodeError) → IsRouteList under bytes xs → RouteListFault under bytes e → ⊥
route-list-sound under bytes xs e (a, g, p) (b, h, q) =
    let f : Reading writing = attributes (under.0, under.1, b) in
    FirstFault-excludes f.Reads f.Faulty f.no_fault bytes e xs q
    (subst (λ (t : RouteLwEnCapType). ReadsList (attributes (under.0, under.1, t)).Reads bytes xs) (governs-one item_type NoEncapsulation bytes a b g h) p)

pub route-list-coherent : (under : Under) (bytes : List ℕ) (xs : List Meaning) → IsBytes bytes → IsRouteList under bytes xs → IsCoherentList under xs
route-list-coherent under bytes xs is p =
    let context : Context = (under.0, under.1, p.0) in
    let f : Reading writing = attributes context in
    let first : p.0 ≡ first_type NoEncapsulation (attributes_of xs) =
    governs_first NoEncapsulation p.0 context bytes (attributes_of xs) p.1 (all_read context bytes xs p.2) in
    subst (λ (t : RouteLwEnCapType). AllOf (attributes (under.0, under.1, t)).Coherent xs) first
    (ReadsList-known f.Coherent f.Reads f.reads_coherent bytes xs is p.2)

pub route-list-back : (under : Under) (xs : List Meaning) → IsCoherentList under xs → first_unfit (unfit_by writing) xs ≡ None
    → IsRouteList under (encodings (written_by writing) xs) xs
route-list-back under xs all fits =
    let type : RouteLwEnCapType = first_type NoEncapsulation (attributes_of xs) in
    let context : Context = (under.0, under.1, type) in
    let f : Reading writing = attributes context in
    let p : ReadsList f.Reads (encodings (written_by writing) xs) xs =
    encodings-read f.Coherent (unfit_by writing) (written_by writing) f.Reads (fits-small f) f.reads_back xs all fits in
    let all = all_read context (encodings (written_by writing) xs) xs p in
    (type, first_governs NoEncapsulation context (encodings (written_by writing) xs) (attributes_of xs) all, p)

pub route-list-grows : (under : Under) (bytes : List ℕ) (xs : List Meaning) → IsBytes bytes → IsRouteList under bytes xs
    → 2 * length (encodings (written_by writing) xs) ≤ 5 * length bytes
route-list-grows under bytes xs is (type, g, p) =
    let f : Reading writing = attributes (under.0, under.1, type) in
    ReadsList-grows (written_by writing) f.Reads f.grows bytes xs is p

pub route-list-deep : (under : Under) (bytes : List ℕ) (xs : List Meaning) → IsRouteList under bytes xs
    → 12 * attributes_depth (attributes_of xs) ≤ length bytes
route-list-deep under bytes xs (type, g, p) =
    let c : Context = (under.0, under.1, type) in
    attributes-depth c bytes (attributes_of xs) (all_read c bytes xs p)

pub route-list-looks-one : (under : Under) (bytes : List ℕ) (old new other : Counts) → RouteListTakes under bytes old new
    → RouteListTakes under bytes old other → new ≡ other
route-list-looks-one under bytes old new other (a, mid, s, p) (b, far, t, q) =
    let f : Reading writing = attributes (under.0, under.1, a) in
    let e = search-one item_type NoEncapsulation bytes b a old far mid t s in
    let same = subst (λ (z : RouteLwEnCapType). (list_looking (attributes (under.0, under.1, z))).Takes bytes far other) e.0 q in
    (list_looking f).one bytes mid new other p (subst (λ (c : Counts). (list_looking f).Takes bytes c other) e.1 same)

pub route-list-looks-add : (under : Under) (bytes : List ℕ) (old new : Counts) → RouteListTakes under bytes old new → Adds (RouteListTakes under bytes) old new
route-list-looks-add under bytes old new (type, mid, s, p) =
    let f : Reading writing = attributes (under.0, under.1, type) in
    let a = search-adds item_type NoEncapsulation bytes type old mid s in
    let b = (list_looking f).adds bytes mid new p in
    record {
      number = plus a.number b.number;
      is = b.is ∙ ap (raised b.number) a.is ∙ raised-more a.number b.number old;
      alike =
          λ c.
          let far : Counts = raised a.number c in
          (type, far, a.alike c, subst (λ (n : Counts). (list_looking f).Takes bytes far n) (raised-more a.number b.number c) (b.alike far));
    }

-- ---- what they are at most and at least

pub route-list-bounded : (under : Under) (bytes : List ℕ) (old new : Counts) → RouteListTakes under bytes old new → AddsAtMostTwice old new (length bytes)
route-list-bounded under bytes old new (type, mid, s, p) =
    let walked = list-walked (attributes (under.0, under.1, type)) bytes mid new p in
    searched-read bytes old mid new (searched item_type NoEncapsulation bytes type old mid s) walked

pub route-list-saw : (under : Under) (bytes : List ℕ) (xs : List Meaning) (old new : Counts) → IsRouteList under bytes xs → RouteListTakes under bytes old new
    → SawEach old new (list_members writing.members xs)
route-list-saw under bytes xs old new (a, g, reads) (type, mid, s, p) =
    let one = governs-one item_type NoEncapsulation bytes a type g (searches-governs item_type NoEncapsulation bytes type old mid s) in
    let read = subst (λ (t : RouteLwEnCapType). ReadsList (attributes (under.0, under.1, t)).Reads bytes xs) one reads in
    let saw = list-saw (attributes (under.0, under.1, type)) bytes xs mid new read p in
    searched-saw bytes read.0 old mid new (list_members writing.members xs) read.1 (searched item_type NoEncapsulation bytes type old mid s) saw
