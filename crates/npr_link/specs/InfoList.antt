-- The value of IFLA_LINKINFO (linux/if_link.h): a list of what a driver says of a link, read under what governs it.
--     governing            what the kinds in a list govern
--     info_list            how such a list is read and written
use Rattle.std.specs.Bool.{MatchBool}
use Rattle.std.specs.Prelude.{◌==◌, nat_lt}
use Rattle.std.proofs.Common.{◌≡◌, ℕ, ◌+◌, ◌≤◌, ◌<◌, Bool, true, false, List, length, Option, Some, None, refl, sym, ap, subst, ◌∙◌, arith, inl, inr}
use Rattle.npr_base.specs.Codec.{Codec}
use Rattle.npr_base.specs.Counts.{Counts, AddsAtMost, SawEach, raised, no_looks}
use Rattle.npr_base.specs.declared.refusal.DecodeError.{DecodeError}
use Rattle.npr_base.specs.Family.{fits-small, written_by, unfit_by, list_looking}
use Rattle.npr_base.specs.FirstTold.{first_told}
use Rattle.npr_base.specs.lemmas.FirstTold.{first_governs}
use Rattle.npr_base.specs.lemmas.Fit.{none_both}
use Rattle.npr_base.specs.Framing.{Item, IsBytes, number_of}
use Rattle.npr_base.specs.Lists.{AllOf, ReadsList, FirstFault, encodings, first_unfit, list_unfit, list_members, overlong}
use Rattle.npr_base.specs.lemmas.List.{ReadsList-one, FirstFault-excludes, ReadsList-known, encodings-read, list-grows}
use Rattle.npr_base.specs.lemmas.LookBounds.{list-bounded, list-saw, list-walked, searched-read, searched-saw, Passes-length}
use Rattle.npr_base.specs.Looks.{Looking, Adds, ListLooks, looked_through}
use Rattle.npr_base.specs.lemmas.Looks.{plus, raised-none, raised-more, none-most, same_counts}
use Rattle.npr_base.specs.Unterminated.{told_by, name_is}
use Rattle.npr_base.specs.Showing.{shows_list}
use Rattle.npr_base.specs.declared.attribute_set.AttributeSet.TheVariants.{LinkInfo as AtInfo}
use Rattle.npr_base.specs.lemmas.Bool.{both, one_of}
use Rattle.npr_base.specs.lemmas.Fails.{list-once}
use Rattle.npr_link.specs.Governing.{Forms, told, port_told, Governs, none_governs, start, Searching, Searches}
use Rattle.npr_link.specs.lemmas.Governing.{governs-one, other_tells, search-governs, below, not_below}
use Rattle.npr_link.specs.Info.{Meaning, writing, attributes}
use Rattle.npr_link.specs.InfoKind as OfKind
use Rattle.npr_link.specs.lemmas.InfoLooks.{search-one, looks-one, search-adds, search-searched}
use Rattle.npr_link.specs.lemmas.InfoOnce.{info_once}
use Rattle.npr_link.specs.Kinds.{Kind, IsKind, kind_name}
use Rattle.npr_link.specs.PortKind as OfPortKind
use Rattle.npr_link.specs.lemmas.ShortLists.{short-reads, short-fault, short-plain}
use Rattle.npr_link_tunnels.specs.declared.form.InfoForm.{InfoForm}
use Rattle.npr_link_tunnels.specs.declared.form.InfoForm.TheVariants.{Kept}
use Rattle.npr_link.specs.declared.port_kind.InfoPortForm.{InfoPortForm}
use Rattle.npr_link.specs.declared.port_kind.InfoPortForm.TheVariants.{Kept as PortKept}

-- ---- what the kinds in a list govern

abbrev pub told_of : Meaning → Option InfoForm
told_of (inl k) = Some (OfKind.form_named (kind_name k))
told_of m = None

abbrev pub port_told_of : Meaning → Option InfoPortForm
port_told_of (inr (inr (inr (inl k)))) = Some (OfPortKind.form_named (kind_name k))
port_told_of m = None

abbrev pub governing : List Meaning → Forms
governing ms = (first_told told_of Kept ms, first_told port_told_of PortKept ms)

-- ---- what is read tells what its bytes do

-- a kind that is read tells the form of its name
kind_tells : {F : Type 0} (number : ℕ) (form_named : List ℕ → F) (names : List (List ℕ)) (x : Item) (k : Kind) → (number_of x.kind == number) ≡ true
    → IsKind names x.value k → told_by number form_named x ≡ Some (form_named (kind_name k))
kind_tells number form_named names x k e is = rw e (ap (λ (w : List ℕ). Some (form_named w)) (name_is x.value (kind_name k) is.0.1))

told-read : (c : Forms) (x : Item) (m : Meaning) → (attributes c).Reads x m → told x ≡ told_of m
told-read c x (inl k) reads = one_of (number_of x.kind == 1)
    (λ e p. kind_tells 1 OfKind.form_named OfKind.info_kind_names x k e p) (λ e none. absurd none) reads
told-read c x (inr m) reads = one_of (number_of x.kind == 1) (λ e none. absurd none) (λ e p. rw e refl) reads

port-told-read : (c : Forms) (x : Item) (m : Meaning) → (attributes c).Reads x m → port_told x ≡ port_told_of m
port-told-read c x (inl k) reads = one_of (number_of x.kind == 1) (λ e p. other_tells 4 1 OfPortKind.form_named x e refl) (λ e none. absurd none) reads
port-told-read c x (inr (inl d)) reads = one_of (number_of x.kind == 1) (λ e none. absurd none)
    (λ e. one_of (number_of x.kind == 2) (λ f p. other_tells 4 2 OfPortKind.form_named x f refl) (λ f none. absurd none)) reads
port-told-read c x (inr (inr (inl y))) reads = one_of (number_of x.kind == 1) (λ e none. absurd none)
    (λ e. one_of (number_of x.kind == 2) (λ f none. absurd none)
    (λ f. one_of (number_of x.kind == 3) (λ g p. other_tells 4 3 OfPortKind.form_named x g refl) (λ g none. absurd none))) reads
port-told-read c x (inr (inr (inr (inl k)))) reads = one_of (number_of x.kind == 1) (λ e none. absurd none)
    (λ e. one_of (number_of x.kind == 2) (λ f none. absurd none)
    (λ f. one_of (number_of x.kind == 3) (λ g none. absurd none)
    (λ g. one_of (number_of x.kind == 4)
    (λ h p. kind_tells 4 OfPortKind.form_named OfPortKind.port_kind_names x k h p) (λ h none. absurd none)))) reads
port-told-read c x (inr (inr (inr (inr m)))) reads = one_of (number_of x.kind == 1) (λ e none. absurd none)
    (λ e. one_of (number_of x.kind == 2) (λ f none. absurd none)
    (λ f. one_of (number_of x.kind == 3) (λ g none. absurd none)
    (λ g. one_of (number_of x.kind == 4) (λ h none. absurd none) (λ h p. rw h refl)))) reads

-- a list that is read, under whatever, is governed by its kinds
pub read-governed : (c : Forms) (bytes : List ℕ) (ms : List Meaning) → ReadsList (attributes c).Reads bytes ms → Governs bytes (governing ms)
read-governed c bytes ms p = (
  first_governs told Kept told_of (attributes c).Reads (told-read c) bytes ms p,
  first_governs port_told PortKept port_told_of (attributes c).Reads (port-told-read c) bytes ms p,
)

-- ---- reading

abbrev pub IsInfoList : List ℕ → List Meaning → Type 0
IsInfoList bytes ms = (c : Forms) × Governs bytes c × ReadsList (attributes c).Reads bytes ms

abbrev pub InfoListFault : List ℕ → DecodeError → Type 0
InfoListFault bytes e = (c : Forms) × Governs bytes c × FirstFault (attributes c).Reads (attributes c).Faulty bytes e

-- each means what is read under the kinds of the list
abbrev pub IsGoverned : List Meaning → Type 0
IsGoverned ms = AllOf (attributes (governing ms)).Coherent ms

pub info-one : (bytes : List ℕ) (xs ys : List Meaning) → IsInfoList bytes xs → IsInfoList bytes ys → xs ≡ ys
info-one bytes xs ys (c, g, p) (d, h, q) =
    ReadsList-one (attributes c).Reads (attributes c).one_reading bytes xs ys p
    (subst (λ (f : Forms). ReadsList (attributes f).Reads bytes ys) (governs-one bytes d c h g) q)

pub info-sound : (bytes : List ℕ) (xs : List Meaning) (e : DecodeError) → IsInfoList bytes xs → InfoListFault bytes e → ⊥
info-sound bytes xs e (c, g, p) (d, h, q) =
    FirstFault-excludes (attributes c).Reads (attributes c).Faulty (attributes c).no_fault bytes e xs
    (subst (λ (f : Forms). FirstFault (attributes f).Reads (attributes f).Faulty bytes e) (governs-one bytes d c h g) q) p

pub info-governed : (bytes : List ℕ) (ms : List Meaning) → IsBytes bytes → IsInfoList bytes ms → IsGoverned ms
info-governed bytes ms is (c, g, p) =
    let f = attributes c in
    let same : c ≡ governing ms = governs-one bytes c (governing ms) g (read-governed c bytes ms p) in
    subst (λ (d : Forms). AllOf (attributes d).Coherent ms) same (ReadsList-known f.Coherent f.Reads f.reads_coherent bytes ms is p)

-- ---- a search, and the reading under what it finds

pub read-searched : (bytes : List ℕ) (ms : List Meaning) (c : Forms) (old new : Counts) → Searches bytes c old new
    → ReadsList (attributes c).Reads bytes ms → IsInfoList bytes ms
read-searched bytes ms c old new s p = one_of (nat_lt (length bytes) 8)
    (λ e none. short-reads bytes ms (below (length bytes) 8 e) (subst (λ (f : Forms). ReadsList (attributes f).Reads bytes ms) none.0 p))
    (λ e search. (c, search-governs bytes c old new (not_below (length bytes) 8 e) s, p)) s

pub fault-searched : (bytes : List ℕ) (e : DecodeError) (c : Forms) (old new : Counts) → Searches bytes c old new
    → FirstFault (attributes c).Reads (attributes c).Faulty bytes e → InfoListFault bytes e
fault-searched bytes e c old new s bad = one_of (nat_lt (length bytes) 8)
    (λ h none. short-fault bytes e (below (length bytes) 8 h) (subst (λ (f : Forms). FirstFault (attributes f).Reads (attributes f).Faulty bytes e) none.0 bad))
    (λ h search. (c, search-governs bytes c old new (not_below (length bytes) 8 h) s, bad)) s

-- and back
pub searched-reads : (bytes : List ℕ) (ms : List Meaning) (c : Forms) (old new : Counts) → IsInfoList bytes ms → Searches bytes c old new
    → ReadsList (attributes c).Reads bytes ms
searched-reads bytes ms c old new (d, g, p) s = one_of {R = ReadsList (attributes c).Reads bytes ms} (nat_lt (length bytes) 8)
    (λ e none.
    let same : none_governs ≡ c = sym none.0 in
    let plain : ReadsList (attributes none_governs).Reads bytes ms = short-plain bytes d ms (below (length bytes) 8 e) g p in
    subst (λ (f : Forms). ReadsList (attributes f).Reads bytes ms) same plain)
    (λ e search.
    let same : d ≡ c = governs-one bytes d c g (search-governs bytes c old new (not_below (length bytes) 8 e) s) in
    subst (λ (f : Forms). ReadsList (attributes f).Reads bytes ms) same p) s

-- ---- writing

abbrev pub info_bytes : List Meaning → List ℕ
info_bytes = encodings (written_by writing)

pub info-back : (ms : List Meaning) → IsGoverned ms → list_unfit (unfit_by writing) (written_by writing) ms ≡ None → IsInfoList (info_bytes ms) ms
info-back ms all h =
    let f = attributes (governing ms) in
    let fits = none_both (first_unfit (unfit_by writing) ms) (overlong (length (info_bytes ms))) h in
    let p = encodings-read f.Coherent (unfit_by writing) (written_by writing) f.Reads (fits-small f) f.reads_back ms all fits.0 in
    (governing ms, read-governed (governing ms) (info_bytes ms) ms p, p)

-- ---- looks

-- the search, and then the reading
abbrev pub InfoLooks : List ℕ → Counts → Counts → Type 0
InfoLooks bytes old new =
    (c : Forms) × (mid : Counts) × Searches bytes c old mid × ListLooks (attributes c).Reads (attributes c).Faulty (attributes c).looks.Takes bytes mid new

pub info-looks-one : (bytes : List ℕ) (old new other : Counts) → InfoLooks bytes old new → InfoLooks bytes old other → new ≡ other
info-looks-one bytes old new other (c, mid, s, t) (d, far, r, u) =
    let same : d ≡ c = both (nat_lt (length bytes) 8) (λ a b. b.0 ∙ sym a.0) (λ a b. search-one start bytes d c old far mid old b a) s r in
    let until : far ≡ mid = both (nat_lt (length bytes) 8) (λ a b. b.1 ∙ sym a.1) (λ a b. looks-one start bytes d c old far mid b a) s r in
    (list_looking (attributes c)).one bytes mid new other t
    (subst (λ (k : Counts). (list_looking (attributes c)).Takes bytes k other) until
    (subst (λ (f : Forms). (list_looking (attributes f)).Takes bytes far other) same u))

-- the search takes its looks from any counts
sought-adds : (b : Bool) (bytes : List ℕ) (c : Forms) (old new : Counts)
    → MatchBool b ((c ≡ none_governs) × (new ≡ old)) (Searching start bytes c old new)
    → Adds (λ (a z : Counts). MatchBool b ((c ≡ none_governs) × (z ≡ a)) (Searching start bytes c a z)) old new
sought-adds true bytes c old new p = record { number = no_looks; is = p.1 ∙ sym (raised-none old); alike = λ a. (p.0, raised-none a) }
sought-adds false bytes c old new p = let a = search-adds start bytes c old new p in record { number = a.number; is = a.is; alike = a.alike }

pub info-looks-add : (bytes : List ℕ) (old new : Counts) → InfoLooks bytes old new → Adds (InfoLooks bytes) old new
info-looks-add bytes old new (c, mid, s, t) =
    let a = sought-adds (nat_lt (length bytes) 8) bytes c old mid s in
    let b = (list_looking (attributes c)).adds bytes mid new t in
    record {
      number = plus a.number b.number;
      is = b.is ∙ ap (raised b.number) a.is ∙ raised-more a.number b.number old;
      alike =
          λ k.
          let far : Counts = raised a.number k in
          (c, far, a.alike k, subst (λ (z : Counts). (list_looking (attributes c)).Takes bytes far z) (raised-more a.number b.number k) (b.alike far));
    }

abbrev pub info_looking : Looking (List ℕ)
info_looking = record { Takes = InfoLooks; one = info-looks-one; adds = info-looks-add }

-- the search alone
pub sought-bounded : (bytes : List ℕ) (c : Forms) (old new : Counts) → Searches bytes c old new → AddsAtMost old new (length bytes)
sought-bounded bytes c old new s = one_of (nat_lt (length bytes) 8)
    (λ e none. subst (λ (k : Counts). AddsAtMost old k (length bytes)) (sym none.1) (none-most (length bytes) old old refl))
    (λ e search.
    let p = search-searched start bytes c old new search in
    let n = Passes-length p.passed bytes p.rest p.passes in
    record { kept = p.kept; successful = omega (arith, p.successful, n); failed_kept = p.failed_kept; failed = omega (arith, p.failed) }) s

-- looks that were counted apart are added
pub raised_apart : (n c : Counts) → raised (raised n no_looks) c ≡ raised n c
raised_apart n c = same_counts (raised (raised n no_looks) c) (raised n c) (omega arith) (omega arith)

pub apart-looks : (bytes : List ℕ) (c : Forms) (old mid inside new : Counts) → Searches bytes c old mid
    → ListLooks (attributes c).Reads (attributes c).Faulty (attributes c).looks.Takes bytes no_looks inside → new ≡ raised inside mid
    → InfoLooks bytes old new
apart-looks bytes c old mid inside new s t is =
    let a = (list_looking (attributes c)).adds bytes no_looks inside t in
    let same : raised a.number mid ≡ new = sym (is ∙ ap (λ (k : Counts). raised k mid) a.is ∙ raised_apart a.number mid) in
    (c, mid, s, subst (λ (k : Counts). (list_looking (attributes c)).Takes bytes mid k) same (a.alike mid))

pub info-bounded : (bytes : List ℕ) (old new : Counts) → InfoLooks bytes old new → AddsAtMost old new (length bytes)
info-bounded bytes old new (c, mid, s, t) = one_of (nat_lt (length bytes) 8)
    (λ e none. subst (λ (k : Counts). AddsAtMost k new (length bytes)) none.1 (list-bounded (attributes c) bytes mid new t))
    (λ e search.
    let long = not_below (length bytes) 8 e in
    let p = search-searched start bytes c old mid search in
    let a = searched-read bytes old mid new p (list-walked (attributes c) bytes mid new t) in
    let once = list-once (attributes c) (info_once c) bytes mid new t in
    record { kept = a.kept; successful = a.successful; failed_kept = a.failed_kept; failed = omega (arith, p.failed, once, long) }) s

pub info-saw : (bytes : List ℕ) (ms : List Meaning) (old new : Counts) → IsInfoList bytes ms → InfoLooks bytes old new
    → SawEach old new (list_members writing.members ms)
info-saw bytes ms old new is (c, mid, s, t) =
    let p = searched-reads bytes ms c old mid is s in
    let saw = list-saw (attributes c) bytes ms mid new p t in
    one_of (nat_lt (length bytes) 8) (λ e none. subst (λ (k : Counts). SawEach k new (list_members writing.members ms)) none.1 saw)
    (λ e search. searched-saw bytes p.0 old mid new (list_members writing.members ms) p.1 (search-searched start bytes c old mid search) saw) s

abbrev pub info_list : Codec (List Meaning)
info_list = record {
  Reads = IsInfoList;
  Wrong = λ at bytes e. InfoListFault bytes e;
  encode = info_bytes;
  unfit = λ kind ms. list_unfit (unfit_by writing) (written_by writing) ms;
  Holds = IsGoverned;
  members = record {
    count = list_members writing.members;
    looks = looked_through info_looking;
    bounded = info-bounded;
    saw = info-saw;
  };
  one_reading = info-one;
  no_fault = λ at bytes ms e p q. info-sound bytes ms e p q;
  reads_holds = info-governed;
  reads_back = λ kind ms all h. info-back ms all h;
  grows = λ bytes ms is p. list-grows (written_by writing) (attributes p.0).Reads (attributes p.0).grows bytes ms is p.2;
  showing = shows_list AtInfo 0;
}
