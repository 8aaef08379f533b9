-- What the bytes after a header mean where a list is searched first for what governs it, and then read: in a context that the header
-- tells, and the first attribute that tells something.
--     IsList, ListFault, ListTakes     the bytes are the list, the first fault in them, and the looks that reading them takes
--     governed_body                    what the bytes after a header mean
--     under_governed                   in the context that governs them, attributes are what the bytes mean
use Rattle.std.proofs.Common.{◌≡◌, ℕ, List, Option, None, map, sym, ap, subst, ◌∙◌, arith}
use Rattle.npr_base.specs.Counts.{Counts, raised}
use Rattle.npr_base.specs.declared.refusal.DecodeError.{DecodeError}
use Rattle.npr_base.specs.Family.{Writing, Reading, Family, fits-small, written_by, unfit_by, list_looking}
use Rattle.npr_base.specs.FirstTold.{first_told, Governs, Searches}
use Rattle.npr_base.specs.lemmas.FirstTold.{governs-one, first_governs, governs_first, searches-governs, searched, search-one, search-adds}
use Rattle.npr_base.specs.Framing.{Item, IsBytes}
use Rattle.npr_base.specs.Layout.{Layout}
use Rattle.npr_base.specs.Lists.{AllOf, ReadsList, FirstFault, encodings, first_unfit, list_members}
use Rattle.npr_base.specs.lemmas.List.{ReadsList-one, FirstFault-excludes, ReadsList-known, encodings-read, ReadsList-grows}
use Rattle.npr_base.specs.Looks.{Adds, Looking}
use Rattle.npr_base.specs.lemmas.Looks.{plus, raised-more}
use Rattle.npr_base.specs.lemmas.LookBounds.{list-walked, list-saw, searched-read, searched-saw}
use Rattle.npr_base.specs.Message.{Body, grammar_of, IsUnder}

module _ {T H M C : Type 0} {w : Writing M} (tells : Item → Option T) (default : T) (told : M → Option T) (reading : C → Reading w)
    (context_of : H → T → C) (alike : (c : C) (x : Item) (m : M) → (reading c).Reads x m → tells x ≡ told m) where
  -- the family under a header, and what governs
  abbrev under : H → T → Reading w
  under h t = reading (context_of h t)

  -- the bytes are the list, each attribute read under what governs them all
  abbrev pub IsList : H → List ℕ → List M → Type 0
  IsList h bytes xs = (t : T) × Governs tells default bytes t × ReadsList (under h t).Reads bytes xs

  -- the first fault of bytes that are none
  abbrev pub ListFault : H → List ℕ → DecodeError → Type 0
  ListFault h bytes e = (t : T) × Governs tells default bytes t × FirstFault (under h t).Reads (under h t).Faulty bytes e

  -- the looks that reading the bytes takes: those of the search, and then those at the attributes
  abbrev pub ListTakes : H → List ℕ → Counts → Counts → Type 0
  ListTakes h bytes old new = (t : T) × (mid : Counts) × Searches tells default bytes t old mid × (list_looking (under h t)).Takes bytes mid new

  -- what can be read: each attribute under what the first of them tells
  abbrev pub IsCoherentList : H → List M → Type 0
  IsCoherentList h xs = AllOf (under h (first_told told default xs)).Coherent xs

  pub list-one : (h : H) (bytes : List ℕ) (xs ys : List M) → IsList h bytes xs → IsList h bytes ys → xs ≡ ys
  list-one h bytes xs ys (a, g, p) (b, k, q) =
      ReadsList-one (under h a).Reads (under h a).one_reading bytes xs ys p
      (subst (λ (t : T). ReadsList (under h t).Reads bytes ys) (governs-one tells default bytes b a k g) q)

  pub list-sound : (h : H) (bytes : List ℕ) (xs : List M) (e : DecodeError) → IsList h bytes xs → ListFault h bytes e → ⊥
  list-sound h bytes xs e (a, g, p) (b, k, q) =
      FirstFault-excludes (under h b).Reads (under h b).Faulty (under h b).no_fault bytes e xs q
      (subst (λ (t : T). ReadsList (under h t).Reads bytes xs) (governs-one tells default bytes a b g k) p)

  pub list-coherent : (h : H) (bytes : List ℕ) (xs : List M) → IsBytes bytes → IsList h bytes xs → IsCoherentList h xs
  list-coherent h bytes xs is (t, g, p) =
      let f = under h t in
      let first = governs_first tells default told f.Reads (alike (context_of h t)) t bytes xs g p in
      subst (λ (u : T). AllOf (under h u).Coherent xs) first (ReadsList-known f.Coherent f.Reads f.reads_coherent bytes xs is p)

  pub list-back : (h : H) (xs : List M) → IsCoherentList h xs → first_unfit (unfit_by w) xs ≡ None → IsList h (encodings (written_by w) xs) xs
  list-back h xs all fits =
      let t : T = first_told told default xs in
      let f : Reading w = under h t in
      let p : ReadsList f.Reads (encodings (written_by w) xs) xs =
      encodings-read f.Coherent (unfit_by w) (written_by w) f.Reads (fits-small f) f.reads_back xs all fits in
      (t, first_governs tells default told f.Reads (alike (context_of h t)) (encodings (written_by w) xs) xs p, p)

  pub looks-one : (h : H) (bytes : List ℕ) (old new other : Counts) → ListTakes h bytes old new → ListTakes h bytes old other → new ≡ other
  looks-one h bytes old new other (a, mid, s, p) (b, far, t, q) =
      let e = search-one tells default bytes b a old far mid t s in
      let same = subst (λ (z : T). (list_looking (under h z)).Takes bytes far other) e.0 q in
      (list_looking (under h a)).one bytes mid new other p (subst (λ (c : Counts). (list_looking (under h a)).Takes bytes c other) e.1 same)

  pub looks-add : (h : H) (bytes : List ℕ) (old new : Counts) → ListTakes h bytes old new → Adds (ListTakes h bytes) old new
  looks-add h bytes old new (t, mid, s, p) =
      let f : Reading w = under h t in
      let a = search-adds tells default bytes t old mid s in
      let b = (list_looking f).adds bytes mid new p in
      record {
        number = plus a.number b.number;
        is = b.is ∙ ap (raised b.number) a.is ∙ raised-more a.number b.number old;
        alike =
            λ c.
            let far : Counts = raised a.number c in
            (t, far, a.alike c, subst (λ (n : Counts). (list_looking f).Takes bytes far n) (raised-more a.number b.number c) (b.alike far));
      }

  abbrev pub governed_looking : H → Looking (List ℕ)
  governed_looking h = record { Takes = ListTakes h; one = looks-one h; adds = looks-add h }

  abbrev pub governed_body : Body H w
  governed_body = record {
    Reads = IsList;
    Faulty = ListFault;
    looks = governed_looking;
    Coherent = IsCoherentList;
    one_reading = list-one;
    no_fault = list-sound;
    reads_coherent = list-coherent;
    reads_back = list-back;
    grows = λ h bytes xs is p. ReadsList-grows (written_by w) (under h p.0).Reads (under h p.0).grows bytes xs is p.2;
    bounded = λ h bytes old new p.
        searched-read bytes old p.1 new (searched tells default bytes p.0 old p.1 p.2) (list-walked (under h p.0) bytes p.1 new p.3);
    saw = λ h bytes xs old new r p.
        let same = governs-one tells default bytes r.0 p.0 r.1 (searches-governs tells default bytes p.0 old p.1 p.2) in
        let read = subst (λ (t : T). ReadsList (under h t).Reads bytes xs) same r.2 in
        searched-saw bytes read.0 old p.1 new (list_members w.members xs) read.1 (searched tells default bytes p.0 old p.1 p.2)
        (list-saw (under h p.0) bytes xs p.1 new read p.3);
    depth = λ xs. 0;
    deep = λ h bytes xs p. omega arith;
  }

-- a message of a family, governed so
module _ {T H A C : Type 0} (f : Family A C) (L : Layout H) (standard : H) (tells : Item → Option T) (default : T) (told : f.Meaning → Option T)
    (context_of : H → T → C) (told_in : C → T) (tells_it : (h : H) (t : T) → told_in (context_of h t) ≡ t)
    (alike : (c : C) (x : Item) (m : f.Meaning) → (f.reading c).Reads x m → tells x ≡ told m) where
  -- the context of a list: what the header tells, and what governs
  abbrev pub IsContext : H → List ℕ → C → Type 0
  IsContext h bytes c = (t : T) × Governs tells default bytes t × (c ≡ context_of h t)

  abbrev pub SearchesIt : H → List ℕ → C → Counts → Counts → Type 0
  SearchesIt h bytes c = Searches tells default bytes (told_in c)

  abbrev body : Body H f.writing
  body = governed_body tells default told f.reading context_of alike

  under_told : (h : H) (bytes : List ℕ) (t : T) → Governs tells default bytes t
      → IsUnder (grammar_of f L standard body) f h bytes (context_of h t) (IsContext h bytes) (Searches tells default bytes t)
  under_told h bytes t governs = record {
    alone = λ d (other, g, is). is ∙ ap (context_of h) (governs-one tells default bytes other t g governs);
    reads = λ xs reads. (t, governs, reads);
    means =
        λ xs (other, g, reads).
        subst (λ (u : T). ReadsList (f.reading (context_of h u)).Reads bytes (map f.meaning xs)) (governs-one tells default bytes other t g governs) reads;
    faulty = λ e wrong. (t, governs, wrong);
    searched = searched tells default bytes t;
    looks = λ old mid new searches takes. (t, mid, searches, takes);
  }

  pub under_governed : (h : H) (bytes : List ℕ) (c : C) → IsContext h bytes c
      → IsUnder (grammar_of f L standard body) f h bytes c (IsContext h bytes) (SearchesIt h bytes c)
  under_governed h bytes c (t, governs, is) =
      subst (λ (d : C). IsUnder (grammar_of f L standard body) f h bytes d (IsContext h bytes) (SearchesIt h bytes d)) (sym is)
      (subst (λ (u : T). IsUnder (grammar_of f L standard body) f h bytes (context_of h t) (IsContext h bytes) (Searches tells default bytes u))
      (sym (tells_it h t)) (under_told h bytes t governs))
