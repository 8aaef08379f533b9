-- A list in a value that is searched first for what governs it, and then read: attributes mean what they do under what the first of them
-- tells that tells something.
--     AreGoverned, GovernedFault       the bytes are the list, and the first fault in them
--     Sought, GovernedLooks            a search for what governs, and the looks that reading them takes
--     governed_list                    how such a list is read and written, with the laws of both
use Rattle.std.specs.Bool.{MatchBool}
use Rattle.std.specs.Prelude.{nat_lt}
use Rattle.std.proofs.Common.{◌≡◌, ℕ, ◌≤◌, ◌<◌, Bool, true, false, List, length, Option, refl, sym, ap, subst, ◌∙◌, arith}
use Rattle.std.proofs.lemmas.Bool.Decides.{nat_tests}
use Rattle.npr_base.specs.Codec.{Codec}
use Rattle.npr_base.specs.Counts.{Counts, AddsAtMost, SawEach, raised, no_looks}
use Rattle.npr_base.specs.declared.attribute_set.AttributeSet.{AttributeSet}
use Rattle.npr_base.specs.declared.refusal.DecodeError.{DecodeError}
use Rattle.npr_base.specs.Family.{Writing, Reading, written_by, unfit_by, list_looking}
use Rattle.npr_base.specs.FirstTold.{Governs, Searches}
use Rattle.npr_base.specs.lemmas.FirstTold.{governs-one, searches-governs, searched, search-one, search-adds}
use Rattle.npr_base.specs.Framing.{Item}
use Rattle.npr_base.specs.GovernedBody as Body
use Rattle.npr_base.specs.lemmas.Bool.{both, one_of}
use Rattle.npr_base.specs.lemmas.Fails.{FailsOnce, list-once}
use Rattle.npr_base.specs.lemmas.Fit.{none_both}
use Rattle.npr_base.specs.lemmas.List.{list-grows}
use Rattle.npr_base.specs.lemmas.LookBounds.{list-bounded, list-saw, list-walked, searched-read, searched-saw, Passes-length}
use Rattle.npr_base.specs.lemmas.Looks.{plus, raised-none, raised-more, none-most, same_counts}
use Rattle.npr_base.specs.lemmas.ShortList.{Plain, short-plain, short-reads, short-fault}
use Rattle.npr_base.specs.Lists.{ReadsList, FirstFault, encodings, first_unfit, list_unfit, list_members, overlong}
use Rattle.npr_base.specs.Looks.{Looking, Adds, ListLooks, looked_through}
use Rattle.npr_base.specs.Showing.{shows_list}

below : (n m : ℕ) → nat_lt n m ≡ true → n < m
below n m e = grind (arith, nat_tests)

not_below : (n m : ℕ) → nat_lt n m ≡ false → m ≤ n
not_below n m e = grind (arith, nat_tests)

-- a list of fewer than eight bytes has no room for an attribute that tells something and for one beside it, and is not searched
abbrev pub Sought : {T : Type 0} → (Item → Option T) → T → List ℕ → T → Counts → Counts → Type 0
Sought tells default bytes t old new =
    MatchBool (nat_lt (length bytes) 8) ((t ≡ default) × (new ≡ old)) (Searches tells default bytes t old new)

-- the search, and then the reading
abbrev pub GovernedLooks : {T M : Type 0} {w : Writing M} → (Item → Option T) → T → (T → Reading w) → List ℕ → Counts → Counts → Type 0
GovernedLooks {T} tells default reading bytes old new =
    (t : T) × (mid : Counts) × Sought tells default bytes t old mid
    × ListLooks (reading t).Reads (reading t).Faulty (reading t).looks.Takes bytes mid new

-- the bytes are the list, each attribute read under what governs them all, and the first fault of bytes that are none
abbrev pub AreGoverned : {T M : Type 0} {w : Writing M} → (Item → Option T) → T → (T → Reading w) → List ℕ → List M → Type 0
AreGoverned {T} tells default reading bytes ms = (t : T) × Governs tells default bytes t × ReadsList (reading t).Reads bytes ms

abbrev pub GovernedFault : {T M : Type 0} {w : Writing M} → (Item → Option T) → T → (T → Reading w) → List ℕ → DecodeError → Type 0
GovernedFault {T} tells default reading bytes e = (t : T) × Governs tells default bytes t × FirstFault (reading t).Reads (reading t).Faulty bytes e

module _ {T M : Type 0} {w : Writing M} (tells : Item → Option T) (default : T) (reading : T → Reading w) where
  module _ (plain : Plain tells reading) where
    -- ---- a search, and the reading under what it finds

    pub sought-reads : (bytes : List ℕ) (ms : List M) (t : T) (old new : Counts) → Sought tells default bytes t old new
        → ReadsList (reading t).Reads bytes ms → AreGoverned tells default reading bytes ms
    sought-reads bytes ms t old new s p = one_of (nat_lt (length bytes) 8)
        (λ e none.
        short-reads tells default reading plain bytes (below (length bytes) 8 e) ms (subst (λ (u : T). ReadsList (reading u).Reads bytes ms) none.0 p))
        (λ e search. (t, searches-governs tells default bytes t old new search, p)) s

    pub sought-fault : (bytes : List ℕ) (e : DecodeError) (t : T) (old new : Counts) → Sought tells default bytes t old new
        → FirstFault (reading t).Reads (reading t).Faulty bytes e → GovernedFault tells default reading bytes e
    sought-fault bytes e t old new s bad = one_of (nat_lt (length bytes) 8)
        (λ h none.
        short-fault tells default reading plain bytes (below (length bytes) 8 h) e
        (subst (λ (u : T). FirstFault (reading u).Reads (reading u).Faulty bytes e) none.0 bad))
        (λ h search. (t, searches-governs tells default bytes t old new search, bad)) s

    -- and back
    pub governed-sought : (bytes : List ℕ) (ms : List M) (t : T) (old new : Counts) → AreGoverned tells default reading bytes ms
        → Sought tells default bytes t old new → ReadsList (reading t).Reads bytes ms
    governed-sought bytes ms t old new (u, g, p) s = one_of {R = ReadsList (reading t).Reads bytes ms} (nat_lt (length bytes) 8)
        (λ e none.
        subst (λ (v : T). ReadsList (reading v).Reads bytes ms) (sym none.0)
        (short-plain tells default reading plain bytes u (below (length bytes) 8 e) g ms p))
        (λ e search.
        let same = governs-one tells default bytes u t g (searches-governs tells default bytes t old new search) in
        subst (λ (v : T). ReadsList (reading v).Reads bytes ms) same p) s

    pub governed-saw : (bytes : List ℕ) (ms : List M) (old new : Counts) → AreGoverned tells default reading bytes ms
        → GovernedLooks tells default reading bytes old new → SawEach old new (list_members w.members ms)
    governed-saw bytes ms old new is (t, mid, s, takes) =
        let p = governed-sought bytes ms t old mid is s in
        let saw = list-saw (reading t) bytes ms mid new p takes in
        one_of (nat_lt (length bytes) 8) (λ e none. subst (λ (k : Counts). SawEach k new (list_members w.members ms)) none.1 saw)
        (λ e search. searched-saw bytes p.0 old mid new (list_members w.members ms) p.1 (searched tells default bytes t old mid search) saw) s

  -- ---- looks

  sought-one : (bytes : List ℕ) (t u : T) (old m n : Counts) → Sought tells default bytes t old m → Sought tells default bytes u old n
      → (t ≡ u) × (m ≡ n)
  sought-one bytes t u old m n p q = both (nat_lt (length bytes) 8) (λ a b. (a.0 ∙ sym b.0, a.1 ∙ sym b.1))
      (λ a b. search-one tells default bytes t u old m n a b) p q

  pub governed-looks-one : (bytes : List ℕ) (old new other : Counts) → GovernedLooks tells default reading bytes old new
      → GovernedLooks tells default reading bytes old other → new ≡ other
  governed-looks-one bytes old new other (t, mid, s, p) (u, far, r, q) =
      let e = sought-one bytes u t old far mid r s in
      (list_looking (reading t)).one bytes mid new other p
      (subst (λ (k : Counts). (list_looking (reading t)).Takes bytes k other) e.1
      (subst (λ (v : T). (list_looking (reading v)).Takes bytes far other) e.0 q))

  -- the search takes its looks from any counts
  sought-adds : (b : Bool) (bytes : List ℕ) (t : T) (old new : Counts)
      → MatchBool b ((t ≡ default) × (new ≡ old)) (Searches tells default bytes t old new)
      → Adds (λ (a z : Counts). MatchBool b ((t ≡ default) × (z ≡ a)) (Searches tells default bytes t a z)) old new
  sought-adds true bytes t old new p = record { number = no_looks; is = p.1 ∙ sym (raised-none old); alike = λ a. (p.0, raised-none a) }
  sought-adds false bytes t old new p =
      let a = search-adds tells default bytes t old new p in
      record { number = a.number; is = a.is; alike = a.alike }

  pub governed-looks-add : (bytes : List ℕ) (old new : Counts) → GovernedLooks tells default reading bytes old new
      → Adds (GovernedLooks tells default reading bytes) old new
  governed-looks-add bytes old new (t, mid, s, p) =
      let a = sought-adds (nat_lt (length bytes) 8) bytes t old mid s in
      let b = (list_looking (reading t)).adds bytes mid new p in
      record {
        number = plus a.number b.number;
        is = b.is ∙ ap (raised b.number) a.is ∙ raised-more a.number b.number old;
        alike =
            λ k.
            let far : Counts = raised a.number k in
            (t, far, a.alike k, subst (λ (z : Counts). (list_looking (reading t)).Takes bytes far z) (raised-more a.number b.number k) (b.alike far));
      }

  abbrev pub governed_looking : Looking (List ℕ)
  governed_looking = record { Takes = GovernedLooks tells default reading; one = governed-looks-one; adds = governed-looks-add }

  -- the search alone
  pub sought-bounded : (bytes : List ℕ) (t : T) (old new : Counts) → Sought tells default bytes t old new → AddsAtMost old new (length bytes)
  sought-bounded bytes t old new s = one_of (nat_lt (length bytes) 8)
      (λ e none. subst (λ (k : Counts). AddsAtMost old k (length bytes)) (sym none.1) (none-most (length bytes) old old refl))
      (λ e search.
      let p = searched tells default bytes t old new search in
      let n = Passes-length p.passed bytes p.rest p.passes in
      record { kept = p.kept; successful = omega (arith, p.successful, n); failed_kept = p.failed_kept; failed = omega (arith, p.failed) }) s

  -- looks that were counted apart are added
  raised_apart : (n c : Counts) → raised (raised n no_looks) c ≡ raised n c
  raised_apart n c = same_counts (raised (raised n no_looks) c) (raised n c) (omega arith) (omega arith)

  pub apart-looks : (bytes : List ℕ) (t : T) (old mid inside new : Counts) → Sought tells default bytes t old mid
      → ListLooks (reading t).Reads (reading t).Faulty (reading t).looks.Takes bytes no_looks inside → new ≡ raised inside mid
      → GovernedLooks tells default reading bytes old new
  apart-looks bytes t old mid inside new s takes is =
      let a = (list_looking (reading t)).adds bytes no_looks inside takes in
      let same : raised a.number mid ≡ new = sym (is ∙ ap (λ (k : Counts). raised k mid) a.is ∙ raised_apart a.number mid) in
      (t, mid, s, subst (λ (k : Counts). (list_looking (reading t)).Takes bytes mid k) same (a.alike mid))

  module _ (once : (t : T) → FailsOnce (reading t).looks) where
    pub governed-bounded : (bytes : List ℕ) (old new : Counts) → GovernedLooks tells default reading bytes old new → AddsAtMost old new (length bytes)
    governed-bounded bytes old new (t, mid, s, takes) = one_of (nat_lt (length bytes) 8)
        (λ e none. subst (λ (k : Counts). AddsAtMost k new (length bytes)) none.1 (list-bounded (reading t) bytes mid new takes))
        (λ e search.
        let long = not_below (length bytes) 8 e in
        let p = searched tells default bytes t old mid search in
        let a = searched-read bytes old mid new p (list-walked (reading t) bytes mid new takes) in
        let last = list-once (reading t) (once t) bytes mid new takes in
        record { kept = a.kept; successful = a.successful; failed_kept = a.failed_kept; failed = omega (arith, p.failed, last, long) }) s

-- the codec, given what a meaning tells
module _ {T M : Type 0} {w : Writing M} (tells : Item → Option T) (default : T) (told : M → Option T) (reading : T → Reading w)
    (alike : (t : T) (x : Item) (m : M) → (reading t).Reads x m → tells x ≡ told m) (plain : Plain tells reading)
    (once : (t : T) → FailsOnce (reading t).looks) where
  abbrev itself : Unit {0} → T → T
  itself h t = t

  abbrev pub governed_list : AttributeSet → Codec (List M)
  governed_list set = record {
    Reads = AreGoverned tells default reading;
    Wrong = λ at bytes e. GovernedFault tells default reading bytes e;
    encode = encodings (written_by w);
    unfit = λ kind ms. list_unfit (unfit_by w) (written_by w) ms;
    Holds = Body.IsCoherentList tells default told reading itself alike tt;
    members = record {
      count = list_members w.members;
      looks = looked_through (governed_looking tells default reading);
      bounded = governed-bounded tells default reading once;
      saw = governed-saw tells default reading plain;
    };
    one_reading = Body.list-one tells default told reading itself alike tt;
    no_fault = λ at bytes ms e p q. Body.list-sound tells default told reading itself alike tt bytes ms e p q;
    reads_holds = Body.list-coherent tells default told reading itself alike tt;
    reads_back =
        λ kind ms all h.
        let fits = none_both (first_unfit (unfit_by w) ms) (overlong (length (encodings (written_by w) ms))) h in
        Body.list-back tells default told reading itself alike tt ms all fits.0;
    grows = λ bytes ms is p. list-grows (written_by w) (reading p.0).Reads (reading p.0).grows bytes ms is p.2;
    showing = shows_list set 0;
  }
