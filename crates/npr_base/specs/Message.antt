-- A message: a fixed header, and attributes to the end of the bytes.
use Rattle.std.specs.Prelude.{◌≡◌, ℕ, ◌*◌, ◌<◌, ◌≤◌, ◌⊎◌, List, ◌++◌, length, map, Option, None}
use Rattle.npr_base.specs.declared.refusal.DecodeError.{DecodeError}
use Rattle.npr_base.specs.declared.refusal.DecodeError.TheVariants.{HeaderTooShort}
use Rattle.npr_base.specs.declared.refusal.EmitError.{EmitError}
use Rattle.npr_base.specs.Framing.{IsBytes}
use Rattle.npr_base.specs.Lists.{AllOf, ReadsList, FirstFault, encodings, first_unfit, list_members, option_or, overlong}
use Rattle.npr_base.specs.lemmas.List.{ReadsList-one, FirstFault-excludes, ReadsList-known, encodings-read, ReadsList-grows}
use Rattle.npr_base.specs.Layout.{Layout}
use Rattle.npr_base.specs.Looks.{Looking}
use Rattle.npr_base.specs.lemmas.LookBounds.{list-saw, family-bounded}
use Rattle.npr_base.specs.Family.{list_looking, Writing, Reading, Family, fits-small, written_by, unfit_by}
use Rattle.npr_base.specs.Counts.{Counts, AddsAtMostTwice, SawEach}
use Rattle.npr_base.specs.Walk.{Searched}
use Rattle.npr_base.specs.declared.message.Message.{Message as MessageInMemory}
use Rattle.std.proofs.Common.{arith}

-- a message without where it lies in memory
pub record Message (H M : Type 0) : Type 0 where
  pub header : H
  pub attributes : List M

-- what the bytes after a header mean, where attributes are written so, and the looks that reading them takes, with the laws of all
pub record Body (H : Type 0) {M : Type 0} (w : Writing M) : Type 1 where
  pub Reads : H → List ℕ → List M → Type 0
  pub Faulty : H → List ℕ → DecodeError → Type 0
  pub looks : H → Looking (List ℕ)
  pub Coherent : H → List M → Type 0
  pub one_reading : (h : H) (bytes : List ℕ) (xs ys : List M) → Reads h bytes xs → Reads h bytes ys → xs ≡ ys
  pub no_fault : (h : H) (bytes : List ℕ) (xs : List M) (e : DecodeError) → Reads h bytes xs → Faulty h bytes e → ⊥
  pub reads_coherent : (h : H) (bytes : List ℕ) (xs : List M) → IsBytes bytes → Reads h bytes xs → Coherent h xs
  pub reads_back : (h : H) (xs : List M) → Coherent h xs → first_unfit (unfit_by w) xs ≡ None → Reads h (encodings (written_by w) xs) xs
  pub grows : (h : H) (bytes : List ℕ) (xs : List M) → IsBytes bytes → Reads h bytes xs → 2 * length (encodings (written_by w) xs) ≤ 5 * length bytes
  -- the looks are at most two for four bytes and one for twelve, and two that fail, and one for each attribute where all are read
  pub bounded : (h : H) (bytes : List ℕ) (old new : Counts) → (looks h).Takes bytes old new → AddsAtMostTwice old new (length bytes)
  pub saw : (h : H) (bytes : List ℕ) (xs : List M) (old new : Counts) → Reads h bytes xs → (looks h).Takes bytes old new
      → SawEach old new (list_members w.members xs)
  -- how deep lists stand inside one another; each level takes 12 bytes
  pub depth : List M → ℕ
  pub deep : (h : H) (bytes : List ℕ) (xs : List M) → Reads h bytes xs → 12 * depth xs ≤ length bytes

-- attributes of one family, in a context that the header tells
abbrev pub body_by : {H C M : Type 0} {w : Writing M} → (H → C) → (C → Reading w) → Body H w
body_by {H} {C} {M} {w} context_of r = record {
  Reads = λ h bytes xs. ReadsList (r (context_of h)).Reads bytes xs;
  Faulty = λ h bytes e. FirstFault (r (context_of h)).Reads (r (context_of h)).Faulty bytes e;
  looks = λ h. list_looking (r (context_of h));
  Coherent = λ h xs. AllOf (r (context_of h)).Coherent xs;
  one_reading = λ h bytes xs ys p q. let f = r (context_of h) in ReadsList-one f.Reads f.one_reading bytes xs ys p q;
  no_fault = λ h bytes xs e p q. let f = r (context_of h) in FirstFault-excludes f.Reads f.Faulty f.no_fault bytes e xs q p;
  reads_coherent = λ h bytes xs is p. let f = r (context_of h) in ReadsList-known f.Coherent f.Reads f.reads_coherent bytes xs is p;
  reads_back =
      λ h xs all fits.
      let f = r (context_of h) in
      encodings-read f.Coherent (unfit_by w) (written_by w) f.Reads (fits-small f) f.reads_back xs all fits;
  grows = λ h bytes xs is p. ReadsList-grows (written_by w) (r (context_of h)).Reads (r (context_of h)).grows bytes xs is p;
  bounded = λ h bytes old new t. family-bounded (r (context_of h)) bytes old new t;
  saw = λ h bytes xs old new p t. list-saw (r (context_of h)) bytes xs old new p t;
  depth = λ xs. 0;
  deep = λ h bytes xs p. omega arith;
}

-- a kind of message: what an attribute is, without where it lies in memory, and how that is written; how the header is read and
-- written, and which is the default; and what the bytes after it mean
pub record Grammar (H A : Type 0) : Type 1 where
  pub Meaning : Type 0
  pub meaning : A → Meaning
  pub writing : Writing Meaning
  pub layout : Layout H
  pub standard : H
  pub body : Body H writing

-- of a family, and what the bytes after the header mean
abbrev pub grammar_of : {H A C : Type 0} (f : Family A C) → Layout H → H → Body H f.writing → Grammar H A
grammar_of f L standard body = record { Meaning = f.Meaning; meaning = f.meaning; writing = f.writing; layout = L; standard = standard; body = body }

-- of one family, in a context that the header tells
abbrev pub grammar_by : {H A C : Type 0} (f : Family A C) → Layout H → H → (H → C) → Grammar H A
grammar_by f L standard context_of = grammar_of f L standard (body_by context_of f.reading)

-- a message of such a kind as the program holds it
abbrev pub Stored : {H A : Type 0} → Grammar H A → Type 0
Stored {H} {A} g = MessageInMemory H A

-- and without where it lies in memory
abbrev pub View : {H A : Type 0} → Grammar H A → Type 0
View {H} g = Message H g.Meaning

abbrev pub view : {H A : Type 0} (g : Grammar H A) → Stored g → View g
view g m = record { header = m.header; attributes = map g.meaning m.attributes.items }

-- the bytes are the message: a header, and then its attributes
pub record IsMessageOf {H M : Type 0} (L : Layout H) (Reads : H → List ℕ → List M → Type 0) (bytes : List ℕ) (m : Message H M) : Type 0 where
  pub front : List ℕ
  pub rest : List ℕ
  pub is : bytes ≡ front ++ rest
  pub size : length front ≡ L.size
  pub header : m.header ≡ L.decode front
  pub attributes : Reads m.header rest m.attributes

unfoldable pub IsMessage : {H A : Type 0} (g : Grammar H A) → List ℕ → View g → Type 0
IsMessage g bytes m = IsMessageOf g.layout g.body.Reads bytes m

-- the first fault of bytes that are no message: too few for the header, or a fault after it
unfoldable pub MessageFault : {H A : Type 0} → Grammar H A → List ℕ → DecodeError → Type 0
MessageFault g bytes e =
    let L = g.layout in
    ((length bytes < L.size) × (e ≡ HeaderTooShort (length bytes) L.size))
    ⊎ ((front : List ℕ) × (rest : List ℕ) × (bytes ≡ front ++ rest) × (length front ≡ L.size) × g.body.Faulty (L.decode front) rest e)

-- the looks at the headers behind that of a message: none where there are too few bytes for it
unfoldable pub MessageLooks : {H A : Type 0} → Grammar H A → List ℕ → Counts → Counts → Type 0
MessageLooks g bytes old new =
    let L = g.layout in
    ((length bytes < L.size) × (new ≡ old))
    ⊎ ((front : List ℕ) × (rest : List ℕ) × (bytes ≡ front ++ rest) × (length front ≡ L.size) × (g.body.looks (L.decode front)).Takes rest old new)

pub record IsCoherentOf {H M : Type 0} (L : Layout H) (Coherent : H → List M → Type 0) (m : Message H M) : Type 0 where
  pub header : L.Holds m.header
  pub attributes : Coherent m.header m.attributes

unfoldable pub IsCoherent : {H A : Type 0} (g : Grammar H A) → View g → Type 0
IsCoherent g m = IsCoherentOf g.layout g.body.Coherent m

-- the canonical bytes
unfoldable pub canonical_bytes : {H A : Type 0} (g : Grammar H A) → View g → List ℕ
canonical_bytes g m = g.layout.encode m.header ++ encodings (written_by g.writing) m.attributes

-- why there are none: the first attribute that can't be written, or a length that no usize holds
unfoldable pub message_unfit : {H A : Type 0} (g : Grammar H A) → View g → Option EmitError
message_unfit g m = option_or (first_unfit (unfit_by g.writing) m.attributes) (overlong (length (canonical_bytes g m)))

-- attributes are written, and counted, as their family says, and mean what it says
pub record IsOfFamily {H A C : Type 0} (g : Grammar H A) (f : Family A C) : Type 0 where
  pub written : (xs : List A) → encodings (written_by f.writing) (map f.meaning xs) ≡ encodings (written_by g.writing) (map g.meaning xs)
  pub unfit : (xs : List A) → first_unfit (unfit_by f.writing) (map f.meaning xs) ≡ first_unfit (unfit_by g.writing) (map g.meaning xs)
  pub members : (xs : List A) → list_members f.writing.members (map f.meaning xs) ≡ list_members g.writing.members (map g.meaning xs)
  pub alike : (xs ys : List A) → map f.meaning xs ≡ map f.meaning ys → map g.meaning xs ≡ map g.meaning ys

-- behind this header the bytes mean what the family reads in this context, which alone governs them, after a search for it that
-- takes such looks
pub record IsUnder {H A C : Type 0} (g : Grammar H A) (f : Family A C) (h : H) (bytes : List ℕ) (c : C) (governs : C → Type 0)
    (searches : Counts → Counts → Type 0) : Type 0 where
  pub alone : (d : C) → governs d → d ≡ c
  pub reads : (xs : List A) → ReadsList (f.reading c).Reads bytes (map f.meaning xs) → g.body.Reads h bytes (map g.meaning xs)
  pub means : (xs : List A) → g.body.Reads h bytes (map g.meaning xs) → ReadsList (f.reading c).Reads bytes (map f.meaning xs)
  pub faulty : (e : DecodeError) → FirstFault (f.reading c).Reads (f.reading c).Faulty bytes e → g.body.Faulty h bytes e
  pub searched : (old mid : Counts) → searches old mid → Searched bytes old mid
  pub looks : (old mid new : Counts) → searches old mid → (list_looking (f.reading c)).Takes bytes mid new → (g.body.looks h).Takes bytes old new

-- the header tells the context
abbrev pub governs_by : {H C : Type 0} → (H → C) → H → List ℕ → C → Type 0
governs_by context_of h bytes c = c ≡ context_of h

-- no search is made
abbrev pub none_searched : Counts → Counts → Type 0
none_searched old new = new ≡ old
