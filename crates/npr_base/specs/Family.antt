-- Families of attributes: how values are written, and what attributes mean.
use Rattle.std.specs.Prelude.{◌≡◌, ℕ, ◌+◌, ◌*◌, ◌<◌, ◌≤◌, ◌^◌, Bool, length, Option, None}
use Rattle.npr_base.specs.declared.refusal.DecodeError.{DecodeError}
use Rattle.npr_base.specs.declared.refusal.EmitError.{EmitError}
use Rattle.npr_base.specs.Framing.{Item, Small, Proper, framed, written}
use Rattle.npr_base.specs.Lists.{unfit_of}
use Rattle.npr_base.specs.lemmas.Fit.{unfit_of-short}
use Rattle.npr_base.specs.Counts.{Counts, AddsAtMost, SawEach}
use Rattle.npr_base.specs.Looks.{Looking, ListLooks}
use Rattle.npr_base.specs.Showing.{Seeing}
use Rattle.std.proofs.Common.{◌≡◌, ℕ, ◌*◌, ◌+◌, ◌≤◌, List, length}
use Rattle.npr_base.specs.lemmas.Looks.{list-one, list-adds}

-- what is written of a value as an attribute: its kind and value, whether NESTED is set in the kind besides, and why what is
-- inside can't be written, if so
pub record Shape : Type 0 where
  pub item : Item
  pub nested : Bool
  pub unfit : Option EmitError

-- the attribute that is written
abbrev pub written_as : Shape → Item
written_as s = written s.nested s.item

-- why there is none, if so: what is inside, or its length
abbrev pub unfit_as : Shape → Option EmitError
unfit_as s = unfit_of s.unfit s.item

abbrev pub shaped_item : {A : Type 0} → (A → Shape) → A → Item
shaped_item shape a = written_as (shape a)

abbrev pub shaped_unfit : {A : Type 0} → (A → Shape) → A → Option EmitError
shaped_unfit shape a = unfit_as (shape a)

-- how meanings are written, and how many attributes stand inside each at all depths
pub record Writing (M : Type 0) : Type 0 where
  pub shape : M → Shape
  pub members : M → ℕ

abbrev pub written_by : {M : Type 0} → Writing M → M → Item
written_by w m = written_as (w.shape m)

abbrev pub unfit_by : {M : Type 0} → Writing M → M → Option EmitError
unfit_by w m = unfit_as (w.shape m)

-- a family: what attributes mean that are written so, and the looks that reading their values takes, with the laws of all: the
-- looks are no more than the bytes of the value allow, and one for each attribute inside where all are read
pub record Reading {M : Type 0} (w : Writing M) : Type 1 where
  pub Reads : Item → M → Type 0
  pub Faulty : Item → DecodeError → Type 0
  pub looks : Looking Item
  pub Coherent : M → Type 0
  pub one_reading : (x : Item) (m n : M) → Reads x m → Reads x n → m ≡ n
  pub no_fault : (x : Item) (m : M) (e : DecodeError) → Reads x m → Faulty x e → ⊥
  pub reads_coherent : (x : Item) (m : M) → Proper x → Reads x m → Coherent m
  pub kinds : (m : M) → Coherent m → (written_by w m).kind < 2 ^ 16
  pub reads_back : (m : M) → Coherent m → unfit_by w m ≡ None → Reads (written_by w m) m
  pub grows : (x : Item) (m : M) → Proper x → Reads x m → 2 * framed (length (written_by w m).value) ≤ 5 * (4 + length x.value)
  pub bounded : (x : Item) (old new : Counts) → looks.Takes x old new → AddsAtMost old new (length x.value)
  pub saw : (x : Item) (m : M) (old new : Counts) → Reads x m → looks.Takes x old new → SawEach old new (w.members m)
  -- what they are seen as, read without memory
  pub seeing : Seeing Reads Faulty

-- a family of values: what one is, without where it lies in memory, how that is written, and what attributes mean in a context
pub record Family (A C : Type 0) : Type 1 where
  pub Meaning : Type 0
  pub meaning : A → Meaning
  pub writing : Writing Meaning
  pub reading : C → Reading writing

abbrev pub family_of : {A C M : Type 0} {w : Writing M} → (A → M) → (C → Reading w) → Family A C
family_of {A} {C} {M} {w} meaning reading = record { Meaning = M; meaning = meaning; writing = w; reading = reading }

-- what is written of a value
abbrev pub shaped : {A C : Type 0} → Family A C → A → Shape
shaped f a = f.writing.shape (f.meaning a)

-- what can be read and fits is an attribute that a text can hold
pub fits-small : {M : Type 0} {w : Writing M} (r : Reading w) (m : M) → r.Coherent m → unfit_by w m ≡ None → Small (written_by w m)
fits-small {M} {w} r m c h = record { kind = r.kinds m c; value = unfit_of-short (w.shape m).unfit (w.shape m).item h }

-- a list of attributes of a family
abbrev pub list_looking : {M : Type 0} {w : Writing M} → Reading w → Looking (List ℕ)
list_looking f = record {
  Takes = ListLooks f.Reads f.Faulty f.looks.Takes;
  one = λ bytes old new other p q. list-one f.Reads f.Faulty f.looks.Takes f.no_fault f.looks.one bytes old new other p q;
  adds = λ bytes old new p. list-adds f.Reads f.Faulty f.looks.Takes f.looks.adds bytes old new p;
}
