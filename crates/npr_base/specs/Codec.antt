-- Values of attributes: how each is read and written, with the laws of both.
use Rattle.std.specs.Prelude.{◌≡◌, ◌≢◌, ℕ, ◌+◌, ◌*◌, ◌<◌, ◌≤◌, List, length, take, Option, None}
use Rattle.npr_base.specs.declared.attribute_set.At.{At}
use Rattle.npr_base.specs.declared.refusal.DecodeError.{DecodeError}
use Rattle.npr_base.specs.declared.refusal.DecodeError.TheVariants.{ValueLength, HeaderTooShort}
use Rattle.npr_base.specs.declared.refusal.EmitError.{EmitError}
use Rattle.npr_base.specs.Counts.{Counts, AddsAtMost, SawEach}
use Rattle.npr_base.specs.Framing.{IsBytes, framed}
use Rattle.npr_base.specs.Layout.{Layout}
use Rattle.npr_base.specs.Showing.{Showing, shows_bytes}
use Rattle.npr_base.specs.Looks.{Inside, nothing, TakesInside}
use Rattle.npr_base.specs.lemmas.Looks.{none-most, none-saw}
use Rattle.npr_base.specs.lemmas.Codec.{exactly-one, exactly-sound, exactly-holds, exactly-back, exactly-grows, exactly-showing}
use Rattle.npr_base.specs.lemmas.Codec.{leading-one, leading-sound, leading-holds, leading-back, leading-grows, leading-showing}
use Rattle.npr_base.specs.lemmas.Codec.{raw-grows}
use Rattle.std.proofs.Common.{refl, sym, ◌∙◌, subst}

-- the attributes inside values that are read so: how many, at all depths, and the looks that reading takes at their headers,
-- which are no more than the bytes allow, and one for each where all are read
pub record Members {V : Type 0} (Reads : List ℕ → V → Type 0) : Type 1 where
  pub count : V → ℕ
  pub looks : Inside
  pub bounded : (bytes : List ℕ) (old new : Counts) → TakesInside looks bytes old new → AddsAtMost old new (length bytes)
  pub saw : (bytes : List ℕ) (x : V) (old new : Counts) → Reads bytes x → TakesInside looks bytes old new → SawEach old new (count x)

abbrev pub no_members : {V : Type 0} {Reads : List ℕ → V → Type 0} → Members Reads
no_members = record {
  count = λ x. 0;
  looks = nothing;
  bounded = λ bytes old new is. none-most (length bytes) old new is;
  saw = λ bytes x old new reads is. none-saw old new is;
}

pub record Codec (V : Type 0) : Type 1 where
  -- what the bytes of a value mean
  pub Reads : List ℕ → V → Type 0
  -- why those at a place mean nothing
  pub Wrong : At → List ℕ → DecodeError → Type 0
  -- the bytes that are written
  pub encode : V → List ℕ
  -- why it can't be written under a kind, if so, beside its length, which is asked of each; one that has a cause after its
  -- length has both here
  pub unfit : ℕ → V → Option EmitError
  -- what can be read
  pub Holds : V → Type 0
  -- the attributes inside it
  pub members : Members Reads
  -- what it is seen as in the bytes
  pub showing : Showing Reads Wrong
  -- and the laws
  pub one_reading : (bytes : List ℕ) (x y : V) → Reads bytes x → Reads bytes y → x ≡ y
  pub no_fault : (at : At) (bytes : List ℕ) (x : V) (e : DecodeError) → Reads bytes x → Wrong at bytes e → ⊥
  pub reads_holds : (bytes : List ℕ) (x : V) → IsBytes bytes → Reads bytes x → Holds x
  pub reads_back : (kind : ℕ) (x : V) → Holds x → unfit kind x ≡ None → Reads (encode x) x
  pub grows : (bytes : List ℕ) (x : V) → IsBytes bytes → Reads bytes x → 2 * framed (length (encode x)) ≤ 5 * (4 + length bytes)

-- a value of exactly the layout's size
abbrev pub exactly : {V : Type 0} → Layout V → Codec V
exactly L = record {
  Reads = λ bytes x. (length bytes ≡ L.size) × (x ≡ L.decode bytes);
  Wrong = λ at bytes e. (length bytes ≢ L.size) × (e ≡ ValueLength at (length bytes));
  encode = L.encode;
  unfit = λ kind x. None;
  Holds = L.Holds;
  members = no_members;
  one_reading = exactly-one L;
  no_fault = exactly-sound L;
  reads_holds = exactly-holds L;
  reads_back = λ kind x h fits. exactly-back L x h;
  grows = exactly-grows L;
  showing = exactly-showing L;
}

-- a fixed header, after which more bytes may stand that are not looked at
abbrev pub leading : {V : Type 0} → Layout V → Codec V
leading L = record {
  Reads = λ bytes x. (L.size ≤ length bytes) × (x ≡ L.decode (take L.size bytes));
  Wrong = λ at bytes e. (length bytes < L.size) × (e ≡ HeaderTooShort (length bytes) L.size);
  encode = L.encode;
  unfit = λ kind x. None;
  Holds = L.Holds;
  members = no_members;
  one_reading = leading-one L;
  no_fault = leading-sound L;
  reads_holds = leading-holds L;
  reads_back = λ kind x h fits. leading-back L x h;
  grows = leading-grows L;
  showing = leading-showing L;
}

-- bytes as they stand
abbrev pub raw : Codec (List ℕ)
raw = record {
  Reads = λ bytes x. x ≡ bytes;
  Wrong = λ at bytes e. ⊥;
  encode = λ x. x;
  unfit = λ kind x. None;
  Holds = IsBytes;
  members = no_members;
  one_reading = λ bytes x y p q. p ∙ sym q;
  no_fault = λ at bytes x e p q. q;
  reads_holds = λ bytes x is p. subst IsBytes (sym p) is;
  reads_back = λ kind x h f. refl;
  grows = raw-grows;
  showing = shows_bytes;
}
