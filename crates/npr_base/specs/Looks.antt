-- The looks at headers that a reading takes, from the counts before it to those after it: by the bytes alone.
use Rattle.std.specs.Prelude.{◌≡◌, ◌≢◌, ℕ, ◌<◌, ◌==◌, List, [], length, Result, Ok, Err}
use Rattle.std.specs.Bool.{MatchBool}
use Rattle.npr_base.specs.declared.refusal.DecodeError.{DecodeError}
use Rattle.npr_base.specs.declared.refusal.DecodeError.TheVariants.{OutOfMemory}
use Rattle.npr_base.specs.Counts.{Counts, hit, miss, raised}
use Rattle.npr_base.specs.Framing.{Item, Front, Fault, number_of}

-- an answer, and not that memory was refused
abbrev pub Answered : {V : Type 0} → Result V DecodeError → Type 0
Answered (Ok v) = Unit {0}
Answered (Err e) = e ≢ OutOfMemory

-- what takes the counts from old to new takes all counts on by the same number
pub record Adds (Takes : Counts → Counts → Type 0) (old new : Counts) : Type 0 where
  pub number : Counts
  pub is : new ≡ raised number old
  pub alike : (c : Counts) → Takes c (raised number c)

-- the looks that reading a value takes, from the counts before to those after, with their laws: they are one number
pub record Looking (V : Type 0) : Type 1 where
  pub Takes : V → Counts → Counts → Type 0
  pub one : (x : V) (old new other : Counts) → Takes x old new → Takes x old other → new ≡ other
  pub adds : (x : V) (old new : Counts) → Takes x old new → Adds (Takes x) old new

-- the headers inside values: there can be none, or these looks are taken at them
pub data Inside : Type 1 where
  nothing : Inside
  looked_through : Looking (List ℕ) → Inside

abbrev pub TakesInside : Inside → List ℕ → Counts → Counts → Type 0
TakesInside nothing bytes old new = new ≡ old
TakesInside (looked_through looking) bytes old new = looking.Takes bytes old new

-- attributes that read so, are faulty so and take so many looks inside, one after the other: a look at each header and those
-- inside its value, up to the end or to the first that is faulty; and a failed look where bytes are left and none stands
pub data ListLooks {M : Type 0} (reads : Item → M → Type 0) (faulty : Item → DecodeError → Type 0) (takes : Item → Counts → Counts → Type 0)
    : List ℕ → Counts → Counts → Type 0 where
  list_ends : {bytes : List ℕ} {old new : Counts} → bytes ≡ [] → new ≡ old → ListLooks reads faulty takes bytes old new
  none_stands : {bytes : List ℕ} {old new : Counts} (e : DecodeError) → 0 < length bytes → Fault bytes e → new ≡ miss old
      → ListLooks reads faulty takes bytes old new
  faulty_stands : {bytes : List ℕ} {old new : Counts} (x : Item) (rest : List ℕ) (e : DecodeError) → Front bytes x rest → faulty x e
      → takes x (hit old) new → ListLooks reads faulty takes bytes old new
  passed : {bytes : List ℕ} {old new : Counts} (x : Item) (rest : List ℕ) (m : M) (mid : Counts) → Front bytes x rest → reads x m
      → takes x (hit old) mid → ListLooks reads faulty takes rest mid new → ListLooks reads faulty takes bytes old new

-- the values of one number take these looks, and attributes of other numbers those
abbrev pub LooksAt : ℕ → (List ℕ → Counts → Counts → Type 0) → (Item → Counts → Counts → Type 0) → Item → Counts → Counts → Type 0
LooksAt number within others x old new = MatchBool (number_of x.kind == number) (within x.value old new) (others x old new)
