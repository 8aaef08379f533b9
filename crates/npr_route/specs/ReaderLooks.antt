-- The looks that a stack of half-read lists of next hops has taken, by those that are still to come.
use Rattle.std.specs.Prelude.{◌≡◌, ℕ, Bool, List, [], ◌∷◌}
use Rattle.npr_base.specs.Counts.{Counts, hit}
use Rattle.npr_base.specs.Framing.{Item, Front, number_of}
use Rattle.npr_route.specs.AttributeLooks.{HopLooks, HopsLooks}
use Rattle.npr_route.specs.FlatAttribute.{Context}
use Rattle.npr_route.specs.Reader.{context_inside}
use Rattle.npr_route.specs.declared.reader.Level.{Level}
use Rattle.npr_route.specs.declared.reader.Reader.{Reader}

-- whatever the rest of the open next hop and of its list takes from here on, the list takes from its start
abbrev pub Goes : List ℕ → Counts → Level → List ℕ → Counts → Type 0
Goes bytes start l left now =
    (read : Bool) (end : Counts) → HopLooks l.context l.encap_type left l.hops_rest.now read now end → HopsLooks l.context bytes read start end

-- so does the level that waits, at an attribute that holds the next hops in these bytes, which are read from these counts on
pub record WaitsAt (bytes : List ℕ) (start : Counts) (l : Level) (value : List ℕ) (inner : Counts) : Type 0 where
  pub left : List ℕ
  pub item : Item
  pub before : Counts
  pub goes : Goes bytes start l left before
  pub begins : Front left item l.walk
  pub is_nine : number_of item.kind ≡ 9
  pub value_is : item.value ≡ value
  pub look : inner ≡ hit before

-- the levels that wait for one another, the outermost first
abbrev pub ChainAt : Context → List ℕ → Counts → List Level → Context → List ℕ → Counts → Type 0
ChainAt c bytes start [] d value inner = (c ≡ d) × (bytes ≡ value) × (start ≡ inner)
ChainAt c bytes start (f ∷ fs) d value inner =
    (c ≡ f.context) × (within : List ℕ) × (mid : Counts) × WaitsAt bytes start f within mid × ChainAt (context_inside f) within mid fs d value inner

-- the counts of a reading that began at these
abbrev pub TiedAt : Context → List ℕ → Counts → Reader → Counts → Type 0
TiedAt c bytes start r now =
    (value : List ℕ) × (inner : Counts) × Goes value inner r.level r.level.walk now × ChainAt c bytes start r.stack.items r.level.context value inner

-- a step after which the reading goes on
abbrev pub Follows : Reader → Reader → Counts → Counts → Type 0
Follows r next old new = (c : Context) (bytes : List ℕ) (start : Counts) → TiedAt c bytes start r old → TiedAt c bytes start next new

-- and one that ends it
abbrev pub Finishes : Reader → Bool → Counts → Counts → Type 0
Finishes r read old new = (c : Context) (bytes : List ℕ) (start : Counts) → TiedAt c bytes start r old → HopsLooks c bytes read start new
