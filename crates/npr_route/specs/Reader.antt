-- What a stack of half-read lists of next hops means.
use Rattle.std.specs.Prelude.{◌≡◌, ℕ, ◌+◌, ◌*◌, ◌/◌, ◌<◌, ◌≤◌, List, [], ◌∷◌, length, map}
use Rattle.npr_base.specs.Counts.{Counts}
use Rattle.npr_base.specs.Lists.{ReadsTo}
use Rattle.npr_base.specs.Framing.{Item, Front, number_of}
use Rattle.npr_route.specs.Ahead.{stopped, walk_room}
use Rattle.npr_route.specs.Attribute.{HopFront, Hop, typed, Reads, AreGoverned, AreHops}
use Rattle.npr_route.specs.AttributeView.{meaning_of, hop_of, hops_of}
use Rattle.npr_route.specs.FlatAttribute.{Context}
use Rattle.npr_route.specs.Governing.{Governs}
use Rattle.npr_route.specs.NextHopHeader.{head_in}
use Rattle.npr_route.specs.declared.next_hops.RouteNextHop.{RouteNextHop}
use Rattle.npr_route.specs.declared.reader.Level.{Level}
use Rattle.npr_route.specs.declared.reader.Reader.{Reader}

-- a front of the bytes is these next hops, and then the rest follows
abbrev pub HopsTo : Context → List ℕ → List Hop → List ℕ → Type 0
HopsTo c bytes [] rest = bytes ≡ rest
HopsTo c bytes (h ∷ hs) rest =
    (inside : List ℕ) × (more : List ℕ) × HopFront bytes h.head inside more × AreGoverned c inside h.attributes × HopsTo c more hs rest

-- what the attributes of the open next hop are read in
abbrev pub context_inside : Level → Context
context_inside l = typed l.context l.encap_type

-- of the bytes the level has read next hops, and of the open one attributes up to a place
pub record IsAt (bytes : List ℕ) (l : Level) (left : List ℕ) : Type 0 where
  pub front : List ℕ
  pub inside : List ℕ
  pub done : HopsTo l.context bytes (map hop_of l.next_hops.items) front
  pub is_open : HopFront front (head_in l.header) inside l.hops_rest.now
  pub governs : Governs l.context.2 inside l.encap_type
  pub read : ReadsTo (Reads (context_inside l)) inside (map meaning_of l.attributes.items) left

-- up to what hasn't been walked
abbrev pub IsOpen : List ℕ → Level → Type 0
IsOpen bytes l = IsAt bytes l l.walk

-- up to an attribute that holds the next hops in these bytes, behind which it goes on
pub record Waits (bytes : List ℕ) (l : Level) (value : List ℕ) : Type 0 where
  pub left : List ℕ
  pub item : Item
  pub at : IsAt bytes l left
  pub begins : Front left item l.walk
  pub is_nine : number_of item.kind ≡ 9
  pub value_is : item.value ≡ value

-- the levels that wait for one another, the outermost first, from bytes in one context to the value inside in another
abbrev pub Chain : Context → List ℕ → List Level → Context → List ℕ → Type 0
Chain c bytes [] d value = (c ≡ d) × (bytes ≡ value)
Chain c bytes (f ∷ fs) d value = (c ≡ f.context) × (inner : List ℕ) × Waits bytes f inner × Chain (context_inside f) inner fs d value

abbrev pub Tied : Context → List ℕ → Reader → Type 0
Tied c bytes r = (value : List ℕ) × IsOpen value r.level × Chain c bytes r.stack.items r.level.context value

-- a next hop has been opened behind others
pub record Opens (c : Context) (bytes : List ℕ) (before : List RouteNextHop) (l : Level) : Type 0 where
  pub context : l.context ≡ c
  pub next_hops : l.next_hops.items ≡ before
  pub attributes : l.attributes.items ≡ []
  pub front : HopFront bytes (head_in l.header) l.walk l.hops_rest.now
  pub governs : Governs c.2 l.walk l.encap_type

-- what is left to do
abbrev pub level_weight : Level → ℕ
level_weight l = 1 + 2 * (length l.walk + length l.hops_rest.now)

abbrev pub weight_of : List Level → ℕ
weight_of [] = 0
weight_of (l ∷ ls) = level_weight l + weight_of ls

abbrev pub weight : Reader → ℕ
weight r = level_weight r.level + weight_of r.stack.items

-- ---- looks

-- the successful looks for which a reading has room, where each attribute ahead had one already, and the failed ones that its
-- searches have had, at most one in each open list
pub record Account : Type 0 where
  pub room : ℕ
  pub stops : ℕ

abbrev pub level_account : Level → Account
level_account l = record { room = walk_room l.walk + 2 * (length l.hops_rest.now / 4); stops = stopped l.walk }

abbrev pub account_of : List Level → Account
account_of [] = record { room = 0; stops = 0 }
account_of (l ∷ ls) = record {
  room = (level_account l).room + (account_of ls).room;
  stops = (level_account l).stops + (account_of ls).stops;
}

abbrev pub account : Reader → Account
account r = record {
  room = (level_account r.level).room + (account_of r.stack.items).room;
  stops = (level_account r.level).stops + (account_of r.stack.items).stops;
}

-- of so many bytes nothing has been read
abbrev pub unread : ℕ → Account
unread len = record { room = 2 * (len / 4); stops = 0 }

-- all has been
abbrev pub all_read : Account
all_read = record { room = 0; stops = 0 }

-- looks that a step adds: where there was room before there is as much less after, and those that fail are a search's
pub record Added (old new : Counts) (before after : Account) : Type 0 where
  pub kept : old.successful ≤ new.successful
  pub most : new.successful + after.room ≤ old.successful + before.room
  pub failed_kept : old.failed ≤ new.failed
  pub failed : new.failed + before.stops ≤ old.failed + after.stops

-- looks of a step that ends in a refusal, with so many bytes of attributes left
pub record Ended (old new : Counts) (before : Account) (walk : ℕ) : Type 0 where
  pub kept : old.successful ≤ new.successful
  pub most : new.successful ≤ old.successful + before.room
  pub failed_kept : old.failed ≤ new.failed
  pub failed : new.failed ≤ old.failed + (1 + walk / 12)

-- a step after which the reading goes on
abbrev pub GoesOn : Reader → Reader → Counts → Counts → Type 0
GoesOn r next old new =
    ((c : Context) (bytes : List ℕ) → Tied c bytes r → Tied c bytes next) × (weight next < weight r) × Added old new (account r) (account next)

-- and one that ends it with the next hops
abbrev pub Ends : Reader → List RouteNextHop → Counts → Counts → Type 0
Ends r hops old new =
    ((c : Context) (bytes : List ℕ) → Tied c bytes r → AreHops c bytes (hops_of (map hop_of hops)))
    × Added old new (account r) all_read
