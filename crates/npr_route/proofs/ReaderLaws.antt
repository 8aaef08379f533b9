-- Steps of the reader of next hops, and what they have looked at.
use Rattle.std.proofs.Common.{◌≡◌, ℕ, ◌+◌, ◌*◌, ◌/◌, ◌≤◌, List, [], ◌∷◌, ◌++◌, length, map, refl, sym, ap, subst, ◌∙◌, arith}
use Rattle.std.proofs.lemmas.List.{map_push}
use Rattle.npr_base.specs.declared.refusal.DecodeError.{DecodeError}
use Rattle.npr_base.specs.Counts.{Counts, AddsAtMost, hit, miss}
use Rattle.npr_base.specs.Framing.{Item, Passes}
use Rattle.npr_base.specs.Lists.{Each}
use Rattle.npr_base.specs.lemmas.Front.{Front-takes}
use Rattle.npr_base.proofs.Lists.{ReadsTo-none}
use Rattle.npr_base.specs.lemmas.LookBounds.{Passes-length}
use Rattle.npr_route.specs.Attribute.{HopFront, Meaning, Hop, Reads, AreGoverned, AreHops, hops_wrong, AttributesWrong, governed_wrong}
use Rattle.npr_route.specs.Attribute.{first_wrong, later_wrong, HopsWrong, first_hop_wrong, later_hop_wrong, attributes_of}
use Rattle.npr_route.specs.AttributeView.{hops_of, meaning_of, hop_of}
use Rattle.npr_route.specs.FlatAttribute.{Context}
use Rattle.npr_route.specs.lemmas.Governing.{all_read}
use Rattle.npr_route.specs.lemmas.NextHopFront.{HopFront-length}
use Rattle.npr_route.specs.NextHopHeader.{head_in}
use Rattle.npr_route.specs.Reader.{HopsTo, context_inside, IsAt, IsOpen, Waits, Chain, Tied, Opens, level_weight, weight_of}
use Rattle.npr_route.specs.Reader.{level_account, account_of, account, unread, Account, Added, Ended}
use Rattle.npr_route.specs.Ahead.{ahead, stopped, SoughtIn}
use Rattle.npr_route_values.specs.RouteFlags.{next_hop_flag_bits}
use Rattle.npr_route_values.specs.declared.flags.RouteNextHopFlags.{RouteNextHopFlags}
use Rattle.npr_route.specs.declared.attribute.RouteAttribute.{RouteAttribute}
use Rattle.npr_route.specs.declared.next_hops.RouteNextHop.{RouteNextHop, RouteNextHop-F, roll-RouteNextHop}
use Rattle.npr_route.specs.declared.reader.Level.{Level}
use Rattle.npr_route.specs.declared.reader.Reader.{Reader}
use Rattle.npr_route.specs.lemmas.Ahead.{room_opened, stopped_once}
use Rattle.npr_route.proofs.Views.{view_hop_made}

-- ---- lists and the trees of meanings

-- what is wrong behind attributes that were read
wrong_behind : (c : Context) (items : List Item) (bytes left : List ℕ) (ms : List Meaning) (e : DecodeError) → Passes bytes items left → Each (Reads c) items ms
    → AttributesWrong c left e → AttributesWrong c bytes e
wrong_behind c [] bytes left [] e p h w = subst (λ (b : List ℕ). AttributesWrong c b e) (sym p) w
wrong_behind c [] bytes left (m ∷ ms) e p h w = absurd h
wrong_behind c (x ∷ items) bytes left [] e p h w = absurd h
wrong_behind c (x ∷ items) bytes left (m ∷ ms) e (rest, f, p) h w = later_wrong x rest m f h.0 (wrong_behind c items rest left ms e p h.1 w)

pub HopsTo-more : (c : Context) (bytes : List ℕ) (hs : List Hop) (front inside rest : List ℕ) (h : Hop) → HopsTo c bytes hs front → HopFront front h.head inside rest
    → AreGoverned c inside h.attributes → HopsTo c bytes (hs ++ h ∷ []) rest
HopsTo-more c bytes [] front inside rest h p f a = (inside, rest, subst (λ (b : List ℕ). HopFront b h.head inside rest) (sym p) f, a, refl)
HopsTo-more c bytes (k ∷ hs) front inside rest h (i, r, g, b, p) f a = (i, r, g, b, HopsTo-more c r hs front inside rest h p f a)

all_hops : (c : Context) (bytes : List ℕ) (hs : List Hop) → HopsTo c bytes hs [] → AreHops c bytes (hops_of hs)
all_hops c bytes [] p = p
all_hops c bytes (h ∷ hs) (inside, rest, f, a, p) = (inside, rest, f, a, all_hops c rest hs p)

pub hops_wrong_behind : (c : Context) (bytes front : List ℕ) (hs : List Hop) (e : DecodeError) → HopsTo c bytes hs front → HopsWrong c front e → HopsWrong c bytes e
hops_wrong_behind c bytes front [] e p w = subst (λ (b : List ℕ). HopsWrong c b e) (sym p) w
hops_wrong_behind c bytes front (h ∷ hs) e (inside, rest, f, a, p) w = later_hop_wrong h.head inside rest h.attributes f a (hops_wrong_behind c rest front hs e p w)

-- ---- faults

-- what is wrong at the place is wrong with the list
pub wrong_at : (bytes : List ℕ) (l : Level) (left : List ℕ) (e : DecodeError) → IsAt bytes l left → AttributesWrong (context_inside l) left e → HopsWrong l.context bytes e
wrong_at bytes l left e at w =
    let inside : AttributesWrong (context_inside l) at.inside e =
    wrong_behind (context_inside l) at.read.0 at.inside left (map meaning_of l.attributes.items) e at.read.1 at.read.2 w in
    hops_wrong_behind l.context bytes at.front (map hop_of l.next_hops.items) e at.done
    (first_hop_wrong (head_in l.header) at.inside l.hops_rest.now at.is_open (governed_wrong l.encap_type at.governs inside))

waits_wrong : (bytes : List ℕ) (l : Level) (value : List ℕ) (e : DecodeError) → Waits bytes l value → HopsWrong (context_inside l) value e → HopsWrong l.context bytes e
waits_wrong bytes l value e w h =
    wrong_at bytes l w.left e w.at (first_wrong w.item l.walk w.begins (hops_wrong w.is_nine (subst (λ (v : List ℕ). HopsWrong (context_inside l) v e) (sym w.value_is) h)))

pub chain_wrong : (c : Context) (bytes : List ℕ) (fs : List Level) (d : Context) (value : List ℕ) (e : DecodeError) → Chain c bytes fs d value → HopsWrong d value e → HopsWrong c bytes e
chain_wrong c bytes [] d value e (same, is) w =
    subst (λ (k : Context). HopsWrong k bytes e) (sym same) (subst (λ (b : List ℕ). HopsWrong d b e) (sym is) w)
chain_wrong c bytes (f ∷ fs) d value e (same, inner, waits, p) w =
    subst (λ (k : Context). HopsWrong k bytes e) (sym same) (waits_wrong bytes f inner e waits (chain_wrong (context_inside f) inner fs d value e p w))

-- ---- the stack

pub chain_push : (c : Context) (bytes : List ℕ) (fs : List Level) (f : Level) (value inner : List ℕ) → Chain c bytes fs f.context value → Waits value f inner
    → Chain c bytes (fs ++ f ∷ []) (context_inside f) inner
chain_push c bytes [] f value inner (same, is) w = (same, inner, subst (λ (b : List ℕ). Waits b f inner) (sym is) w, (refl, refl))
chain_push c bytes (g ∷ fs) f value inner (same, i, v, p) w = (same, i, v, chain_push (context_inside g) i fs f value inner p w)

pub chain_pop : (c : Context) (bytes : List ℕ) (fs : List Level) (f : Level) (d : Context) (inner : List ℕ) → Chain c bytes (fs ++ f ∷ []) d inner
    → (value : List ℕ) × Chain c bytes fs f.context value × Waits value f inner × (context_inside f ≡ d)
chain_pop c bytes [] f d inner (same, i, v, (here, p)) = (bytes, (same, refl), subst (λ (b : List ℕ). Waits bytes f b) p v, here)
chain_pop c bytes (g ∷ fs) f d inner (same, i, v, p) = let r = chain_pop (context_inside g) i fs f d inner p in (r.0, (same, i, v, r.1), r.2, r.3)

pub weight_push : (fs : List Level) (f : Level) → weight_of (fs ++ f ∷ []) ≡ weight_of fs + level_weight f
weight_push [] f = omega arith
weight_push (g ∷ fs) f = omega (arith, weight_push fs f)

-- one level more
pub record Pushed (fs : List Level) (f : Level) : Type 0 where
  pub room : (account_of (fs ++ f ∷ [])).room ≡ (account_of fs).room + (level_account f).room
  pub stops : (account_of (fs ++ f ∷ [])).stops ≡ (account_of fs).stops + (level_account f).stops

pub account_push : (fs : List Level) (f : Level) → Pushed fs f
account_push [] f = record { room = omega arith; stops = omega arith }
account_push (g ∷ fs) f =
    let p = account_push fs f in
    record { room = omega (arith, p.room); stops = omega (arith, p.stops) }

pub chain_none : (c : Context) (bytes : List ℕ) (fs : List Level) (d : Context) (value : List ℕ) → length fs ≡ 0 → Chain c bytes fs d value → (c ≡ d) × (bytes ≡ value)
chain_none c bytes [] d value n p = p
chain_none c bytes (f ∷ fs) d value n p = absurd (omega arith)

-- ---- a next hop is whole

abbrev pub closed_hop : Level → Hop
closed_hop l = record { head = head_in l.header; attributes = attributes_of (map meaning_of l.attributes.items) }

-- the open one, with all its attributes
pub closes : (bytes : List ℕ) (l : Level) → IsAt bytes l [] → HopsTo l.context bytes (map hop_of l.next_hops.items ++ closed_hop l ∷ []) l.hops_rest.now
closes bytes l at =
    HopsTo-more l.context bytes (map hop_of l.next_hops.items) at.front at.inside l.hops_rest.now (closed_hop l) at.done at.is_open
    (l.encap_type, at.governs, all_read (context_inside l) at.inside (map meaning_of l.attributes.items) at.read)

-- and with it the list, where nothing follows
pub whole : (c : Context) (bytes rest : List ℕ) (hs : List Hop) → rest ≡ [] → HopsTo c bytes hs rest → AreHops c bytes (hops_of hs)
whole c bytes rest hs is p = all_hops c bytes hs (subst (HopsTo c bytes hs) is p)

-- ---- levels take bytes

HopsTo-length : (c : Context) (bytes : List ℕ) (hs : List Hop) (rest : List ℕ) → HopsTo c bytes hs rest → length rest ≤ length bytes
HopsTo-length c bytes [] rest p = omega (arith, ap length p)
HopsTo-length c bytes (h ∷ hs) rest (inside, more, f, a, p) = omega (arith, HopsTo-length c more hs rest p, HopFront-length bytes h.head inside more f)

at_length : (bytes : List ℕ) (l : Level) (left : List ℕ) → IsAt bytes l left → 8 + length left ≤ length bytes
at_length bytes l left at =
    omega (
      arith,
      HopsTo-length l.context bytes (map hop_of l.next_hops.items) at.front at.done,
      HopFront-length at.front (head_in l.header) at.inside l.hops_rest.now at.is_open,
      Passes-length at.read.0 at.inside left at.read.1,
    )

-- twelve bytes for each that waits, and with them for a failed search
chain_stops : (c : Context) (bytes : List ℕ) (fs : List Level) (d : Context) (value : List ℕ) → Chain c bytes fs d value
    → 12 * (account_of fs).stops + length value ≤ length bytes
chain_stops c bytes [] d value p = omega (arith, ap length p.1)
chain_stops c bytes (f ∷ fs) d value (same, inner, w, p) =
    omega (arith, stopped_once f.walk, chain_stops (context_inside f) inner fs d value p, at_length bytes f w.left w.at, Front-takes w.left w.item f.walk w.begins, ap length w.value_is)

pub stops_fit : (c : Context) (bytes : List ℕ) (r : Reader) → Tied c bytes r → 12 * (account r).stops + length r.level.walk ≤ 4 + length bytes
stops_fit c bytes r (value, at, p) =
    omega (arith, stopped_once r.level.walk, chain_stops c bytes r.stack.items r.level.context value p, at_length value r.level r.level.walk at)

-- ---- looks

pub Added-none : (c : Counts) (before after : Account) → after.room ≤ before.room → before.stops ≤ after.stops → Added c c before after
Added-none c before after r s = record {
  kept = omega arith;
  most = omega (arith, r);
  failed_kept = omega arith;
  failed = omega (arith, s);
}

-- a look at an attribute, and those inside it
pub Added-read : (old mid new : Counts) (size : ℕ) (before after : Account) → mid ≡ hit old → AddsAtMost mid new size → new.failed ≡ mid.failed
    → after.room + (1 + 2 * (size / 4)) ≤ before.room → before.stops ≤ after.stops → Added old new before after
Added-read old mid new size before after is a quiet r t =
    let s = ap (λ (c : Counts). c.successful) is in
    let f = ap (λ (c : Counts). c.failed) is in
    record {
      kept = omega (arith, s, a.kept);
      most = omega (arith, s, a.successful, r);
      failed_kept = omega (arith, f, quiet);
      failed = omega (arith, f, quiet, t);
    }

-- a next hop that is opened, and its attributes looked through
pub Added-open : (inside : List ℕ) (old new : Counts) (before after : Account) → SoughtIn inside old new
    → after.room + (1 + ahead inside) ≤ before.room → before.stops + stopped inside ≤ after.stops → Added old new before after
Added-open inside old new before after s r t = record {
  kept = s.kept;
  most = omega (arith, s.most, r);
  failed_kept = s.failed_kept;
  failed = omega (arith, s.failed, t);
}

-- an attribute that holds next hops, the first of which is opened
pub Added-inner : (inside : List ℕ) (old mid new : Counts) (before after : Account) → mid ≡ hit old → SoughtIn inside mid new
    → after.room + (2 + ahead inside) ≤ before.room → before.stops + stopped inside ≤ after.stops → Added old new before after
Added-inner inside old mid new before after is s r t =
    let a = ap (λ (c : Counts). c.successful) is in
    let f = ap (λ (c : Counts). c.failed) is in
    record {
      kept = omega (arith, a, s.kept);
      most = omega (arith, a, s.most, r);
      failed_kept = omega (arith, f, s.failed_kept);
      failed = omega (arith, f, s.failed, t);
    }

-- a look that found an attribute, and one at what is no next hop in its value
pub Ended-hit-miss : (old mid new : Counts) (before : Account) (walk : ℕ) → mid ≡ hit old → new ≡ miss mid → 1 ≤ before.room → Ended old new before walk
Ended-hit-miss old mid new before walk is so r =
    let s = ap (λ (c : Counts). c.successful) is in
    let f = ap (λ (c : Counts). c.failed) is in
    let t = ap (λ (c : Counts). c.successful) so in
    let g = ap (λ (c : Counts). c.failed) so in
    record { kept = omega (arith, s, t); most = omega (arith, s, t, r); failed_kept = omega (arith, f, g); failed = omega (arith, f, g) }

-- a next hop in it that was opened
pub Ended-inner : (inside : List ℕ) (old mid new : Counts) (before : Account) (walk : ℕ) → mid ≡ hit old → SoughtIn inside mid new → 2 + ahead inside ≤ before.room → Ended old new before walk
Ended-inner inside old mid new before walk is s r =
    let a = ap (λ (c : Counts). c.successful) is in
    let f = ap (λ (c : Counts). c.failed) is in
    record {
      kept = omega (arith, a, s.kept);
      most = omega (arith, a, s.most, r);
      failed_kept = omega (arith, f, s.failed_kept);
      failed = omega (arith, f, s.failed, stopped_once inside);
    }

-- a look that found an attribute, and then what its value added
pub Ended-inside : (old mid new : Counts) (size walk : ℕ) (before : Account) → mid ≡ hit old → AddsAtMost mid new size → 1 + 2 * (size / 4) ≤ before.room → 4 + size ≤ walk → Ended old new before walk
Ended-inside old mid new size walk before is a r le =
    let s = ap (λ (c : Counts). c.successful) is in
    let f = ap (λ (c : Counts). c.failed) is in
    record {
      kept = omega (arith, s, a.kept);
      most = omega (arith, s, a.successful, r);
      failed_kept = omega (arith, f, a.failed_kept);
      failed = omega (arith, f, a.failed, le);
    }

-- the next hops of a level with the one that was open
pub hops_closed : (l : Level) (flags : RouteNextHopFlags) (xs : List RouteNextHop) → next_hop_flag_bits.number flags ≡ l.header.flags
    → xs ≡ l.next_hops.items ++ roll-RouteNextHop (record { flags = flags; hops = l.header.hops; interface_index = l.header.interface_index; attributes = l.attributes }) ∷ []
    → map hop_of xs ≡ map hop_of l.next_hops.items ++ closed_hop l ∷ []
hops_closed l flags xs bits is =
    let x : RouteNextHop-F RouteAttribute RouteNextHop = record { flags = flags; hops = l.header.hops; interface_index = l.header.interface_index; attributes = l.attributes } in
    let same : hop_of (roll-RouteNextHop x) ≡ closed_hop l =
    view_hop_made x
    ∙ ap (λ (f : ℕ). record { head = record { flags = f; hops = l.header.hops; interface_index = l.header.interface_index }; attributes = attributes_of (map meaning_of l.attributes.items) }) bits in
    ap (map hop_of) is ∙ map_push hop_of l.next_hops.items (roll-RouteNextHop x) ∙ ap (λ (h : Hop). map hop_of l.next_hops.items ++ h ∷ []) same

-- steps one after the other
pub Added-more : (start old new : Counts) (all before after : Account) → Added start old all before → Added old new before after → Added start new all after
Added-more start old new all before after p q = record {
  kept = omega (arith, p.kept, q.kept);
  most = omega (arith, p.most, q.most);
  failed_kept = omega (arith, p.failed_kept, q.failed_kept);
  failed = omega (arith, p.failed, q.failed);
}

pub Ended-bounds : (c : Context) (bytes : List ℕ) (r : Reader) (start old new : Counts) → Tied c bytes r → Added start old (unread (length bytes)) (account r)
    → Ended old new (account r) (length r.level.walk) → AddsAtMost start new (length bytes)
Ended-bounds c bytes r start old new tied p q = record {
  kept = omega (arith, p.kept, q.kept);
  successful = omega (arith, p.most, q.most);
  failed_kept = omega (arith, p.failed_kept, q.failed_kept);
  failed = omega (arith, p.failed, q.failed, stops_fit c bytes r tied);
}

-- ---- a next hop is opened

-- behind those before it
pub opened_at : (c : Context) (bytes front : List ℕ) (l : Level) (before : List RouteNextHop) → Opens c front before l → HopsTo c bytes (map hop_of before) front → IsOpen bytes l
opened_at c bytes front l before o done = record {
  front = front;
  inside = l.walk;
  done = rw (o.context, o.next_hops) done;
  is_open = o.front;
  governs = rw o.context o.governs;
  read = rw o.attributes (ReadsTo-none (Reads (context_inside l)) l.walk);
}

-- the first of a value
pub opened_first : (c : Context) (bytes : List ℕ) (l : Level) → Opens c bytes [] l → IsOpen bytes l
opened_first c bytes l o = opened_at c bytes bytes l [] o refl

-- what it leaves room for
pub room_open : (c : Context) (bytes : List ℕ) (before : List RouteNextHop) (l : Level) → Opens c bytes before l
    → (level_account l).room + (4 + ahead l.walk) ≤ 2 * (length bytes / 4)
room_open c bytes before l o = omega (arith, HopFront-length bytes (head_in l.header) l.walk l.hops_rest.now o.front, room_opened l.walk)
