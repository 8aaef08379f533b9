-- Steps of the reader of next hops, and the looks that the whole reading takes.
use Rattle.std.proofs.Common.{◌≡◌, ℕ, Bool, true, false, List, [], ◌∷◌, ◌++◌, refl, sym, subst}
use Rattle.npr_base.specs.Counts.{Counts, hit}
use Rattle.npr_route.specs.AttributeLooks.{AttributeLooks, hops_inside, HopLooks, hop_ends, faulty_in_hop, passed_in_hop, HopsLooks, hop_stands}
use Rattle.npr_route.specs.FlatAttribute.{Context}
use Rattle.npr_route.specs.Governing.{Searches}
use Rattle.npr_route.specs.NextHopHeader.{head_in}
use Rattle.npr_route.specs.Reader.{context_inside, Opens}
use Rattle.npr_route.specs.ReaderLooks.{Goes, WaitsAt, ChainAt}
use Rattle.npr_route.specs.declared.next_hops.RouteNextHop.{RouteNextHop}
use Rattle.npr_route.specs.declared.reader.Level.{Level}

-- ---- the stack

pub chain_at_push : (c : Context) (bytes : List ℕ) (start : Counts) (fs : List Level) (f : Level) (value inner : List ℕ) (at mid : Counts)
    → ChainAt c bytes start fs f.context value at → WaitsAt value at f inner mid → ChainAt c bytes start (fs ++ f ∷ []) (context_inside f) inner mid
chain_at_push c bytes start [] f value inner at mid (same, is, so) w =
    (same, inner, mid, subst (λ (b : List ℕ). WaitsAt b start f inner mid) (sym is) (subst (λ (k : Counts). WaitsAt value k f inner mid) (sym so) w), (refl, refl, refl))
chain_at_push c bytes start (g ∷ fs) f value inner at mid (same, i, m, v, p) w = (same, i, m, v, chain_at_push (context_inside g) i m fs f value inner at mid p w)

-- the level that waits for the inner bytes
pub record Popped (c : Context) (bytes : List ℕ) (start : Counts) (fs : List Level) (f : Level) (d : Context) (inner : List ℕ) (mid : Counts) : Type 0 where
  pub value : List ℕ
  pub at : Counts
  pub chain : ChainAt c bytes start fs f.context value at
  pub waits : WaitsAt value at f inner mid
  pub context : context_inside f ≡ d

pub chain_at_pop : (c : Context) (bytes : List ℕ) (start : Counts) (fs : List Level) (f : Level) (d : Context) (inner : List ℕ) (mid : Counts)
    → ChainAt c bytes start (fs ++ f ∷ []) d inner mid → Popped c bytes start fs f d inner mid
chain_at_pop c bytes start [] f d inner mid (same, i, m, v, (here, is, so)) = record {
  value = bytes;
  at = start;
  chain = (same, refl, refl);
  waits = subst (λ (b : List ℕ). WaitsAt bytes start f b mid) is (subst (λ (k : Counts). WaitsAt bytes start f i k) so v);
  context = here;
}
chain_at_pop c bytes start (g ∷ fs) f d inner mid (same, i, m, v, p) =
    let r = chain_at_pop (context_inside g) i m fs f d inner mid p in
    record { value = r.value; at = r.at; chain = (same, i, m, v, r.chain); waits = r.waits; context = r.context }

-- what the value that waits holds, as a look inside it
pub waits_inside : (bytes : List ℕ) (start : Counts) (f : Level) (inner : List ℕ) (mid end : Counts) (read : Bool) → (w : WaitsAt bytes start f inner mid)
    → HopsLooks (context_inside f) inner read mid end → AttributeLooks (context_inside f) w.item read (hit w.before) end
waits_inside bytes start f inner mid end read w h =
    hops_inside w.is_nine
    (subst (λ (v : List ℕ). HopsLooks (context_inside f) v read (hit w.before) end) (sym w.value_is) (subst (λ (k : Counts). HopsLooks (context_inside f) inner read k end) w.look h))

-- a fault inside ends all that waits
pub chain_at_stops : (c : Context) (bytes : List ℕ) (start : Counts) (fs : List Level) (d : Context) (value : List ℕ) (at end : Counts)
    → ChainAt c bytes start fs d value at → HopsLooks d value false at end → HopsLooks c bytes false start end
chain_at_stops c bytes start [] d value at end (same, is, so) h =
    subst (λ (k : Context). HopsLooks k bytes false start end) (sym same)
    (subst (λ (b : List ℕ). HopsLooks d b false start end) (sym is) (subst (λ (k : Counts). HopsLooks d value false k end) (sym so) h))
chain_at_stops c bytes start (f ∷ fs) d value at end (same, i, m, w, p) h =
    let inside = chain_at_stops (context_inside f) i m fs d value at end p h in
    subst (λ (k : Context). HopsLooks k bytes false start end) (sym same)
    (w.goes false end (faulty_in_hop w.item f.walk w.begins (waits_inside bytes start f i m end false w inside)))

-- where none waits, the list is the whole
pub chain_at_none : (c : Context) (bytes : List ℕ) (start : Counts) (fs : List Level) (d : Context) (value : List ℕ) (at end : Counts) → fs ≡ []
    → ChainAt c bytes start fs d value at → HopsLooks d value true at end → HopsLooks c bytes true start end
chain_at_none c bytes start fs d value at end none p h =
    let q = subst (λ (z : List Level). ChainAt c bytes start z d value at) none p in
    subst (λ (k : Context). HopsLooks k bytes true start end) (sym q.0)
    (subst (λ (b : List ℕ). HopsLooks d b true start end) (sym q.1) (subst (λ (k : Counts). HopsLooks d value true k end) (sym q.2) h))

-- ---- steps

-- a list that is read stands in its level, which goes on behind it
pub goes_behind : (bytes : List ℕ) (start : Counts) (f : Level) (inner : List ℕ) (mid now : Counts) → WaitsAt bytes start f inner mid
    → HopsLooks (context_inside f) inner true mid now → Goes bytes start f f.walk now
goes_behind bytes start f inner mid now w h =
    λ read end later. w.goes read end (passed_in_hop w.item f.walk now w.begins (waits_inside bytes start f inner mid now true w h) later)

-- a next hop that is opened, in front of bytes which from these counts on the list takes so
goes_opened : (c : Context) (front : List ℕ) (before : List RouteNextHop) (l : Level) (old new : Counts) → Opens c front before l
    → Searches c.2 l.walk l.encap_type (hit old) new → (read : Bool) (end : Counts) → HopLooks l.context l.encap_type l.walk l.hops_rest.now read new end
    → HopsLooks c front read old end
goes_opened c front before l old new o s read end later =
    hop_stands (head_in l.header) l.walk l.hops_rest.now l.encap_type new o.front s
    (subst (λ (k : Context). HopLooks k l.encap_type l.walk l.hops_rest.now read new end) o.context later)

-- so a list goes on in its first
pub goes_first : (c : Context) (bytes : List ℕ) (before : List RouteNextHop) (l : Level) (old new : Counts) → Opens c bytes before l
    → Searches c.2 l.walk l.encap_type (hit old) new → Goes bytes old l l.walk new
goes_first c bytes before l old new o s =
    λ read end later. subst (λ (k : Context). HopsLooks k bytes read old end) (sym o.context) (goes_opened c bytes before l old new o s read end later)

-- and a level in the one behind
pub goes_next : (bytes : List ℕ) (start : Counts) (l : Level) (before : List RouteNextHop) (next : Level) (now new : Counts) → Goes bytes start l [] now
    → Opens l.context l.hops_rest.now before next → Searches l.context.2 next.walk next.encap_type (hit now) new → Goes bytes start next next.walk new
goes_next bytes start l before next now new goes o s =
    λ read end later.
    let opened = goes_opened l.context l.hops_rest.now before next now new o s read end later in
    subst (λ (k : Context). HopsLooks k bytes read start end) (sym o.context) (goes read end (hop_ends refl opened))
