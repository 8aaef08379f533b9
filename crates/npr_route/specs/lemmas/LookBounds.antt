-- What the looks at route attributes and next hops are at most and at least, by their definition, and that it reads what the grammar reads.
use Rattle.std.proofs.Common.{◌≡◌, ◌⊎◌, ℕ, ◌+◌, ◌*◌, ◌/◌, ◌≤◌, Bool, true, false, List, length, refl, sym, ap, subst, ◌∙◌, arith, inl, inr, true≢false}
use Rattle.std.proofs.lemmas.Bool.{cases_lt}
use Rattle.npr_base.specs.declared.refusal.DecodeError.{DecodeError}
use Rattle.npr_base.specs.Counts.{Counts, AddsAtMost, SawEach, hit}
use Rattle.npr_base.specs.lemmas.FirstTold.{governs-one, searches-governs}
use Rattle.npr_base.specs.Framing.{Item, Front}
use Rattle.npr_base.specs.lemmas.Front.{Front-takes, Front-same, Front-sound, no_front}
use Rattle.npr_base.specs.lemmas.Looks.{none-most, none-saw}
use Rattle.npr_route.specs.Attribute.{HopHead, HopFront, typed, Meaning, flat, multi_path, Attributes, no_more, attribute, Hops, no_hops, hop, Reads}
use Rattle.npr_route.specs.Attribute.{AreAttributes, AreHops, Wrong, value_wrong, hops_wrong, AttributesWrong, none_in_front, first_wrong, later_wrong}
use Rattle.npr_route.specs.Attribute.{governed_wrong, HopsWrong, no_hop_in_front, first_hop_wrong, later_hop_wrong, members, attributes_members, hops_members}
use Rattle.npr_route.specs.lemmas.Attribute.{reads-sound}
use Rattle.npr_route.specs.AttributeLooks.{AttributeLooks, value_read, value_faulty, hops_inside, HopLooks, hop_ends, none_in_hop, faulty_in_hop, passed_in_hop}
use Rattle.npr_route.specs.AttributeLooks.{HopsLooks, hops_end, no_hop_stands, hop_stands, HopsTake, AttributeTakes}
use Rattle.npr_route.specs.FlatAttribute.{Context}
use Rattle.npr_route.specs.FlatFamily as Flats
use Rattle.npr_route.specs.Governing.{item_type, Governs}
use Rattle.npr_route.specs.lemmas.NextHopFront.{HopFront-same, HopFront-sound, HopFront-length, no_hop}
use Rattle.npr_route.specs.Ahead.{stopped, walk_room}
use Rattle.npr_route.specs.lemmas.Ahead.{room_front, room_opened, stopped_front, stopped_once, sought}
use Rattle.npr_encapsulation.specs.declared.encap_type.RouteLwEnCapType.{RouteLwEnCapType}

-- ---- at most

-- and none fails where all is read
record Few (read : Bool) (old new : Counts) (len : ℕ) : Type 0 where
  most : AddsAtMost old new len
  quiet : read ≡ true → new.failed ≡ old.failed

record HopFew (inside rest : List ℕ) (read : Bool) (old new : Counts) : Type 0 where
  kept : old.successful ≤ new.successful
  successful : new.successful ≤ old.successful + walk_room inside + 2 * (length rest / 4)
  failed_kept : old.failed ≤ new.failed
  failed : new.failed ≤ old.failed + 1 + (length inside + 4 + length rest) / 12
  -- a fault among the attributes ends the reading there
  stops : stopped inside ≡ 1 → new.failed ≤ old.failed + 1 + length inside / 12
  quiet : read ≡ true → (new.failed ≡ old.failed) × (stopped inside ≡ 0)

one_or_none : (n : ℕ) → n ≤ 1 → (n ≡ 0) ⊎ (n ≡ 1)
one_or_none n le = elim (cases_lt n 1) [ inl lt ↦ inl (omega arith) | inr ge ↦ inr (omega arith) ]

mutual
  attribute-few : (c : Context) (x : Item) (read : Bool) (old new : Counts) → AttributeLooks c x read old new → Few read old new (length x.value)
  attribute-few c x true old new (value_read m k r t) =
      record { most = (Flats.attributes c).bounded x old new t; quiet = λ e. ((Flats.attributes c).saw x m old new r t).failed }
  attribute-few c x false old new (value_faulty e k w t) = record { most = (Flats.attributes c).bounded x old new t; quiet = λ q. absurd (true≢false (sym q)) }
  attribute-few c x read old new (hops_inside k h) = hops-few c x.value read old new h

  hop-few : (c : Context) (type : RouteLwEnCapType) (inside rest : List ℕ) (read : Bool) (old new : Counts) → HopLooks c type inside rest read old new
      → HopFew inside rest read old new
  hop-few c type inside rest read old new (hop_ends is h) =
      let a = hops-few c rest read old new h in
      let none = ap stopped is in
      record {
        kept = a.most.kept;
        successful = omega (arith, a.most.successful);
        failed_kept = a.most.failed_kept;
        failed = omega (arith, a.most.failed);
        stops = λ s. absurd (omega (arith, s, none));
        quiet = λ e. (a.quiet e, none);
      }
  hop-few c type inside rest false old new (none_in_hop e left bad p) =
      let s = ap (λ (d : Counts). d.successful) p in
      let t = ap (λ (d : Counts). d.failed) p in
      record {
        kept = omega (arith, s);
        successful = omega (arith, s);
        failed_kept = omega (arith, t);
        failed = omega (arith, t);
        stops = λ st. omega (arith, t);
        quiet = λ q. absurd (true≢false (sym q));
      }
  hop-few c type inside rest false old new (faulty_in_hop x more f w) =
      let a = attribute-few (typed c type) x false (hit old) new w in
      let took = Front-takes inside x more f in
      record {
        kept = omega (arith, a.most.kept);
        successful = omega (arith, a.most.successful, room_front inside x more f);
        failed_kept = omega (arith, a.most.failed_kept);
        failed = omega (arith, a.most.failed, took);
        stops = λ st. omega (arith, a.most.failed, took);
        quiet = λ q. absurd (true≢false (sym q));
      }
  hop-few c type inside rest read old new (passed_in_hop x more mid f w p) =
      let a = attribute-few (typed c type) x true (hit old) mid w in
      let q = a.quiet refl in
      let b = hop-few c type more rest read mid new p in
      let took = Front-takes inside x more f in
      let st = stopped_front inside x more f in
      record {
        kept = omega (arith, a.most.kept, b.kept);
        successful = omega (arith, a.most.successful, b.successful, room_front inside x more f);
        failed_kept = omega (arith, q, b.failed_kept);
        failed = omega (arith, q, b.failed, took);
        stops = λ s. omega (arith, q, b.stops (sym st ∙ s), took);
        quiet = λ e. ((b.quiet e).0 ∙ q, st ∙ (b.quiet e).1);
      }

  hops-few : (c : Context) (bytes : List ℕ) (read : Bool) (old new : Counts) → HopsLooks c bytes read old new → Few read old new (length bytes)
  hops-few c bytes true old new (hops_end is p) =
      record { most = none-most (length bytes) old new p; quiet = λ e. ap (λ (d : Counts). d.failed) p }
  hops-few c bytes false old new (no_hop_stands e left bad p) =
      let s = ap (λ (d : Counts). d.successful) p in
      let t = ap (λ (d : Counts). d.failed) p in
      record {
        most = record { kept = omega (arith, s); successful = omega (arith, s); failed_kept = omega (arith, t); failed = omega (arith, t) };
        quiet = λ q. absurd (true≢false (sym q));
      }
  hops-few c bytes read old new (hop_stands h inside rest type mid f t p) =
      let s = sought c.2 type inside old (hit old) mid refl t in
      let b = hop-few c type inside rest read mid new p in
      let len = HopFront-length bytes h inside rest f in
      record {
        most = record {
          kept = omega (arith, s.kept, b.kept);
          successful = omega (arith, s.most, b.successful, room_opened inside, len);
          failed_kept = omega (arith, s.failed_kept, b.failed_kept);
          failed = elim (one_or_none (stopped inside) (stopped_once inside)) [
            | inl none ↦ omega (arith, s.failed, none, b.failed, len)
            | inr one ↦ omega (arith, s.failed, one, b.stops one, len)
          ];
        };
        quiet = λ e. let q = b.quiet e in omega (arith, q.0, q.1, s.failed, s.failed_kept);
      }

-- ---- what is read, and what is wrong

mutual
  attribute-reads : (c : Context) (x : Item) (old new : Counts) → AttributeLooks c x true old new → (m : Meaning) × Reads c x m
  attribute-reads c x old new (value_read m k r t) = (flat m, (k, r))
  attribute-reads c x old new (hops_inside k h) = let r = hops-read c x.value old new h in (multi_path r.0, (k, r.1))

  hop-reads : (c : Context) (type : RouteLwEnCapType) (inside rest : List ℕ) (old new : Counts) → HopLooks c type inside rest true old new
      → (ms : Attributes) × (hs : Hops) × AreAttributes (typed c type) inside ms × AreHops c rest hs
  hop-reads c type inside rest old new (hop_ends is h) = let r = hops-read c rest old new h in (no_more, r.0, is, r.1)
  hop-reads c type inside rest old new (passed_in_hop x more mid f w p) =
      let m = attribute-reads (typed c type) x (hit old) mid w in
      let r = hop-reads c type more rest mid new p in
      (attribute m.0 r.0, r.1, (x, more, f, m.1, r.2), r.3)

  pub hops-read : (c : Context) (bytes : List ℕ) (old new : Counts) → HopsLooks c bytes true old new → (hs : Hops) × AreHops c bytes hs
  hops-read c bytes old new (hops_end is p) = (no_hops, is)
  hops-read c bytes old new (hop_stands h inside rest type mid f t p) =
      let r = hop-reads c type inside rest mid new p in
      (hop h r.0 r.1, (inside, rest, f, (type, searches-governs item_type c.2 inside type (hit old) mid t, r.2), r.3))

-- what is wrong among the attributes, or behind them
abbrev HopWrongs : Context → RouteLwEnCapType → List ℕ → List ℕ → DecodeError → Type 0
HopWrongs c type inside rest e = AttributesWrong (typed c type) inside e ⊎ ((ms : Attributes) × AreAttributes (typed c type) inside ms × HopsWrong c rest e)

wrongs-behind : (c : Context) (type : RouteLwEnCapType) (inside more rest : List ℕ) (x : Item) (m : Meaning) (e : DecodeError) → Front inside x more
    → Reads (typed c type) x m → HopWrongs c type more rest e → HopWrongs c type inside rest e
wrongs-behind c type inside more rest x m e f r (inl w) = inl (later_wrong x more m f r w)
wrongs-behind c type inside more rest x m e f r (inr (ms, rs, w)) = inr (attribute m ms, (x, more, f, r, rs), w)

wrongs-open : (c : Context) (bytes : List ℕ) (h : HopHead) (inside rest : List ℕ) (type : RouteLwEnCapType) (e : DecodeError) → HopFront bytes h inside rest
    → Governs c.2 inside type → HopWrongs c type inside rest e → HopsWrong c bytes e
wrongs-open c bytes h inside rest type e f g (inl w) = first_hop_wrong h inside rest f (governed_wrong type g w)
wrongs-open c bytes h inside rest type e f g (inr (ms, rs, w)) = later_hop_wrong h inside rest ms f (type, g, rs) w

mutual
  attribute-wrong : (c : Context) (x : Item) (old new : Counts) → AttributeLooks c x false old new → (e : DecodeError) × Wrong c x e
  attribute-wrong c x old new (value_faulty e k w t) = (e, value_wrong k w)
  attribute-wrong c x old new (hops_inside k h) = let r = hops-are-wrong c x.value old new h in (r.0, hops_wrong k r.1)

  hop-is-wrong : (c : Context) (type : RouteLwEnCapType) (inside rest : List ℕ) (old new : Counts) → HopLooks c type inside rest false old new
      → (e : DecodeError) × HopWrongs c type inside rest e
  hop-is-wrong c type inside rest old new (hop_ends is h) = let r = hops-are-wrong c rest old new h in (r.0, inr (no_more, is, r.1))
  hop-is-wrong c type inside rest old new (none_in_hop e left bad p) = (e, inl (none_in_front left bad))
  hop-is-wrong c type inside rest old new (faulty_in_hop x more f w) =
      let r = attribute-wrong (typed c type) x (hit old) new w in
      (r.0, inl (first_wrong x more f r.1))
  hop-is-wrong c type inside rest old new (passed_in_hop x more mid f w p) =
      let m = attribute-reads (typed c type) x (hit old) mid w in
      let r = hop-is-wrong c type more rest mid new p in
      (r.0, wrongs-behind c type inside more rest x m.0 r.0 f m.1 r.1)

  pub hops-are-wrong : (c : Context) (bytes : List ℕ) (old new : Counts) → HopsLooks c bytes false old new → (e : DecodeError) × HopsWrong c bytes e
  hops-are-wrong c bytes old new (no_hop_stands e left bad p) = (e, no_hop_in_front left bad)
  hops-are-wrong c bytes old new (hop_stands h inside rest type mid f t p) =
      let r = hop-is-wrong c type inside rest mid new p in
      (r.0, wrongs-open c bytes h inside rest type r.0 f (searches-governs item_type c.2 inside type (hit old) mid t) r.1)

-- ---- at least

-- a search through attributes that are read does not fail
read-on : (c : Context) (inside : List ℕ) (ms : Attributes) → AreAttributes c inside ms → stopped inside ≡ 0
read-on c inside no_more is = ap stopped is
read-on c inside (attribute m ms) (x, more, f, r, rest) = stopped_front inside x more f ∙ read-on c more ms rest

more-saw : (old mid new : Counts) (n m : ℕ) → SawEach (hit old) mid n → mid.successful ≤ new.successful → SawEach mid new m → SawEach old new (1 + n + m)
more-saw old mid new n m a k b = record {
  failed = omega (arith, a.failed, b.failed);
  each = λ below. omega (arith, b.each below, a.each (omega (arith, k, below)));
}

mutual
  attribute-saw : (c : Context) (x : Item) (m : Meaning) (read : Bool) (old new : Counts) → Reads c x m → AttributeLooks c x read old new
      → SawEach old new (members m)
  attribute-saw c x (flat m) true old new r (value_read n k s t) = (Flats.attributes c).saw x m old new r.1 t
  attribute-saw c x (flat m) false old new r (value_faulty e k w t) = absurd ((Flats.attributes c).no_fault x m e r.1 w)
  attribute-saw c x (flat m) read old new r (hops_inside k h) = absurd (r.0 k)
  attribute-saw c x (multi_path hs) true old new r (value_read n k s t) = absurd (k r.0)
  attribute-saw c x (multi_path hs) false old new r (value_faulty e k w t) = absurd (k r.0)
  attribute-saw c x (multi_path hs) read old new r (hops_inside k h) = hops-saw c x.value hs read old new r.1 h

  hop-saw : (c : Context) (type : RouteLwEnCapType) (inside rest : List ℕ) (ms : Attributes) (hs : Hops) (read : Bool) (old new : Counts)
      → AreAttributes (typed c type) inside ms → AreHops c rest hs → HopLooks c type inside rest read old new
      → SawEach old new (attributes_members ms + hops_members hs)
  hop-saw c type inside rest no_more hs read old new is rs (hop_ends js h) =
      let a = hops-saw c rest hs read old new rs h in
      record { failed = a.failed; each = λ below. omega (arith, a.each below) }
  hop-saw c type inside rest no_more hs false old new is rs (none_in_hop e left bad p) = absurd (omega (arith, ap length is, left))
  hop-saw c type inside rest no_more hs false old new is rs (faulty_in_hop y b g w) = no_front inside b y is g
  hop-saw c type inside rest no_more hs read old new is rs (passed_in_hop y b mid g w p) = no_front inside b y is g
  hop-saw c type inside rest (attribute m ms) hs read old new (x, a, f, r, rest_reads) rs (hop_ends js h) = no_front inside a x js f
  hop-saw c type inside rest (attribute m ms) hs false old new (x, a, f, r, rest_reads) rs (none_in_hop e left bad p) = absurd (Front-sound inside x a e f bad)
  hop-saw c type inside rest (attribute m ms) hs false old new (x, a, f, r, rest_reads) rs (faulty_in_hop y b g w) =
      let wrong = attribute-wrong (typed c type) y (hit old) new w in
      absurd (reads-sound (typed c type) y m wrong.0 (subst (λ (z : Item). Reads (typed c type) z m) (Front-same inside x y a b f g).0 r) wrong.1)
  hop-saw c type inside rest (attribute m ms) hs read old new (x, a, f, r, rest_reads) rs (passed_in_hop y b mid g w p) =
      let e = Front-same inside x y a b f g in
      let first = attribute-saw (typed c type) y m true (hit old) mid (subst (λ (z : Item). Reads (typed c type) z m) e.0 r) w in
      let later = hop-saw c type b rest ms hs read mid new (subst (λ (z : List ℕ). AreAttributes (typed c type) z ms) e.1 rest_reads) rs p in
      let k = (hop-few c type b rest read mid new p).kept in
      let all = more-saw old mid new (members m) (attributes_members ms + hops_members hs) first k later in
      record { failed = all.failed; each = λ below. omega (arith, all.each below) }

  pub hops-saw : (c : Context) (bytes : List ℕ) (hs : Hops) (read : Bool) (old new : Counts) → AreHops c bytes hs → HopsLooks c bytes read old new
      → SawEach old new (hops_members hs)
  hops-saw c bytes no_hops true old new is (hops_end js p) = none-saw old new p
  hops-saw c bytes no_hops false old new is (no_hop_stands e left bad p) = absurd (omega (arith, ap length is, left))
  hops-saw c bytes no_hops read old new is (hop_stands k j b kind mid g t p) = no_hop bytes j b k is g
  hops-saw c bytes (hop h ms hs) true old new (i, a, f, r, rs) (hops_end js p) = no_hop bytes i a h js f
  hops-saw c bytes (hop h ms hs) false old new (i, a, f, r, rs) (no_hop_stands e left bad p) = absurd (HopFront-sound bytes h i a e f bad)
  hops-saw c bytes (hop h ms hs) read old new (i, a, f, r, rs) (hop_stands k j b kind mid g t p) =
      let e = HopFront-same bytes h k i j a b f g in
      let governs = subst (λ (z : List ℕ). Governs c.2 z r.0) e.1 r.1 in
      let one = governs-one item_type c.2 j r.0 kind governs (searches-governs item_type c.2 j kind (hit old) mid t) in
      let inside = subst (λ (z : RouteLwEnCapType). AreAttributes (typed c z) j ms) one (subst (λ (z : List ℕ). AreAttributes (typed c r.0) z ms) e.1 r.2) in
      let rest = subst (λ (z : List ℕ). AreHops c z hs) e.2 rs in
      let s = sought c.2 kind j old (hit old) mid refl t in
      let all = hop-saw c kind j b ms hs read mid new inside rest p in
      let far = (hop-few c kind j b read mid new p).kept in
      record {
        failed = omega (arith, all.failed, s.failed, s.failed_kept, read-on (typed c kind) j ms inside);
        each = λ below. omega (arith, all.each below, s.header (omega (arith, far, below)), far);
      }

-- ---- of the family, and of next hops

pub attributes-bounded : (c : Context) (x : Item) (old new : Counts) → AttributeTakes c x old new → AddsAtMost old new (length x.value)
attributes-bounded c x old new t = (attribute-few c x t.0 old new t.1).most

pub attributes-saw : (c : Context) (x : Item) (m : Meaning) (old new : Counts) → Reads c x m → AttributeTakes c x old new → SawEach old new (members m)
attributes-saw c x m old new r t = attribute-saw c x m t.0 old new r t.1

pub next-hops-bounded : (c : Context) (bytes : List ℕ) (old new : Counts) → HopsTake c bytes old new → AddsAtMost old new (length bytes)
next-hops-bounded c bytes old new t = (hops-few c bytes t.0 old new t.1).most
