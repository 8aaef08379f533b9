-- Rows that hold lists, each the one that its form names: a list of a set, what a driver says, the other end of a pair, one of several
-- variants; and the tables of routes, next hops and neighbours.
use Rattle.std.specs.Prelude.{◌≡◌, ℕ, ◌==◌, ◌||◌, Bool, true, false, List, drop, take, if◌then◌else◌}
use Rattle.std.proofs.Common.{refl, sym, ap, subst, ◌∙◌, inl, inr, arith}
use Rattle.std.proofs.lemmas.Bool.{eqb-false, or_right}
use Rattle.std.proofs.lemmas.List.{drop_at, length-take-le, take-append-drop}
use Rattle.npr_base.specs.Framing.{Item, number_of}
use Rattle.npr_base.specs.ListCodec.{list_of}
use Rattle.npr_base.specs.Lists.{ReadsList}
use Rattle.npr_base.specs.Message.{IsMessage, MessageFault}
use Rattle.npr_base.specs.Nesting.{AnyReading, IsListOf, IsFaultOf, Opened, Nests, ListRow, NestRows, NestList, any_reading}
use Rattle.npr_base.specs.Family.{Family}
use Rattle.npr_base.specs.Layout.{Layout}
use Rattle.npr_base.specs.MessageValue.{message_value}
use Rattle.npr_base.proofs.NestLaws.{plain-list, opened-by, in-list}
use Rattle.npr_base.specs.Refusal.{at_number}
use Rattle.npr_base.specs.declared.attribute_set.At.{At}
use Rattle.npr_base.specs.declared.attribute_set.AttributeSet.{AttributeSet}
use Rattle.npr_base.specs.declared.attribute_set.AttributeSet.TheVariants.{Route, Neighbour, NeighbourFdb, Metric, Encap}
use Rattle.npr_base.specs.declared.attribute_set.AttributeSet.TheVariants.{LinkInfo}
use Rattle.npr_base.specs.declared.attribute_set.AttributeSet.TheVariants.{Peer}
use Rattle.npr_base.specs.declared.attribute_set.AttributeSet.TheVariants.{NextHop, NextHopResGroup}
use Rattle.npr_base.specs.declared.attribute_set.AttributeSet.TheVariants.{NextHopResBucket, NextHopGroupStats}
use Rattle.npr_base.specs.declared.value.Form.{Form}
use Rattle.npr_link.specs.PeerAttribute as OfPeer
use Rattle.npr_neighbour.specs.Attribute as OfNeighbour
use Rattle.npr_nexthop.specs.Attribute as OfNextHopMessage
use Rattle.npr_route.specs.AttributeFamily as OfRoute
use Rattle.npr_encapsulation.specs.Encapsulation as OfEncap
use Rattle.npr_base.specs.Table.{first_family}
use Rattle.npr_base.specs.declared.value.Form.TheVariants.{Inside}
use Rattle.npr_base.specs.Choices.{Held, Case, chosen}
use Rattle.npr_link.specs.Header.{header, default_header}
use Rattle.npr_link.specs.InfoList.{info_list, read-searched, fault-searched, searched-reads}
use Rattle.npr_link.specs.Peer.{peer}
use Rattle.npr_neighbour.specs.NeighbourAddress as OfNeighbourAddress
use Rattle.npr_neighbour.specs.contracts.attribute.NeighbourAttribute.{enum as enum_of_neighbour}
use Rattle.npr_nexthop.specs.contracts.attribute.NextHopAttribute.{enum as enum_of_next_hop}
use Rattle.npr_route.specs.Attribute.{Meaning as RouteMeaning, Reads, Wrong, flat, multi_path, value_wrong}
use Rattle.npr_route.specs.FlatAttribute as Flat
use Rattle.npr_route.specs.FlatAttribute.{Context as RouteContext}
use Rattle.npr_route.specs.FlatFamily as FlatLaws
use Rattle.npr_route_values.specs.RouteAddress as OfAddresses
use Rattle.netlink_packet_route.specs.Nests.{Inner, has_reader, nest_in, reading_of}
use Rattle.netlink_packet_route.specs.declared.context.Context.{Context}
use Rattle.netlink_packet_route.specs.declared.nests.Nest.{Nest}

-- what a set has readers for
abbrev pub Own : AttributeSet → Context → ℕ → Type 0
Own set c k = has_reader set c k ≡ true

module _ (outer : AttributeSet) (c : Context) where
  -- a list of a set that rests on no more than the context outside
  pub listed-row : (set : AttributeSet) → ((bytes : List ℕ) (n : Nest) → Inner c set bytes n → n ≡ nest_in set c)
      → ListRow reading_of (Inner c) (Own outer c) (list_of set (reading_of (nest_in set c)).reading) set 0
  listed-row set only = plain-list reading_of (Inner c) (Own outer c) set (nest_in set c) only

  -- what a driver says, under the kinds that a search finds
  pub driver-row : ListRow reading_of (Inner c) (Own outer c) info_list LinkInfo 0
  driver-row = λ at bytes. record {
    down = λ n ms (forms, old, new, found, is) p.
        subst (λ (m : Nest). IsListOf (reading_of m) bytes) (sym is) (ms, searched-reads bytes ms forms old new p found);
    up = λ n (forms, old, new, found, is) long list.
        let (ms, p) = subst (λ (m : Nest). IsListOf (reading_of m) bytes) is list in
        (ms, read-searched bytes ms forms old new found p);
    fault = λ n e (forms, old, new, found, is) long p.
        fault-searched bytes e forms old new found (subst (λ (m : Nest). IsFaultOf (reading_of m) bytes e) is p);
    cut = λ short. absurd (omega (arith, short));
  }

  -- a list behind a header
  pub headed-row : {H A : Type 0} (f : Family A (Unit {0})) (L : Layout H) (standard : H) (set : AttributeSet)
      → ((bytes : List ℕ) (n : Nest) → Inner c set bytes n → reading_of n ≡ any_reading (f.reading tt))
      → ListRow reading_of (Inner c) (Own outer c) (message_value f L standard set) set L.size
  unfolding IsMessage MessageFault
  headed-row f L standard set only = λ at bytes.
      let behind = drop L.size bytes in
      record {
        down = λ n m is p.
            let same : behind ≡ p.rest = ap (drop L.size) p.is ∙ drop_at p.front p.rest L.size p.size in
            let list = subst (λ (r : List ℕ). ReadsList (f.reading tt).Reads r m.attributes) (sym same) p.attributes in
            subst (λ (r : AnyReading). IsListOf r behind) (sym (only bytes n is)) (m.attributes, list);
        up = λ n is long list.
            let (ms, p) = subst (λ (r : AnyReading). IsListOf r behind) (only bytes n is) list in (
              record { header = L.decode (take L.size bytes); attributes = ms },
              record {
                front = take L.size bytes;
                rest = behind;
                is = sym (take-append-drop L.size bytes);
                size = length-take-le L.size bytes long;
                header = refl;
                attributes = p;
              },
            );
        fault = λ n e is long p.
            let bad = subst (λ (r : AnyReading). IsFaultOf r behind e) (only bytes n is) p in
            inr (take L.size bytes, behind, sym (take-append-drop L.size bytes), length-take-le L.size bytes long, bad);
        cut = λ short. inl (short, refl);
      }

  -- the other end of a pair, behind its header
  pub peer-row : ListRow reading_of (Inner c) (Own outer c) peer Peer 16
  peer-row = headed-row OfPeer.family header default_header Peer (λ bytes n is. ap reading_of is)

  -- one of several variants
  pub chosen-row : {W : Type 0} (held : W → Held) (case : Case held) (set : AttributeSet) → ListRow reading_of (Inner c) (Own outer c) case.codec set 0
      → ListRow reading_of (Inner c) (Own outer c) (chosen held case) set 0
  chosen-row held case set row = λ at bytes.
      let o = row at bytes in
      record {
        down = λ n m inside p. o.down n p.0 inside p.1;
        up = λ n inside long list. let v = o.up n inside long list in (case.made v.0, (v.0, v.1, refl));
        fault = o.fault;
        cut = o.cut;
      }

-- ---- of a route, and of next hops

-- a list of this set, as rows of another hold it
abbrev HeldList : AttributeSet → Context → AttributeSet → Type 0
HeldList outer c set = ListRow reading_of (Inner c) (Own outer c) (list_of set (reading_of (nest_in set c)).reading) set 0

route-lists : (c : Context) → HeldList Route c Metric × (Own Route c 18 × (HeldList Route c Encap × Unit {0}))
route-lists c = (listed-row Route c Metric (λ bytes n p. p), (refl, (listed-row Route c Encap (λ bytes n p. p), tt)))

route-rows : (c : Context) (form : OfAddresses.Form) (multicast : Bool)
    → NestList reading_of (Inner c) (Own Route c) (Flat.rows form multicast (OfEncap.encapsulation c.encap_type))
route-rows c OfAddresses.four true = route-lists c
route-rows c OfAddresses.four false = route-lists c
route-rows c OfAddresses.sixteen true = route-lists c
route-rows c OfAddresses.sixteen false = route-lists c
route-rows c OfAddresses.label true = route-lists c
route-rows c OfAddresses.label false = route-lists c
route-rows c OfAddresses.any true = route-lists c
route-rows c OfAddresses.any false = route-lists c

own-hops : (k : ℕ) → (k == 9) ≡ true → ((k == 18) || (k == 9)) ≡ true
own-hops k nine = or_right (k == 18) (k == 9) nine

module _ (c : Context) where
  abbrev route_context : RouteContext
  route_context = (c.family, c.route_type, c.encap_type)

  flat-nests : Nests reading_of (Inner c) (Own Route c) (FlatLaws.attributes route_context)
  flat-nests = λ x.
      let rows = Flat.rows (OfAddresses.form_of c.family) (Flat.is_multicast c.route_type) (OfEncap.encapsulation c.encap_type) in
      in-list reading_of (Inner c) (Own Route c) Flat.other (first_family rows) (number_of x.kind) x rows
      (route-rows c (OfAddresses.form_of c.family) (Flat.is_multicast c.route_type))

  module _ (x : Item) where
    hops-down : (number_of x.kind == 9) ≡ false → (m : RouteMeaning) → Reads route_context x m
        → (n : Flat.Meaning) × (FlatLaws.attributes route_context).Reads x n
    hops-down other (flat m) p = (m, p.1)
    hops-down other (multi_path hs) p = absurd (eqb-false (number_of x.kind) 9 other p.0)

    route-or : (b : Bool) (form : At × Form) → (number_of x.kind == 9) ≡ b
        → Opened reading_of (Inner c) (Own Route c) (number_of x.kind) form.1 ((FlatLaws.attributes route_context).Reads x)
        ((FlatLaws.attributes route_context).Faulty x) x.value
        → Opened reading_of (Inner c) (Own Route c) (number_of x.kind) (if b then (at_number Route 9, Inside) else form).1 (Reads route_context x)
        (Wrong route_context x) x.value
    route-or true form nine o = own-hops (number_of x.kind) nine
    route-or false form other o =
        let apart = eqb-false (number_of x.kind) 9 other in
        opened-by reading_of (Inner c) (Own Route c) (number_of x.kind) form.1 ((FlatLaws.attributes route_context).Reads x) (Reads route_context x)
        ((FlatLaws.attributes route_context).Faulty x) (Wrong route_context x) x.value (hops-down other) (λ m p. (flat m, (apart, p)))
        (λ e bad. value_wrong apart bad) o

  pub route-nests : Nests reading_of (Inner c) (Own Route c) (OfRoute.attributes route_context)
  route-nests = λ x.
      route-or x (number_of x.kind == 9) ((FlatLaws.attributes route_context).seeing.form_at (number_of x.kind)) refl (flat-nests x)

  hop-lists : HeldList NextHop c Encap
      × (HeldList NextHop c NextHopResGroup × (HeldList NextHop c NextHopResBucket × (HeldList NextHop c NextHopGroupStats × Unit {0})))
  hop-lists = (
    listed-row NextHop c Encap (λ bytes n p. p),
    (
      listed-row NextHop c NextHopResGroup (λ bytes n p. p),
      (listed-row NextHop c NextHopResBucket (λ bytes n p. p), (listed-row NextHop c NextHopGroupStats (λ bytes n p. p), tt)),
    ),
  )

  pub next-hop-rows : (form : OfAddresses.Form)
      → NestRows reading_of (Inner c) (Own NextHop c) enum_of_next_hop.parts (OfNextHopMessage.table form (OfEncap.encapsulation c.encap_type)).rows
  next-hop-rows OfAddresses.four = hop-lists
  next-hop-rows OfAddresses.sixteen = hop-lists
  next-hop-rows OfAddresses.label = hop-lists
  next-hop-rows OfAddresses.any = hop-lists

  pub neighbour-rows : (form : OfNeighbourAddress.Form) → NestRows reading_of (Inner c) (Own Neighbour c) enum_of_neighbour.parts (OfNeighbour.table form).rows
  neighbour-rows OfNeighbourAddress.four = (listed-row Neighbour c NeighbourFdb (λ bytes n p. p), tt)
  neighbour-rows OfNeighbourAddress.sixteen = (listed-row Neighbour c NeighbourFdb (λ bytes n p. p), tt)
  neighbour-rows OfNeighbourAddress.any = (listed-row Neighbour c NeighbourFdb (λ bytes n p. p), tt)
