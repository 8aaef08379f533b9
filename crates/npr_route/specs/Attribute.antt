-- The attributes of a route message with next hops among them (linux/rtnetlink.h, RTA_*, struct rtnexthop): a next hop is
-- a header of eight bytes and attributes, which may be next hops again.
use Rattle.std.specs.Prelude.{◌≡◌, ◌≢◌, ℕ, ◌+◌, ◌<◌, ◌≤◌, ◌^◌, ◌⊎◌, false, List, [], ◌∷◌, ◌++◌, length, take, max, Option, Some, None}
use Rattle.std.specs.Prelude.{nat_lt, if◌then◌else◌}
use Rattle.std.specs.Int.{w16, w32, to_le_bytes, from_le_bytes}
use Rattle.npr_base.specs.declared.refusal.DecodeError.{DecodeError}
use Rattle.npr_base.specs.declared.refusal.DecodeError.TheVariants.{NextHopTooShort, NextHopLength}
use Rattle.npr_base.specs.declared.refusal.EmitError.{EmitError}
use Rattle.npr_base.specs.declared.refusal.EmitError.TheVariants.{NextHopTooLong, Total}
use Rattle.npr_base.specs.Lists.{option_or, overlong}
use Rattle.npr_base.specs.Family.{Shape, written_as, unfit_as, written_by}
use Rattle.npr_base.specs.FirstTold.{or_else}
use Rattle.npr_base.specs.Framing.{Item, number_of, encoding, Front, Fault, pad}
use Rattle.npr_route.specs.FlatAttribute as Flat
use Rattle.npr_route.specs.FlatAttribute.{Context}
use Rattle.npr_route.specs.FlatFamily as Flats
use Rattle.npr_route.specs.Governing.{Governs}
use Rattle.npr_srh.specs.Seg6Mode.{ModeTable, modes}
use Rattle.npr_encapsulation.specs.declared.encap_type.RouteLwEnCapType.{RouteLwEnCapType}

-- the header without its length, which counts its eight bytes and the attributes
pub record HopHead : Type 0 where
  pub flags : ℕ
  pub hops : ℕ
  pub interface_index : ℕ

pub record HoldsHead (h : HopHead) : Type 0 where
  pub flags : h.flags < 2 ^ 8
  pub hops : h.hops < 2 ^ 8
  pub interface_index : h.interface_index < 2 ^ 32

abbrev pub hop_text : HopHead → List ℕ → List ℕ
hop_text h inside = to_le_bytes w16 (8 + length inside) ++ (h.flags ∷ h.hops ∷ to_le_bytes w32 h.interface_index ++ inside)

-- the bytes are a next hop with these bytes of attributes and some padding, and then the rest (linux/rtnetlink.h,
-- RTNH_NEXT, RTNH_ALIGN); padding is whole where anything follows
pub record HopFront (bytes : List ℕ) (h : HopHead) (inside rest : List ℕ) : Type 0 where
  pub padding : List ℕ
  pub is : bytes ≡ hop_text h inside ++ (padding ++ rest)
  pub holds : HoldsHead h
  pub short : 8 + length inside ≤ 65535
  pub most : length padding ≤ pad (8 + length inside)
  pub whole : 0 < length rest → length padding ≡ pad (8 + length inside)

-- why no next hop stands in front
abbrev pub HopFault : List ℕ → DecodeError → Type 0
HopFault r (NextHopTooShort got) = (got ≡ length r) × (length r < 8)
HopFault r (NextHopLength l left) = (left ≡ length r) × (8 ≤ length r) × (l ≡ from_le_bytes w16 (take 2 r)) × ((l < 8) ⊎ (length r < l))
HopFault r _ = ⊥

-- an attribute: one without next hops, or a list of them
mutual
  pub data Meaning : Type 0 where
    flat : Flat.Meaning → Meaning
    multi_path : Hops → Meaning

  pub data Attributes : Type 0 where
    no_more : Attributes
    attribute : Meaning → Attributes → Attributes

  pub data Hops : Type 0 where
    no_hops : Hops
    hop : HopHead → Attributes → Hops → Hops

-- one next hop
pub record Hop : Type 0 where
  pub head : HopHead
  pub attributes : Attributes

abbrev pub attributes_of : List Meaning → Attributes
attributes_of [] = no_more
attributes_of (m ∷ ms) = attribute m (attributes_of ms)

-- the type that an attribute holds, and the first of a list, or else the outer one
abbrev pub meaning_type : Meaning → Option RouteLwEnCapType
meaning_type (flat (Flat.encap_type t)) = Some t
meaning_type m = None

abbrev pub first_type : RouteLwEnCapType → Attributes → RouteLwEnCapType
first_type outer no_more = outer
first_type outer (attribute m ms) = or_else (meaning_type m) (first_type outer ms)

-- the context of a list that this type governs, in a list of that context
abbrev pub typed : Context → RouteLwEnCapType → Context
typed c type = (c.0, c.1, type)

abbrev mutual
  -- what an attribute means, by a table of SEG6 modes: number 9 (RTA_MULTIPATH) holds next hops
  pub ReadsBy : ModeTable → Context → Item → Meaning → Type 0
  ReadsBy by c x (flat m) = (number_of x.kind ≢ 9) × (Flats.attributes_by by c).Reads x m
  ReadsBy by c x (multi_path hs) = (number_of x.kind ≡ 9) × AreHopsBy by c x.value hs

  pub AreAttributesBy : ModeTable → Context → List ℕ → Attributes → Type 0
  AreAttributesBy by c bytes no_more = bytes ≡ []
  AreAttributesBy by c bytes (attribute m ms) =
      (x : Item) × (rest : List ℕ) × Front bytes x rest × ReadsBy by c x m × AreAttributesBy by c rest ms

  -- next hops one after the other, the attributes of each under the type that governs them
  pub AreHopsBy : ModeTable → Context → List ℕ → Hops → Type 0
  AreHopsBy by c bytes no_hops = bytes ≡ []
  AreHopsBy by c bytes (hop h ms hs) =
      (inside : List ℕ) × (rest : List ℕ) × HopFront bytes h inside rest
      × ((type : RouteLwEnCapType) × Governs c.2 inside type × AreAttributesBy by (typed c type) inside ms) × AreHopsBy by c rest hs

-- by the table of today
abbrev pub Reads : Context → Item → Meaning → Type 0
Reads c x m = ReadsBy modes c x m

abbrev pub AreAttributes : Context → List ℕ → Attributes → Type 0
AreAttributes c bytes ms = AreAttributesBy modes c bytes ms

abbrev pub AreHops : Context → List ℕ → Hops → Type 0
AreHops c bytes hs = AreHopsBy modes c bytes hs

-- a list inside a list of this context, under the type that governs it
abbrev pub AreGoverned : Context → List ℕ → Attributes → Type 0
AreGoverned c bytes ms = (type : RouteLwEnCapType) × Governs c.2 bytes type × AreAttributes (typed c type) bytes ms

-- why it means nothing: the first fault, what stands inside before what follows
mutual
  pub data Wrong : Context → Item → DecodeError → Type 0 where
    value_wrong : {c : Context} {x : Item} {e : DecodeError} → number_of x.kind ≢ 9 → (Flats.attributes c).Faulty x e → Wrong c x e
    hops_wrong : {c : Context} {x : Item} {e : DecodeError} → number_of x.kind ≡ 9 → HopsWrong c x.value e → Wrong c x e

  pub data AttributesWrong : Context → List ℕ → DecodeError → Type 0 where
    none_in_front : {c : Context} {bytes : List ℕ} {e : DecodeError} → 0 < length bytes → Fault bytes e → AttributesWrong c bytes e
    first_wrong : {c : Context} {bytes : List ℕ} {e : DecodeError} (x : Item) (rest : List ℕ) → Front bytes x rest → Wrong c x e → AttributesWrong c bytes e
    later_wrong : {c : Context} {bytes : List ℕ} {e : DecodeError} (x : Item) (rest : List ℕ) (m : Meaning) → Front bytes x rest
        → Reads c x m → AttributesWrong c rest e → AttributesWrong c bytes e

  pub data GovernedWrong : Context → List ℕ → DecodeError → Type 0 where
    governed_wrong : {c : Context} {bytes : List ℕ} {e : DecodeError} (type : RouteLwEnCapType)
        → Governs c.2 bytes type → AttributesWrong (typed c type) bytes e → GovernedWrong c bytes e

  pub data HopsWrong : Context → List ℕ → DecodeError → Type 0 where
    no_hop_in_front : {c : Context} {bytes : List ℕ} {e : DecodeError} → 0 < length bytes → HopFault bytes e → HopsWrong c bytes e
    first_hop_wrong : {c : Context} {bytes : List ℕ} {e : DecodeError} (h : HopHead) (inside rest : List ℕ)
        → HopFront bytes h inside rest → GovernedWrong c inside e → HopsWrong c bytes e
    later_hop_wrong : {c : Context} {bytes : List ℕ} {e : DecodeError} (h : HopHead) (inside rest : List ℕ) (ms : Attributes)
        → HopFront bytes h inside rest → AreGoverned c inside ms → HopsWrong c rest e → HopsWrong c bytes e

-- one next hop in front, whatever follows it, and why there is none
abbrev pub IsHop : Context → List ℕ → Hop → Type 0
IsHop c bytes h = (inside : List ℕ) × (rest : List ℕ) × HopFront bytes h.head inside rest × AreGoverned c inside h.attributes

abbrev pub HopWrong : Context → List ℕ → DecodeError → Type 0
HopWrong c bytes e =
    HopFault bytes e ⊎ ((h : HopHead) × (inside : List ℕ) × (rest : List ℕ) × HopFront bytes h inside rest × GovernedWrong c inside e)

-- a next hop with each field at its default
abbrev pub default_hop : Hop
default_hop = record { head = record { flags = 0; hops = 0; interface_index = 0 }; attributes = no_more }

-- a next hop that is too long, by the length in its header
abbrev pub hop_overlong : ℕ → Option EmitError
hop_overlong len = if nat_lt len 65536 then None else if nat_lt len (2 ^ 64) then Some (NextHopTooLong len) else Some Total

-- what is written, an attribute under its kind and next hops with their lengths, and why it can't be, if so: what stands
-- inside, and then its own length
abbrev mutual
  pub shape_of : Meaning → Shape
  shape_of (flat m) = Flat.writing.shape m
  shape_of (multi_path hs) =
      record { item = record { kind = 9; value = hops_bytes hs }; nested = false; unfit = option_or (hops_unfit hs) (overlong (length (hops_bytes hs))) }

  pub attributes_bytes : Attributes → List ℕ
  attributes_bytes no_more = []
  attributes_bytes (attribute m ms) = encoding (written_as (shape_of m)) ++ attributes_bytes ms

  pub hops_bytes : Hops → List ℕ
  hops_bytes no_hops = []
  hops_bytes (hop h ms hs) = hop_text h (attributes_bytes ms) ++ hops_bytes hs

  pub attributes_unfit : Attributes → Option EmitError
  attributes_unfit no_more = None
  attributes_unfit (attribute m ms) = option_or (unfit_as (shape_of m)) (attributes_unfit ms)

  pub hops_unfit : Hops → Option EmitError
  hops_unfit no_hops = None
  hops_unfit (hop h ms hs) = option_or (option_or (attributes_unfit ms) (hop_overlong (8 + length (attributes_bytes ms)))) (hops_unfit hs)

abbrev pub writes : Meaning → Item
writes m = written_as (shape_of m)

abbrev pub meaning_unfit : Meaning → Option EmitError
meaning_unfit m = unfit_as (shape_of m)

-- one next hop, and the cause why it can't be written
abbrev pub hop_bytes : Hop → List ℕ
hop_bytes h = hop_text h.head (attributes_bytes h.attributes)

abbrev pub hop_unfit : Hop → Option EmitError
hop_unfit h = option_or (attributes_unfit h.attributes) (hop_overlong (8 + length (attributes_bytes h.attributes)))

-- what can be read, the attributes of a next hop under the first type among them
abbrev mutual
  pub CoherentBy : ModeTable → Context → Meaning → Type 0
  CoherentBy by c (flat m) = (Flats.attributes_by by c).Coherent m × (number_of (written_by Flat.writing m).kind ≢ 9)
  CoherentBy by c (multi_path hs) = HopsCoherentBy by c hs

  pub AttributesCoherentBy : ModeTable → Context → Attributes → Type 0
  AttributesCoherentBy by c no_more = Unit {0}
  AttributesCoherentBy by c (attribute m ms) = CoherentBy by c m × AttributesCoherentBy by c ms

  pub HopsCoherentBy : ModeTable → Context → Hops → Type 0
  HopsCoherentBy by c no_hops = Unit {0}
  HopsCoherentBy by c (hop h ms hs) = HoldsHead h × AttributesCoherentBy by (typed c (first_type c.2 ms)) ms × HopsCoherentBy by c hs

abbrev pub Coherent : Context → Meaning → Type 0
Coherent c m = CoherentBy modes c m

abbrev pub AttributesCoherent : Context → Attributes → Type 0
AttributesCoherent c ms = AttributesCoherentBy modes c ms

abbrev pub HopsCoherent : Context → Hops → Type 0
HopsCoherent c hs = HopsCoherentBy modes c hs

-- an attribute with each SEG6 header in it brought up to the table of today
abbrev mutual
  pub normalized : Meaning → Meaning
  normalized (flat m) = flat (Flat.normalized m)
  normalized (multi_path hs) = multi_path (hops_normalized hs)

  pub attributes_normalized : Attributes → Attributes
  attributes_normalized no_more = no_more
  attributes_normalized (attribute m ms) = attribute (normalized m) (attributes_normalized ms)

  pub hops_normalized : Hops → Hops
  hops_normalized no_hops = no_hops
  hops_normalized (hop h ms hs) = hop h (attributes_normalized ms) (hops_normalized hs)

abbrev pub normalized_hop : Hop → Hop
normalized_hop h = record { head = h.head; attributes = attributes_normalized h.attributes }

-- how many attributes and next hops stand inside, at all depths
abbrev mutual
  pub members : Meaning → ℕ
  members (flat m) = Flat.writing.members m
  members (multi_path hs) = hops_members hs

  pub attributes_members : Attributes → ℕ
  attributes_members no_more = 0
  attributes_members (attribute m ms) = 1 + members m + attributes_members ms

  pub hops_members : Hops → ℕ
  hops_members no_hops = 0
  hops_members (hop h ms hs) = 1 + attributes_members ms + hops_members hs

-- how deep next hops stand inside one another
abbrev mutual
  pub depth : Meaning → ℕ
  depth (flat m) = 0
  depth (multi_path hs) = hops_depth hs

  pub attributes_depth : Attributes → ℕ
  attributes_depth no_more = 0
  attributes_depth (attribute m ms) = max (depth m) (attributes_depth ms)

  pub hops_depth : Hops → ℕ
  hops_depth no_hops = 0
  hops_depth (hop h ms hs) = max (1 + attributes_depth ms) (hops_depth hs)
