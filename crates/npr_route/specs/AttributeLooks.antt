-- The looks that reading route attributes with next hops among them takes, and whether they are read: a look at the header
-- of each next hop, those of the search for the type of its attributes, and then those at them.
use Rattle.std.specs.Prelude.{◌≡◌, ◌≢◌, ℕ, ◌<◌, Bool, true, false, List, [], length}
use Rattle.npr_base.specs.declared.refusal.DecodeError.{DecodeError}
use Rattle.npr_base.specs.Counts.{Counts, hit, miss}
use Rattle.npr_base.specs.Framing.{Item, Front, Fault, number_of}
use Rattle.npr_route.specs.Attribute.{HopHead, HopFront, HopFault, typed}
use Rattle.npr_route.specs.FlatAttribute as Flat
use Rattle.npr_route.specs.FlatAttribute.{Context}
use Rattle.npr_route.specs.FlatFamily as Flats
use Rattle.npr_route.specs.Governing.{Searches}
use Rattle.npr_encapsulation.specs.declared.encap_type.RouteLwEnCapType.{RouteLwEnCapType}

mutual
  -- inside the value of an attribute
  pub data AttributeLooks : Context → Item → Bool → Counts → Counts → Type 0 where
    value_read : {c : Context} {x : Item} {old new : Counts} (m : Flat.Meaning) → number_of x.kind ≢ 9 → (Flats.attributes c).Reads x m
        → (Flats.attributes c).looks.Takes x old new → AttributeLooks c x true old new
    value_faulty : {c : Context} {x : Item} {old new : Counts} (e : DecodeError) → number_of x.kind ≢ 9 → (Flats.attributes c).Faulty x e
        → (Flats.attributes c).looks.Takes x old new → AttributeLooks c x false old new
    hops_inside : {c : Context} {x : Item} {read : Bool} {old new : Counts} → number_of x.kind ≡ 9 → HopsLooks c x.value read old new
        → AttributeLooks c x read old new

  -- in what is left of a next hop's attributes, which this type governs, and then in the next hops behind it
  pub data HopLooks : Context → RouteLwEnCapType → List ℕ → List ℕ → Bool → Counts → Counts → Type 0 where
    hop_ends : {c : Context} {type : RouteLwEnCapType} {inside rest : List ℕ} {read : Bool} {old new : Counts} → inside ≡ []
        → HopsLooks c rest read old new → HopLooks c type inside rest read old new
    none_in_hop : {c : Context} {type : RouteLwEnCapType} {inside rest : List ℕ} {old new : Counts} (e : DecodeError) → 0 < length inside
        → Fault inside e → new ≡ miss old → HopLooks c type inside rest false old new
    faulty_in_hop : {c : Context} {type : RouteLwEnCapType} {inside rest : List ℕ} {old new : Counts} (x : Item) (more : List ℕ)
        → Front inside x more → AttributeLooks (typed c type) x false (hit old) new → HopLooks c type inside rest false old new
    passed_in_hop : {c : Context} {type : RouteLwEnCapType} {inside rest : List ℕ} {read : Bool} {old new : Counts} (x : Item) (more : List ℕ)
        (mid : Counts) → Front inside x more → AttributeLooks (typed c type) x true (hit old) mid → HopLooks c type more rest read mid new
        → HopLooks c type inside rest read old new

  -- in next hops one after the other
  pub data HopsLooks : Context → List ℕ → Bool → Counts → Counts → Type 0 where
    hops_end : {c : Context} {bytes : List ℕ} {old new : Counts} → bytes ≡ [] → new ≡ old → HopsLooks c bytes true old new
    no_hop_stands : {c : Context} {bytes : List ℕ} {old new : Counts} (e : DecodeError) → 0 < length bytes → HopFault bytes e → new ≡ miss old
        → HopsLooks c bytes false old new
    hop_stands : {c : Context} {bytes : List ℕ} {read : Bool} {old new : Counts} (h : HopHead) (inside rest : List ℕ) (type : RouteLwEnCapType)
        (mid : Counts) → HopFront bytes h inside rest → Searches c.2 inside type (hit old) mid → HopLooks c type inside rest read mid new
        → HopsLooks c bytes read old new

-- read or not
abbrev pub AttributeTakes : Context → Item → Counts → Counts → Type 0
AttributeTakes c x old new = (read : Bool) × AttributeLooks c x read old new

abbrev pub HopsTake : Context → List ℕ → Counts → Counts → Type 0
HopsTake c bytes old new = (read : Bool) × HopsLooks c bytes read old new
