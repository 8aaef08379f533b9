-- The looks of route attributes are one number.
use Rattle.std.proofs.Common.{◌≡◌, ℕ, Bool, true, false, List, length, refl, sym, ap, subst, ◌∙◌, arith, true≢false}
use Rattle.npr_base.specs.Counts.{Counts, no_looks, hit, raised}
use Rattle.npr_base.specs.lemmas.FirstTold.{search-one, search-adds}
use Rattle.npr_base.specs.Framing.{Item}
use Rattle.npr_base.specs.lemmas.Front.{Front-same, Front-sound, no_front}
use Rattle.npr_base.specs.Looks.{Adds}
use Rattle.npr_base.specs.lemmas.Looks.{plus, one_hit, one_miss, raised-none, raised-miss, raised-behind, raised-inside}
use Rattle.npr_route.specs.Attribute.{typed}
use Rattle.npr_route.specs.AttributeLooks.{AttributeLooks, value_read, value_faulty, hops_inside, HopLooks, hop_ends, none_in_hop, faulty_in_hop, passed_in_hop}
use Rattle.npr_route.specs.AttributeLooks.{HopsLooks, hops_end, no_hop_stands, hop_stands}
use Rattle.npr_route.specs.FlatAttribute.{Context}
use Rattle.npr_route.specs.FlatFamily as Flats
use Rattle.npr_route.specs.Governing.{item_type, Searches}
use Rattle.npr_route.specs.lemmas.NextHopFront.{HopFront-same, HopFront-sound, no_hop}
use Rattle.npr_encapsulation.specs.declared.encap_type.RouteLwEnCapType.{RouteLwEnCapType}

-- ---- attributes and next hops: one number, and read or not

mutual
  pub attribute-looks-one : (c : Context) (x : Item) (r s : Bool) (old m n : Counts) → AttributeLooks c x r old m
      → AttributeLooks c x s old n → (r ≡ s) × (m ≡ n)
  attribute-looks-one c x true true old m n (value_read a k p t) (value_read b l q u) = (refl, (Flats.attributes c).looks.one x old m n t u)
  attribute-looks-one c x true false old m n (value_read a k p t) (value_faulty e l w u) = absurd ((Flats.attributes c).no_fault x a e p w)
  attribute-looks-one c x true s old m n (value_read a k p t) (hops_inside l g) = absurd (k l)
  attribute-looks-one c x false true old m n (value_faulty e k w t) (value_read b l q u) = absurd ((Flats.attributes c).no_fault x b e q w)
  attribute-looks-one c x false false old m n (value_faulty e k w t) (value_faulty d l v u) = (refl, (Flats.attributes c).looks.one x old m n t u)
  attribute-looks-one c x false s old m n (value_faulty e k w t) (hops_inside l g) = absurd (k l)
  attribute-looks-one c x r true old m n (hops_inside k h) (value_read b l q u) = absurd (l k)
  attribute-looks-one c x r false old m n (hops_inside k h) (value_faulty d l v u) = absurd (l k)
  attribute-looks-one c x r s old m n (hops_inside k h) (hops_inside l g) = hops-looks-one c x.value r s old m n h g

  pub hop-looks-one : (c : Context) (type : RouteLwEnCapType) (inside rest : List ℕ) (r s : Bool) (old m n : Counts) → HopLooks c type inside rest r old m
      → HopLooks c type inside rest s old n → (r ≡ s) × (m ≡ n)
  hop-looks-one c type inside rest r s old m n (hop_ends is h) (hop_ends js g) = hops-looks-one c rest r s old m n h g
  hop-looks-one c type inside rest r false old m n (hop_ends is h) (none_in_hop e left bad q) = absurd (omega (arith, ap length is, left))
  hop-looks-one c type inside rest r false old m n (hop_ends is h) (faulty_in_hop y b g v) = no_front inside b y is g
  hop-looks-one c type inside rest r s old m n (hop_ends is h) (passed_in_hop y b far g v q) = no_front inside b y is g
  hop-looks-one c type inside rest false s old m n (none_in_hop e left bad p) (hop_ends js g) = absurd (omega (arith, ap length js, left))
  hop-looks-one c type inside rest false false old m n (none_in_hop e left bad p) (none_in_hop d more worse q) = (refl, p ∙ sym q)
  hop-looks-one c type inside rest false false old m n (none_in_hop e left bad p) (faulty_in_hop y b g v) = absurd (Front-sound inside y b e g bad)
  hop-looks-one c type inside rest false s old m n (none_in_hop e left bad p) (passed_in_hop y b far g v q) = absurd (Front-sound inside y b e g bad)
  hop-looks-one c type inside rest false s old m n (faulty_in_hop x a f w) (hop_ends js g) = no_front inside a x js f
  hop-looks-one c type inside rest false false old m n (faulty_in_hop x a f w) (none_in_hop d left bad q) = absurd (Front-sound inside x a d f bad)
  hop-looks-one c type inside rest false false old m n (faulty_in_hop x a f w) (faulty_in_hop y b g v) =
      let same = subst (λ (z : Item). AttributeLooks (typed c type) z false (hit old) n) (Front-same inside y x b a g f).0 v in
      (refl, (attribute-looks-one (typed c type) x false false (hit old) m n w same).1)
  hop-looks-one c type inside rest false s old m n (faulty_in_hop x a f w) (passed_in_hop y b far g v q) =
      let same = subst (λ (z : Item). AttributeLooks (typed c type) z true (hit old) far) (Front-same inside y x b a g f).0 v in
      absurd (true≢false (sym (attribute-looks-one (typed c type) x false true (hit old) m far w same).0))
  hop-looks-one c type inside rest r s old m n (passed_in_hop x a mid f w p) (hop_ends js g) = no_front inside a x js f
  hop-looks-one c type inside rest r false old m n (passed_in_hop x a mid f w p) (none_in_hop d left bad q) = absurd (Front-sound inside x a d f bad)
  hop-looks-one c type inside rest r false old m n (passed_in_hop x a mid f w p) (faulty_in_hop y b g v) =
      let same = subst (λ (z : Item). AttributeLooks (typed c type) z false (hit old) n) (Front-same inside y x b a g f).0 v in
      absurd (true≢false (attribute-looks-one (typed c type) x true false (hit old) mid n w same).0)
  hop-looks-one c type inside rest r s old m n (passed_in_hop x a mid f w p) (passed_in_hop y b far g v q) =
      let e = Front-same inside y x b a g f in
      let same = subst (λ (z : Item). AttributeLooks (typed c type) z true (hit old) far) e.0 v in
      let here = (attribute-looks-one (typed c type) x true true (hit old) mid far w same).1 in
      let later = subst (λ (z : List ℕ). HopLooks c type z rest s far n) e.1 q in
      hop-looks-one c type a rest r s mid m n p (subst (λ (d : Counts). HopLooks c type a rest s d n) (sym here) later)

  pub hops-looks-one : (c : Context) (bytes : List ℕ) (r s : Bool) (old m n : Counts) → HopsLooks c bytes r old m
      → HopsLooks c bytes s old n → (r ≡ s) × (m ≡ n)
  hops-looks-one c bytes true true old m n (hops_end is p) (hops_end js q) = (refl, p ∙ sym q)
  hops-looks-one c bytes true false old m n (hops_end is p) (no_hop_stands e left bad q) = absurd (omega (arith, ap length is, left))
  hops-looks-one c bytes true s old m n (hops_end is p) (hop_stands k j b type far g u q) = no_hop bytes j b k is g
  hops-looks-one c bytes false true old m n (no_hop_stands e left bad p) (hops_end js q) = absurd (omega (arith, ap length js, left))
  hops-looks-one c bytes false false old m n (no_hop_stands e left bad p) (no_hop_stands d more worse q) = (refl, p ∙ sym q)
  hops-looks-one c bytes false s old m n (no_hop_stands e left bad p) (hop_stands k j b type far g u q) = absurd (HopFront-sound bytes k j b e g bad)
  hops-looks-one c bytes r true old m n (hop_stands h i a type mid f t p) (hops_end js q) = no_hop bytes i a h js f
  hops-looks-one c bytes r false old m n (hop_stands h i a type mid f t p) (no_hop_stands d left bad q) = absurd (HopFront-sound bytes h i a d f bad)
  hops-looks-one c bytes r s old m n (hop_stands h i a type mid f t p) (hop_stands k j b kind far g u q) =
      let e = HopFront-same bytes k h j i b a g f in
      let sought = search-one item_type c.2 i kind type (hit old) far mid (subst (λ (z : List ℕ). Searches c.2 z kind (hit old) far) e.1 u) t in
      let inner = subst (λ (z : List ℕ). HopLooks c kind z b s far n) e.1 q in
      let behind = subst (λ (z : List ℕ). HopLooks c kind i z s far n) e.2 inner in
      let under = subst (λ (z : RouteLwEnCapType). HopLooks c z i a s far n) sought.0 behind in
      hop-looks-one c type i a r s mid m n p (subst (λ (d : Counts). HopLooks c type i a s d n) sought.1 under)

mutual
  pub attribute-looks-add : (c : Context) (x : Item) (r : Bool) (old new : Counts) → AttributeLooks c x r old new → Adds (AttributeLooks c x r) old new
  attribute-looks-add c x true old new (value_read m k p t) =
      let a = (Flats.attributes c).looks.adds x old new t in
      record { number = a.number; is = a.is; alike = λ d. value_read m k p (a.alike d) }
  attribute-looks-add c x false old new (value_faulty e k w t) =
      let a = (Flats.attributes c).looks.adds x old new t in
      record { number = a.number; is = a.is; alike = λ d. value_faulty e k w (a.alike d) }
  attribute-looks-add c x r old new (hops_inside k h) =
      let a = hops-looks-add c x.value r old new h in
      record { number = a.number; is = a.is; alike = λ d. hops_inside k (a.alike d) }

  pub hop-looks-add : (c : Context) (type : RouteLwEnCapType) (inside rest : List ℕ) (r : Bool) (old new : Counts) → HopLooks c type inside rest r old new
      → Adds (HopLooks c type inside rest r) old new
  hop-looks-add c type inside rest r old new (hop_ends is h) =
      let a = hops-looks-add c rest r old new h in
      record { number = a.number; is = a.is; alike = λ d. hop_ends is (a.alike d) }
  hop-looks-add c type inside rest false old new (none_in_hop e left bad p) =
      record { number = one_miss; is = p ∙ sym (raised-miss old); alike = λ d. none_in_hop e left bad (raised-miss d) }
  hop-looks-add c type inside rest false old new (faulty_in_hop x more f w) =
      let a = attribute-looks-add (typed c type) x false (hit old) new w in
      record {
        number = plus one_hit a.number;
        is = a.is ∙ raised-inside a.number old;
        alike =
            λ d. faulty_in_hop x more f (subst (λ (n : Counts). AttributeLooks (typed c type) x false (hit d) n) (raised-inside a.number d) (a.alike (hit d)));
      }
  hop-looks-add c type inside rest r old new (passed_in_hop x more mid f w p) =
      let a = attribute-looks-add (typed c type) x true (hit old) mid w in
      let b = hop-looks-add c type more rest r mid new p in
      record {
        number = plus one_hit (plus a.number b.number);
        is = b.is ∙ ap (raised b.number) a.is ∙ raised-behind a.number b.number old;
        alike =
            λ d.
            let far : Counts = raised a.number (hit d) in
            let later = subst (λ (n : Counts). HopLooks c type more rest r far n) (raised-behind a.number b.number d) (b.alike far) in
            passed_in_hop x more far f (a.alike (hit d)) later;
      }

  pub hops-looks-add : (c : Context) (bytes : List ℕ) (r : Bool) (old new : Counts) → HopsLooks c bytes r old new → Adds (HopsLooks c bytes r) old new
  hops-looks-add c bytes true old new (hops_end is p) =
      record { number = no_looks; is = p ∙ sym (raised-none old); alike = λ d. hops_end is (raised-none d) }
  hops-looks-add c bytes false old new (no_hop_stands e left bad p) =
      record { number = one_miss; is = p ∙ sym (raised-miss old); alike = λ d. no_hop_stands e left bad (raised-miss d) }
  hops-looks-add c bytes r old new (hop_stands h inside rest type mid f t p) =
      let s = search-adds item_type c.2 inside type (hit old) mid t in
      let a = hop-looks-add c type inside rest r mid new p in
      record {
        number = plus one_hit (plus s.number a.number);
        is = a.is ∙ ap (raised a.number) s.is ∙ raised-behind s.number a.number old;
        alike =
            λ d.
            let far : Counts = raised s.number (hit d) in
            let later = subst (λ (n : Counts). HopLooks c type inside rest r far n) (raised-behind s.number a.number d) (a.alike far) in
            hop_stands h inside rest type far f (s.alike (hit d)) later;
      }
