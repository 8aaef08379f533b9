-- What a search through a list of IFLA_LINKINFO looks at, and that its reading ends at its first failed look.
use Rattle.std.proofs.Common.{◌≡◌, ℕ, List, [], ◌∷◌, length, refl, sym, ap, subst, ◌∙◌, arith, true≢false}
use Rattle.npr_base.specs.Counts.{Counts, hit, no_looks}
use Rattle.npr_base.specs.Framing.{Item, Front, Passes}
use Rattle.npr_base.specs.lemmas.Front.{Front-same, Front-sound, Cut-stops, no_front}
use Rattle.npr_base.specs.Looks.{Adds}
use Rattle.npr_base.specs.lemmas.Looks.{plus, one_hit, one_miss, raised-none, raised-hit, raised-miss, raised-inside}
use Rattle.npr_base.specs.Walk.{Searched}
use Rattle.npr_link.specs.Governing.{State, Forms, noted, is_complete, forms_of, Searching, search_ends, search_stops, both_found, searched_past}

-- ---- one answer

pub search-one : (s : State) (bytes : List ℕ) (c d : Forms) (old new other : Counts) (at : Counts) → Searching s bytes c old new → Searching s bytes d at other
    → c ≡ d
search-one s bytes c d old new other at (search_ends is p q) (search_ends js r t) = p ∙ sym r
search-one s bytes c d old new other at (search_ends is p q) (search_stops e left bad r t) = p ∙ sym r
search-one s bytes c d old new other at (search_ends is p q) (both_found x rest f h r t) = no_front bytes rest x is f
search-one s bytes c d old new other at (search_ends is p q) (searched_past x rest f h r) = no_front bytes rest x is f
search-one s bytes c d old new other at (search_stops e left bad p q) (search_ends is r t) = p ∙ sym r
search-one s bytes c d old new other at (search_stops e left bad p q) (search_stops b more worse r t) = p ∙ sym r
search-one s bytes c d old new other at (search_stops e left bad p q) (both_found x rest f h r t) = absurd (Front-sound bytes x rest e f bad)
search-one s bytes c d old new other at (search_stops e left bad p q) (searched_past x rest f h r) = absurd (Front-sound bytes x rest e f bad)
search-one s bytes c d old new other at (both_found x rest f h p q) (search_ends is r t) = no_front bytes rest x is f
search-one s bytes c d old new other at (both_found x rest f h p q) (search_stops e left bad r t) = absurd (Front-sound bytes x rest e f bad)
search-one s bytes c d old new other at (both_found x rest f h p q) (both_found y more g k r t) =
    p ∙ ap (λ (z : Item). forms_of (noted s z)) (Front-same bytes x y rest more f g).0 ∙ sym r
search-one s bytes c d old new other at (both_found x rest f h p q) (searched_past y more g k r) =
    absurd (true≢false (sym h ∙ ap (λ (z : Item). is_complete (noted s z)) (Front-same bytes x y rest more f g).0 ∙ k))
search-one s bytes c d old new other at (searched_past x rest f h p) (search_ends is r t) = no_front bytes rest x is f
search-one s bytes c d old new other at (searched_past x rest f h p) (search_stops e left bad r t) = absurd (Front-sound bytes x rest e f bad)
search-one s bytes c d old new other at (searched_past x rest f h p) (both_found y more g k r t) =
    absurd (true≢false (sym k ∙ sym (ap (λ (z : Item). is_complete (noted s z)) (Front-same bytes x y rest more f g).0) ∙ h))
search-one s bytes c d old new other at (searched_past x rest f h p) (searched_past y more g k r) =
    let same = Front-same bytes y x more rest g f in
    let there = subst (λ (z : Item). Searching (noted s z) more d (hit at) other) same.0 r in
    search-one (noted s x) rest c d (hit old) new other (hit at) p (subst (λ (b : List ℕ). Searching (noted s x) b d (hit at) other) same.1 there)

-- and one number of looks
pub looks-one : (s : State) (bytes : List ℕ) (c d : Forms) (old new other : Counts) → Searching s bytes c old new → Searching s bytes d old other
    → new ≡ other
looks-one s bytes c d old new other (search_ends is p q) (search_ends js r t) = q ∙ sym t
looks-one s bytes c d old new other (search_ends is p q) (search_stops e left bad r t) = absurd (omega (arith, ap length is, left))
looks-one s bytes c d old new other (search_ends is p q) (both_found x rest f h r t) = no_front bytes rest x is f
looks-one s bytes c d old new other (search_ends is p q) (searched_past x rest f h r) = no_front bytes rest x is f
looks-one s bytes c d old new other (search_stops e left bad p q) (search_ends is r t) = absurd (omega (arith, ap length is, left))
looks-one s bytes c d old new other (search_stops e left bad p q) (search_stops b more worse r t) = q ∙ sym t
looks-one s bytes c d old new other (search_stops e left bad p q) (both_found x rest f h r t) = absurd (Front-sound bytes x rest e f bad)
looks-one s bytes c d old new other (search_stops e left bad p q) (searched_past x rest f h r) = absurd (Front-sound bytes x rest e f bad)
looks-one s bytes c d old new other (both_found x rest f h p q) (search_ends is r t) = no_front bytes rest x is f
looks-one s bytes c d old new other (both_found x rest f h p q) (search_stops e left bad r t) = absurd (Front-sound bytes x rest e f bad)
looks-one s bytes c d old new other (both_found x rest f h p q) (both_found y more g k r t) = q ∙ sym t
looks-one s bytes c d old new other (both_found x rest f h p q) (searched_past y more g k r) =
    absurd (true≢false (sym h ∙ ap (λ (z : Item). is_complete (noted s z)) (Front-same bytes x y rest more f g).0 ∙ k))
looks-one s bytes c d old new other (searched_past x rest f h p) (search_ends is r t) = no_front bytes rest x is f
looks-one s bytes c d old new other (searched_past x rest f h p) (search_stops e left bad r t) = absurd (Front-sound bytes x rest e f bad)
looks-one s bytes c d old new other (searched_past x rest f h p) (both_found y more g k r t) =
    absurd (true≢false (sym k ∙ sym (ap (λ (z : Item). is_complete (noted s z)) (Front-same bytes x y rest more f g).0) ∙ h))
looks-one s bytes c d old new other (searched_past x rest f h p) (searched_past y more g k r) =
    let same = Front-same bytes y x more rest g f in
    let there = subst (λ (z : Item). Searching (noted s z) more d (hit old) other) same.0 r in
    looks-one (noted s x) rest c d (hit old) new other p (subst (λ (b : List ℕ). Searching (noted s x) b d (hit old) other) same.1 there)

-- they are taken from any counts
pub search-adds : (s : State) (bytes : List ℕ) (c : Forms) (old new : Counts) → Searching s bytes c old new → Adds (Searching s bytes c) old new
search-adds s bytes c old new (search_ends is p q) =
    record { number = no_looks; is = q ∙ sym (raised-none old); alike = λ a. search_ends is p (raised-none a) }
search-adds s bytes c old new (search_stops e left bad p q) =
    record { number = one_miss; is = q ∙ sym (raised-miss old); alike = λ a. search_stops e left bad p (raised-miss a) }
search-adds s bytes c old new (both_found x rest f h p q) =
    record { number = one_hit; is = q ∙ sym (raised-hit old); alike = λ a. both_found x rest f h p (raised-hit a) }
search-adds s bytes c old new (searched_past x rest f h p) =
    let a = search-adds (noted s x) rest c (hit old) new p in
    record {
      number = plus one_hit a.number;
      is = a.is ∙ raised-inside a.number old;
      alike =
          λ at. searched_past x rest f h
          (subst (λ (d : Counts). Searching (noted s x) rest c (hit at) d) (raised-inside a.number at) (a.alike (hit at)));
    }

-- a list whose first attribute is passed
whole-behind : (items : List Item) (bytes rest : List ℕ) (x : Item) (old new : Counts) → Front bytes x rest
    → ((js : List Item) → Passes rest js [] → new.failed ≡ old.failed) → Passes bytes items [] → new.failed ≡ old.failed
whole-behind [] bytes rest x old new f whole cut = no_front bytes rest x cut f
whole-behind (y ∷ items) bytes rest x old new f whole (more, g, cut) =
    whole items (subst (λ (b : List ℕ). Passes b items []) (Front-same bytes y x more rest g f).1 cut)

-- it passes attributes with a look each, and one look fails at most
pub search-searched : (s : State) (bytes : List ℕ) (c : Forms) (old new : Counts) → Searching s bytes c old new → Searched bytes old new
search-searched s bytes c old new (search_ends is p q) =
    let a = ap (λ (k : Counts). k.successful) q in
    let b = ap (λ (k : Counts). k.failed) q in
    record {
      passed = [];
      rest = bytes;
      passes = refl;
      kept = omega (arith, a);
      successful = omega (arith, a);
      failed_kept = omega (arith, b);
      failed = omega (arith, b);
      whole = λ items cut. b;
    }
search-searched s bytes c old new (search_stops e left bad p q) =
    let a = ap (λ (k : Counts). k.successful) q in
    let b = ap (λ (k : Counts). k.failed) q in
    record {
      passed = [];
      rest = bytes;
      passes = refl;
      kept = omega (arith, a);
      successful = omega (arith, a);
      failed_kept = omega (arith, b);
      failed = omega (arith, b);
      whole = λ items cut. absurd (Cut-stops items [] bytes bytes e cut refl left bad);
    }
search-searched s bytes c old new (both_found x rest f h p q) =
    let a = ap (λ (k : Counts). k.successful) q in
    let b = ap (λ (k : Counts). k.failed) q in
    record {
      passed = x ∷ [];
      rest = rest;
      passes = (rest, f, refl);
      kept = omega (arith, a);
      successful = omega (arith, a);
      failed_kept = omega (arith, b);
      failed = omega (arith, b);
      whole = λ items cut. b;
    }
search-searched s bytes c old new (searched_past x rest f h p) =
    let r = search-searched (noted s x) rest c (hit old) new p in
    record {
      passed = x ∷ r.passed;
      rest = r.rest;
      passes = (rest, f, r.passes);
      kept = omega (arith, r.kept);
      successful = omega (arith, r.successful);
      failed_kept = omega (arith, r.failed_kept);
      failed = omega (arith, r.failed);
      whole = λ items cut. whole-behind items bytes rest x (hit old) new f r.whole cut;
    }
