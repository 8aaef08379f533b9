-- Options of Geneve that were read so far.
use Rattle.std.proofs.Common.{◌≡◌, ℕ, ◌+◌, ◌-◌, ◌<◌, ◌≤◌, Bool, true, false, List, [], ◌∷◌, ◌++◌, Option, Some, None, length, refl, sym, ap, inl, inr}
use Rattle.std.proofs.Common.{true≢false, append_assoc, arith}
use Rattle.std.proofs.lemmas.List.{length_push}
use Rattle.npr_base.specs.declared.refusal.DecodeError.{DecodeError}
use Rattle.npr_base.specs.Counts.{Counts, hit, miss}
use Rattle.npr_base.specs.Lists.{ReadsTo}
use Rattle.npr_base.specs.Framing.{Item, Front, Fault}
use Rattle.npr_base.specs.lemmas.Front.{Front-shrinks, Front-sound, Front-takes}
use Rattle.npr_base.specs.Looks.{list_ends, none_stands, faulty_stands, passed}
use Rattle.npr_base.proofs.Lists.{ReadsTo-more}
use Rattle.npr_base.proofs.Looking.{SoFar, SoFar-more, AddsAtMost-none}
use Rattle.npr_encapsulation.specs.Geneve.{Geneve, Child, class_child, type_child, data_child, ReadsChild, WrongChild, class_length, type_length, order, child}
use Rattle.npr_encapsulation.specs.Geneve.{options_behind, AreGroups, AreOptions, is_open}
use Rattle.npr_encapsulation.specs.lemmas.GeneveLooks.{front-outside}
use Rattle.npr_encapsulation.specs.GeneveLooks.{OptionsLooks}
use Rattle.npr_encapsulation.specs.GeneveSteps.{listed, is_some, Changes}

-- ---- one child more

-- children are options behind the one that is open, or where none is
abbrev pub Follows : Option Geneve → List Child → List Geneve → Type 0
Follows None cs os = AreGroups cs os
Follows (Some o) cs os = os ≡ options_behind o cs

child-follows : (before : Option Geneve) (c : Child) (closed : Option Geneve) (opened : Geneve) → Changes before c closed opened
    → (cs : List Child) (os : List Geneve) → Follows (Some opened) cs os → Follows before (c ∷ cs) (listed closed ++ os)
child-follows None (class_child n) closed opened (closed-is, opened-is) cs os p = rw closed-is (rw opened-is at p)
child-follows None c closed opened change cs os p = absurd change
child-follows (Some o) (class_child n) closed opened (closed-is, opened-is) cs os p =
    rw closed-is (ap (λ (ps : List Geneve). o ∷ ps) (rw opened-is at p))
child-follows (Some o) (type_child n) closed opened (closed-is, opened-is) cs os p = rw closed-is (rw opened-is at p)
child-follows (Some o) (data_child d) closed opened (closed-is, opened-is) cs os p = rw closed-is (rw opened-is at p)

-- ---- the looks at a child, where an option is open or none is

pub looks-end : (inside : Bool) (bytes : List ℕ) (old new : Counts) → bytes ≡ [] → new ≡ old → OptionsLooks inside bytes old new
looks-end true bytes old new is p = list_ends is p
looks-end false bytes old new is p = inr (λ (x, rest, f, k). omega (arith, ap length is, Front-shrinks bytes x rest f), list_ends is p)

pub looks-cut : (inside : Bool) (bytes : List ℕ) (old new : Counts) (e : DecodeError) → 0 < length bytes → Fault bytes e → new ≡ miss old → OptionsLooks inside bytes old new
looks-cut true bytes old new e left bad p = none_stands e left bad p
looks-cut false bytes old new e left bad p = inr (λ (x, rest, f, k). Front-sound bytes x rest e f bad, none_stands e left bad p)

pub looks-faulty : (inside : Bool) (bytes rest : List ℕ) (old new : Counts) (x : Item) (e : DecodeError) → Front bytes x rest → WrongChild inside x e → new ≡ hit old → OptionsLooks inside bytes old new
looks-faulty true bytes rest old new x e f bad p = faulty_stands x rest e f bad p
looks-faulty false bytes rest old new x e f (class_length d k w) p = inr (front-outside bytes rest x f (λ two. omega (arith, k, two)) (λ three. omega (arith, k, three)), faulty_stands x rest e f (class_length d k w) p)
looks-faulty false bytes rest old new x e f (type_length d k o w) p = absurd (true≢false (sym o))
looks-faulty false bytes rest old new x e f (order o k) p = inl ((x, rest, f, k), p)
looks-faulty false bytes rest old new x e f (child i j k) p = inr (front-outside bytes rest x f j k, faulty_stands x rest e f (child i j k) p)

looks-passed : (bytes rest : List ℕ) (old new : Counts) (x : Item) (c : Child) (before closed : Option Geneve) (opened : Geneve) → Front bytes x rest → ReadsChild x c
    → Changes before c closed opened → OptionsLooks true rest (hit old) new → OptionsLooks (is_some before) bytes old new
looks-passed bytes rest old new x c (Some o) closed opened f r change later = passed x rest c (hit old) f r refl later
looks-passed bytes rest old new x (class_child n) None closed opened f r change later =
    inr (front-outside bytes rest x f (λ two. omega (arith, r.0, two)) (λ three. omega (arith, r.0, three)), passed x rest (class_child n) (hit old) f r refl later)
looks-passed bytes rest old new x c None closed opened f r change later = absurd change

-- ---- what was read so far: the options that are closed, and the one that is open

pub record SoFarRead (bytes : List ℕ) (start now : Counts) (options : List Geneve) (current : Option Geneve) (rest : List ℕ) : Type 0 where
  pub children : List Child
  pub read : ReadsTo ReadsChild bytes children rest
  pub groups : AreGroups children (options ++ listed current)
  pub begun : is_open children ≡ is_some current
  pub follow : (cs : List Child) (os : List Geneve) → Follows current cs os → AreGroups (children ++ cs) (options ++ os)
  pub left : length rest ≤ length bytes
  pub exact : (end : Counts) → OptionsLooks (is_some current) rest now end → OptionsLooks false bytes start end
  pub looks : SoFar start now (length bytes - length rest) (length children)

pub none_read : (bytes : List ℕ) (start : Counts) → SoFarRead bytes start start [] None bytes
none_read bytes start = record {
  children = [];
  read = ([], refl, tt);
  groups = refl;
  begun = refl;
  follow = λ cs os p. p;
  left = omega arith;
  exact = λ end later. later;
  looks = record { kept = omega arith; successful = omega arith; failed = refl };
}

-- reading a child looks at no header in it
pub child_read : (bytes : List ℕ) (start now : Counts) (os : List Geneve) (before closed : Option Geneve) (opened : Geneve) (walk rest : List ℕ) (x : Item) (c : Child)
    → SoFarRead bytes start now os before walk → Front walk x rest → ReadsChild x c → Changes before c closed opened → SoFarRead bytes start (hit now) (os ++ listed closed) (Some opened) rest
child_read bytes start now os before closed opened walk rest x c past f reads change =
    let took = Front-takes walk x rest f in
    let fewer : (length bytes - length walk) + (4 + length x.value) ≤ length bytes - length rest = omega (arith, took, past.left) in
    record {
      children = past.children ++ c ∷ [];
      read = ReadsTo-more ReadsChild bytes past.children walk x c rest past.read f reads;
      groups = rw (append_assoc os (listed closed) (opened ∷ [])) (past.follow (c ∷ []) (listed closed ++ opened ∷ []) (child-follows before c closed opened change [] (opened ∷ []) refl));
      begun = elim past.children as (λ cs. is_open (cs ++ c ∷ []) ≡ true) [ [] ↦ refl | d ∷ ds ↦ refl ];
      follow = λ cs ps p. rw (append_assoc past.children (c ∷ []) cs, append_assoc os (listed closed) ps) (past.follow (c ∷ cs) (listed closed ++ ps) (child-follows before c closed opened change cs ps p));
      left = omega (arith, took, past.left);
      exact = λ end later. past.exact end (looks-passed walk rest now end x c before closed opened f reads change later);
      looks = rw (length_push past.children c) (SoFar-more start now (hit now) (length bytes - length walk) (length past.children) (length x.value) (length bytes - length rest) past.looks (AddsAtMost-none (hit now) (length x.value)) refl fewer);
    }

pub all_read : (bytes : List ℕ) (start now : Counts) (os : List Geneve) (current : Option Geneve) → SoFarRead bytes start now os current [] → AreOptions bytes (os ++ listed current)
all_read bytes start now os current past = (past.children, past.read, past.groups)
