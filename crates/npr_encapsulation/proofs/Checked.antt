-- Children of Geneve that were checked so far: an option is open behind the first.
use Rattle.std.proofs.Common.{◌≡◌, ℕ, Bool, true, false, List, [], ◌∷◌, ◌++◌, refl, sym, true≢false}
use Rattle.npr_base.specs.Framing.{Item, Front}
use Rattle.npr_base.specs.Lists.{ReadsTo}
use Rattle.npr_base.proofs.Lists.{ReadsTo-more, ReadsTo-none}
use Rattle.npr_encapsulation.specs.Geneve.{Geneve, Child, class_child, ReadsChild, fresh, options_behind, AreGroups, is_open}
use Rattle.npr_encapsulation.specs.GeneveSteps.{Stands}

pub record SoFarChecked (bytes : List ℕ) (inside : Bool) (rest : List ℕ) : Type 0 where
  pub children : List Child
  pub read : ReadsTo ReadsChild bytes children rest
  pub options : List Geneve
  pub groups : AreGroups children options
  pub begun : is_open children ≡ inside

pub none_checked : (bytes : List ℕ) → SoFarChecked bytes false bytes
none_checked bytes = record { children = []; read = ReadsTo-none ReadsChild bytes; options = []; groups = refl; begun = refl }

-- children that begin with a class are groups, whatever follows
more_groups : (children : List Child) (os : List Geneve) (c : Child) → AreGroups children os → Stands (is_open children) c
    → (ps : List Geneve) × AreGroups (children ++ c ∷ []) ps
more_groups [] os (class_child n) g stands = (options_behind (fresh n) [], refl)
more_groups [] os c g stands = absurd (true≢false (sym stands))
more_groups (class_child n ∷ cs) os c g stands = (options_behind (fresh n) (cs ++ c ∷ []), refl)
more_groups (d ∷ cs) os c g stands = absurd g

more_open : (children : List Child) (c : Child) → is_open (children ++ c ∷ []) ≡ true
more_open [] c = refl
more_open (d ∷ cs) c = refl

pub child_checked : (bytes : List ℕ) (inside : Bool) (walk rest : List ℕ) (x : Item) (c : Child) → SoFarChecked bytes inside walk → Front walk x rest
    → ReadsChild x c → Stands inside c → SoFarChecked bytes true rest
child_checked bytes inside walk rest x c past f reads stands =
    let more = more_groups past.children past.options c past.groups (rw past.begun stands) in
    record {
      children = past.children ++ c ∷ [];
      read = ReadsTo-more ReadsChild bytes past.children walk x c rest past.read f reads;
      options = more.0;
      groups = more.1;
      begun = more_open past.children c;
    }
