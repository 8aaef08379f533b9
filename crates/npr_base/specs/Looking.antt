-- The looks of a value without headers inside, of values of one number, and of what a row says can stand in its values.
use Rattle.std.specs.Prelude.{◌==◌}
use Rattle.std.proofs.Common.{ℕ, List, ◌≡◌, sym, ◌∙◌}
use Rattle.npr_base.specs.Framing.{Item, number_of}
use Rattle.npr_base.specs.Looks.{Looking, LooksAt, Inside, nothing, looked_through}
use Rattle.npr_base.specs.lemmas.Bool.{both}
use Rattle.npr_base.specs.lemmas.Looks.{adds-at, none-adds}

-- a value without headers inside
abbrev pub no_looking : {V : Type 0} → Looking V
no_looking = record {
  Takes = λ x old new. new ≡ old;
  one = λ x old new other p q. p ∙ sym q;
  adds = λ x old new p. none-adds old new p;
}

-- values of one number take these looks, and attributes of other numbers those
abbrev pub looking_at : ℕ → Looking (List ℕ) → Looking Item → Looking Item
looking_at number within others = record {
  Takes = LooksAt number within.Takes others.Takes;
  one = λ x old new other p q. both (number_of x.kind == number) (within.one x.value old new other) (others.one x old new other) p q;
  adds = λ x old new p.
      adds-at (within.Takes x.value) (others.Takes x) (number_of x.kind == number) old new (within.adds x.value old new) (others.adds x old new) p;
}

-- what can stand inside the values of one number
abbrev pub looking_inside : ℕ → Inside → Looking Item → Looking Item
looking_inside number nothing others = others
looking_inside number (looked_through looking) others = looking_at number looking others
