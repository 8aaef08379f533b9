-- A set of which each number has the same kind of value, as lists of tins and of actions have: the number is data, its place among the
-- others.
--     Numbered             a number and a value
--     numbered             the family
use Rattle.std.specs.Prelude.{◌≡◌, ℕ, ◌<◌, ◌^◌, false, None}
use Rattle.std.proofs.Common.{refl, sym, ◌∙◌, arith}
use Rattle.npr_base.specs.Codec.{Codec}
use Rattle.npr_base.specs.Counts.{Counts}
use Rattle.npr_base.specs.declared.attribute_set.AttributeSet.{AttributeSet}
use Rattle.npr_base.specs.Family.{Shape, Writing, Reading, written_by, unfit_by}
use Rattle.npr_base.specs.Framing.{Item, Proper, number_of}
use Rattle.npr_base.specs.lemmas.Fit.{unfit_of-none}
use Rattle.npr_base.specs.lemmas.Looks.{none-adds}
use Rattle.npr_base.specs.Looks.{Adds, Inside, nothing, looked_through, TakesInside}
use Rattle.npr_base.specs.Refusal.{at_number}

-- a number without flags, and the value that stands under it
pub record Numbered (V : Type 0) : Type 0 where
  pub number : ℕ
  pub value : V

-- what can stand inside a value
pub one_inside : (i : Inside) (x : Item) (old new other : Counts) → TakesInside i x.value old new → TakesInside i x.value old other → new ≡ other
one_inside nothing x old new other p q = p ∙ sym q
one_inside (looked_through looking) x old new other p q = looking.one x.value old new other p q

pub adds_inside : (i : Inside) (x : Item) (old new : Counts) → TakesInside i x.value old new → Adds (TakesInside i x.value) old new
adds_inside nothing x old new p = none-adds old new p
adds_inside (looked_through looking) x old new p = looking.adds x.value old new p

module _ {V : Type 0} (set : AttributeSet) (codec : Codec V) where
  abbrev pub shape : Numbered V → Shape
  shape a = record { item = record { kind = a.number; value = codec.encode a.value }; nested = false; unfit = codec.unfit a.number a.value }

  abbrev pub writing : Writing (Numbered V)
  writing = record { shape = shape; members = λ a. codec.members.count a.value }

  -- the number is that of the attribute, without its flags
  abbrev pub IsNumbered : Item → Numbered V → Type 0
  IsNumbered x a = (a.number ≡ number_of x.kind) × codec.Reads x.value a.value

  -- it fits in the 14 bits of a number
  abbrev pub Holds : Numbered V → Type 0
  Holds a = (a.number < 2 ^ 14) × codec.Holds a.value

  pub numbered-one : (x : Item) (a b : Numbered V) → IsNumbered x a → IsNumbered x b → a ≡ b
  numbered-one x a b p q = λ i. record { number = (p.0 ∙ sym q.0) i; value = codec.one_reading x.value a.value b.value p.1 q.1 i }

  small : (kind : ℕ) → number_of kind < 2 ^ 14
  small kind = omega arith

  itself : (n : ℕ) → n < 2 ^ 14 → n ≡ number_of n
  itself n p = omega (arith, p)

  pub numbered-holds : (x : Item) (a : Numbered V) → Proper x → IsNumbered x a → Holds a
  numbered-holds x a proper p = (omega (arith, p.0, small x.kind), codec.reads_holds x.value a.value proper.value p.1)

  pub numbered-back : (a : Numbered V) → Holds a → unfit_by writing a ≡ None → IsNumbered (written_by writing a) a
  numbered-back a h fits =
      (itself a.number h.0, codec.reads_back a.number a.value h.1 (unfit_of-none (codec.unfit a.number a.value) (shape a).item fits))

  abbrev pub numbered : Reading writing
  numbered = record {
    Reads = IsNumbered;
    Faulty = λ x e. codec.Wrong (at_number set (number_of x.kind)) x.value e;
    looks = record {
      Takes = λ x. TakesInside codec.members.looks x.value;
      one = one_inside codec.members.looks;
      adds = adds_inside codec.members.looks;
    };
    Coherent = Holds;
    one_reading = numbered-one;
    no_fault = λ x a e p q. codec.no_fault (at_number set (number_of x.kind)) x.value a.value e p.1 q;
    reads_coherent = numbered-holds;
    kinds = λ a h. omega (arith, h.0);
    reads_back = numbered-back;
    grows = λ x a proper p. codec.grows x.value a.value proper.value p.1;
    bounded = λ x old new takes. codec.members.bounded x.value old new takes;
    saw = λ x a old new p takes. codec.members.saw x.value a.value old new p.1 takes;
    seeing = record {
      form_at = λ k. (at_number set k, codec.showing.form);
      sees = λ x a. codec.showing.sees x.value a.value;
      shows = λ x s a p q. codec.showing.shows x.value s a.value p q.1;
      whole =
          λ x s w p.
          let v = codec.showing.whole x.value s w p in
          (record { number = number_of x.kind; value = v.0 }, (refl, v.1));
      wrong = λ x e p. codec.showing.wrong (at_number set (number_of x.kind)) x.value e p;
    };
  }
