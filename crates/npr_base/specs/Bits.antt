-- Numbers that are made of fields of bits, as the layouts of RFCs are drawn: from the highest bit on.
--     Bits               a value in the bits of a number
--     bits               a number, of which so many bits are written
--     flag               whether a bit is 1
--     above              a field, and the fields below it
--     lowest             the last of them
--     over_spare         fields over bits that are not looked at, and written 0
--     under_spare        fields under such bits
--     packed             the fields of a number that stands in a struct
use Rattle.std.specs.Prelude.{◌≡◌, ℕ, ◌+◌, ◌*◌, ◌/◌, ◌%◌, ◌^◌, ◌<◌, ◌==◌, Bool, true, false, List, ◌++◌, length}
use Rattle.std.proofs.Common.{refl, sym, ap, subst, ◌∙◌, arith}
use Rattle.std.proofs.Math.Nat.{mod-eq_of_lt}
use Rattle.std.proofs.lemmas.Nat.{div-mul-add, mod-mul-add, mul-add-lt, div_below, mod_below, pow_pos}
use Rattle.npr_base.specs.Fields.{Field}
use Rattle.npr_base.specs.Framing.{IsBytes}
use Rattle.npr_base.specs.Layout.{truth_byte}

-- the numbers below `count`, and the values that they are read as
pub record Bits (V : Type 0) : Type 1 where
  pub count : ℕ
  pub of : ℕ → V
  pub number : V → ℕ
  -- the values that it can hold
  pub Holds : V → Type 0
  pub some : 0 < count
  pub number-below : (x : V) → number x < count
  -- what it can hold is read back
  pub of-number : (x : V) → Holds x → of (number x) ≡ x
  pub Holds-of : (n : ℕ) → n < count → Holds (of n)

abbrev pub bits : ℕ → Bits ℕ
bits k = record {
  count = 2 ^ k;
  of = λ n. n;
  number = λ x. x % 2 ^ k;
  Holds = λ x. x < 2 ^ k;
  some = pow_pos k;
  number-below = λ x. mod_below x (2 ^ k) (pow_pos k);
  of-number = λ x h. mod-eq_of_lt h;
  Holds-of = λ n lt. lt;
}

pub truth-below : (b : Bool) → truth_byte b < 2
truth-below true = omega arith
truth-below false = omega arith

pub truth-back : (b : Bool) → Unit {0} → (truth_byte b == 1) ≡ b
truth-back true h = refl
truth-back false h = refl

abbrev pub flag : Bits Bool
flag = record {
  count = 2;
  of = λ n. n == 1;
  number = truth_byte;
  Holds = λ b. Unit {0};
  some = omega arith;
  number-below = truth-below;
  of-number = truth-back;
  Holds-of = λ n lt. tt;
}

infixr 5 ◌above◌
module _ {A B : Type 0} (F : Bits A) (G : Bits B) where
  pub high-back : (x : A) (y : B) → F.Holds x → F.of ((F.number x * G.count + G.number y) / G.count) ≡ x
  high-back x y h = ap F.of (div-mul-add (F.number x) G.count (G.number y) (G.number-below y)) ∙ F.of-number x h

  pub low-back : (x : A) (y : B) → G.Holds y → G.of ((F.number x * G.count + G.number y) % G.count) ≡ y
  low-back x y h = ap G.of (mod-mul-add (F.number x) G.count (G.number y) (G.number-below y)) ∙ G.of-number y h

  pub high-below : (n : ℕ) → n < G.count * F.count → n / G.count < F.count
  high-below n lt = div_below n G.count F.count G.some (omega (arith, lt))

  abbrev pub ◌above◌ : Bits (A × B)
  ◌above◌ = record {
    count = G.count * F.count;
    of = λ n. (F.of (n / G.count), G.of (n % G.count));
    number = λ p. F.number p.0 * G.count + G.number p.1;
    Holds = λ p. F.Holds p.0 × G.Holds p.1;
    some = omega (arith, mul-add-lt 0 G.count 0 F.count F.some G.some);
    number-below = λ p. mul-add-lt (F.number p.0) G.count (G.number p.1) F.count (F.number-below p.0) (G.number-below p.1);
    of-number = λ p h. λ i. (high-back p.0 p.1 h.0 i, low-back p.0 p.1 h.1 i);
    Holds-of = λ n lt. (F.Holds-of (n / G.count) (high-below n lt), G.Holds-of (n % G.count) (mod_below n G.count G.some));
  }

-- a value in another form
module _ {A V : Type 0} (F : Bits A) (of : A → V) (number : V → A) where
  pub seen-back : ((v : V) → of (number v) ≡ v) → (v : V) → F.Holds (number v) → of (F.of (F.number (number v))) ≡ v
  seen-back back v h = ap of (F.of-number (number v) h) ∙ back v

  pub seen-holds : ((x : A) → number (of x) ≡ x) → (n : ℕ) → n < F.count → F.Holds (number (of (F.of n)))
  seen-holds same n lt = subst F.Holds (sym (same (F.of n))) (F.Holds-of n lt)

  abbrev pub seen_as : ((v : V) → of (number v) ≡ v) → ((x : A) → number (of x) ≡ x) → Bits V
  seen_as back same = record {
    count = F.count;
    of = λ n. of (F.of n);
    number = λ v. F.number (number v);
    Holds = λ v. F.Holds (number v);
    some = F.some;
    number-below = λ v. F.number-below (number v);
    of-number = seen-back back;
    Holds-of = seen-holds same;
  }

-- the last field of a struct
abbrev pub lowest : {A : Type 0} → Bits A → Bits (A × Unit {0})
lowest F = seen_as F (λ x. (x, tt)) (λ p. p.0) (λ p. refl) (λ x. refl)

-- bits that are not looked at, and written 0
abbrev spare : ℕ → Bits (Unit {0})
spare k = record {
  count = 2 ^ k;
  of = λ n. tt;
  number = λ x. 0;
  Holds = λ x. Unit {0};
  some = pow_pos k;
  number-below = λ x. pow_pos k;
  of-number = λ x h. refl;
  Holds-of = λ n lt. tt;
}

abbrev pub over_spare : {A : Type 0} → ℕ → Bits A → Bits A
over_spare k F = seen_as (F above spare k) (λ p. p.0) (λ x. (x, tt)) (λ x. refl) (λ p. refl)

abbrev pub under_spare : {A : Type 0} → ℕ → Bits A → Bits A
under_spare k F = seen_as (spare k above F) (λ p. p.1) (λ x. (tt, x)) (λ x. refl) (λ p. refl)

-- in a number that can be all that is below its count
module _ {V : Type 0} (N : Field ℕ) (F : Bits V) (whole : (n : ℕ) → N.Holds n ≡ (n < F.count)) where
  pub packed-back : (front more : List ℕ) (x : V) → F.Holds x → F.of (N.at (front ++ (N.encode (F.number x) ++ more)) (length front)) ≡ x
  packed-back front more x h =
      let fits = subst (λ (T : Type 0). T) (sym (whole (F.number x))) (F.number-below x) in
      ap F.of (N.at-encode front more (F.number x) fits) ∙ F.of-number x h

  pub packed-holds : (bytes : List ℕ) (i : ℕ) → IsBytes bytes → F.Holds (F.of (N.at bytes i))
  packed-holds bytes i is = F.Holds-of (N.at bytes i) (subst (λ (T : Type 0). T) (whole (N.at bytes i)) (N.Holds-at bytes i is))

  abbrev pub packed : Field V
  packed = record {
    width = N.width;
    at = λ bytes i. F.of (N.at bytes i);
    encode = λ x. N.encode (F.number x);
    Holds = F.Holds;
    length-encode = λ x. N.length-encode (F.number x);
    at-encode = packed-back;
    Holds-at = packed-holds;
  }
