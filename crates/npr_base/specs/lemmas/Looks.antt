-- The looks of a reading are one number.
use Rattle.std.proofs.Common.{◌≡◌, ℕ, ◌+◌, List, length, sym, ap, subst, ◌∙◌, arith, Bool, true, false}
use Rattle.npr_base.specs.declared.refusal.DecodeError.{DecodeError}
use Rattle.npr_base.specs.Counts.{Counts, AddsAtMost, SawEach, no_looks, hit, miss, raised}
use Rattle.npr_base.specs.Framing.{Item}
use Rattle.npr_base.specs.lemmas.Front.{Front-same, Front-sound, no_front}
use Rattle.npr_base.specs.Looks.{Adds, ListLooks, list_ends, none_stands, faulty_stands, passed}
use Rattle.std.specs.Bool.{MatchBool}

-- ---- counts

pub same_counts : (c d : Counts) → c.successful ≡ d.successful → c.failed ≡ d.failed → c ≡ d
same_counts c d p q = λ i. record { successful = p i; failed = q i }

-- one number and another
abbrev pub plus : Counts → Counts → Counts
plus a b = record { successful = a.successful + b.successful; failed = a.failed + b.failed }

abbrev pub one_hit : Counts
one_hit = record { successful = 1; failed = 0 }

abbrev pub one_miss : Counts
one_miss = record { successful = 0; failed = 1 }

pub raised-none : (c : Counts) → raised no_looks c ≡ c
raised-none c = same_counts (raised no_looks c) c (omega arith) (omega arith)

pub raised-hit : (c : Counts) → raised one_hit c ≡ hit c
raised-hit c = same_counts (raised one_hit c) (hit c) (omega arith) (omega arith)

pub raised-miss : (c : Counts) → raised one_miss c ≡ miss c
raised-miss c = same_counts (raised one_miss c) (miss c) (omega arith) (omega arith)

pub raised-more : (a b c : Counts) → raised b (raised a c) ≡ raised (plus a b) c
raised-more a b c = same_counts (raised b (raised a c)) (raised (plus a b) c) (omega arith) (omega arith)

-- a look that finds a header, and then others
pub raised-behind : (a b c : Counts) → raised b (raised a (hit c)) ≡ raised (plus one_hit (plus a b)) c
raised-behind a b c = same_counts (raised b (raised a (hit c))) (raised (plus one_hit (plus a b)) c) (omega arith) (omega arith)

pub raised-inside : (a c : Counts) → raised a (hit c) ≡ raised (plus one_hit a) c
raised-inside a c = same_counts (raised a (hit c)) (raised (plus one_hit a) c) (omega arith) (omega arith)

-- ---- none

pub none-adds : (old new : Counts) → new ≡ old → Adds (λ (s t : Counts). t ≡ s) old new
none-adds old new is = record { number = no_looks; is = is ∙ sym (raised-none old); alike = raised-none }

pub none-most : (len : ℕ) (old new : Counts) → new ≡ old → AddsAtMost old new len
none-most len old new is =
    let s = ap (λ (c : Counts). c.successful) is in
    let f = ap (λ (c : Counts). c.failed) is in
    record { kept = omega (arith, s); successful = omega (arith, s); failed_kept = omega (arith, f); failed = omega (arith, f) }

pub none-saw : (old new : Counts) → new ≡ old → SawEach old new 0
none-saw old new is =
    let s = ap (λ (c : Counts). c.successful) is in
    record { failed = ap (λ (c : Counts). c.failed) is; each = λ below. omega (arith, s) }

-- ---- a list

module _ {M : Type 0} (reads : Item → M → Type 0) (faulty : Item → DecodeError → Type 0) (takes : Item → Counts → Counts → Type 0) where
  pub list-one : ((x : Item) (m : M) (e : DecodeError) → reads x m → faulty x e → ⊥)
      → ((x : Item) (old new other : Counts) → takes x old new → takes x old other → new ≡ other)
      → (bytes : List ℕ) (old new other : Counts) → ListLooks reads faulty takes bytes old new → ListLooks reads faulty takes bytes old other → new ≡ other
  list-one sound one bytes old new other (list_ends is p) (list_ends js q) = p ∙ sym q
  list-one sound one bytes old new other (list_ends is p) (none_stands e left bad q) = absurd (omega (arith, ap length is, left))
  list-one sound one bytes old new other (list_ends is p) (faulty_stands x rest e f bad q) = no_front bytes rest x is f
  list-one sound one bytes old new other (list_ends is p) (passed x rest m mid f r t q) = no_front bytes rest x is f
  list-one sound one bytes old new other (none_stands e left bad p) (list_ends is q) = absurd (omega (arith, ap length is, left))
  list-one sound one bytes old new other (none_stands e left bad p) (none_stands d more worse q) = p ∙ sym q
  list-one sound one bytes old new other (none_stands e left bad p) (faulty_stands x rest d f worse q) = absurd (Front-sound bytes x rest e f bad)
  list-one sound one bytes old new other (none_stands e left bad p) (passed x rest m mid f r t q) = absurd (Front-sound bytes x rest e f bad)
  list-one sound one bytes old new other (faulty_stands x rest e f bad p) (list_ends is q) = no_front bytes rest x is f
  list-one sound one bytes old new other (faulty_stands x rest e f bad p) (none_stands d left worse q) = absurd (Front-sound bytes x rest d f worse)
  list-one sound one bytes old new other (faulty_stands x rest e f bad p) (faulty_stands y more d g worse q) =
      one x (hit old) new other p (subst (λ (z : Item). takes z (hit old) other) (Front-same bytes y x more rest g f).0 q)
  list-one sound one bytes old new other (faulty_stands x rest e f bad p) (passed y more m mid g r t q) =
      absurd (sound x m e (subst (λ (z : Item). reads z m) (Front-same bytes y x more rest g f).0 r) bad)
  list-one sound one bytes old new other (passed x rest m mid f r t p) (list_ends is q) = no_front bytes rest x is f
  list-one sound one bytes old new other (passed x rest m mid f r t p) (none_stands e left bad q) = absurd (Front-sound bytes x rest e f bad)
  list-one sound one bytes old new other (passed x rest m mid f r t p) (faulty_stands y more e g bad q) =
      absurd (sound x m e r (subst (λ (z : Item). faulty z e) (Front-same bytes y x more rest g f).0 bad))
  list-one sound one bytes old new other (passed x rest m mid f r t p) (passed y more n far g v u q) =
      let same = Front-same bytes y x more rest g f in
      let here : far ≡ mid = one x (hit old) far mid (subst (λ (z : Item). takes z (hit old) far) same.0 u) t in
      let there = subst (λ (b : List ℕ). ListLooks reads faulty takes b far other) same.1 q in
      list-one sound one rest mid new other p (subst (λ (c : Counts). ListLooks reads faulty takes rest c other) here there)

  pub list-adds : ((x : Item) (old new : Counts) → takes x old new → Adds (takes x) old new)
      → (bytes : List ℕ) (old new : Counts) → ListLooks reads faulty takes bytes old new → Adds (ListLooks reads faulty takes bytes) old new
  list-adds adds bytes old new (list_ends is p) =
      record { number = no_looks; is = p ∙ sym (raised-none old); alike = λ c. list_ends is (raised-none c) }
  list-adds adds bytes old new (none_stands e left bad p) =
      record { number = one_miss; is = p ∙ sym (raised-miss old); alike = λ c. none_stands e left bad (raised-miss c) }
  list-adds adds bytes old new (faulty_stands x rest e f bad p) =
      let a = adds x (hit old) new p in
      record {
        number = plus one_hit a.number;
        is = a.is ∙ raised-inside a.number old;
        alike = λ c. faulty_stands x rest e f bad (subst (λ (d : Counts). takes x (hit c) d) (raised-inside a.number c) (a.alike (hit c)));
      }
  list-adds adds bytes old new (passed x rest m mid f r t p) =
      let a = adds x (hit old) mid t in
      let b = list-adds adds rest mid new p in
      record {
        number = plus one_hit (plus a.number b.number);
        is = b.is ∙ ap (raised b.number) a.is ∙ raised-behind a.number b.number old;
        alike =
            λ c.
            let far : Counts = raised a.number (hit c) in
            let there = subst (λ (d : Counts). ListLooks reads faulty takes rest far d) (raised-behind a.number b.number c) (b.alike far) in
            passed x rest m far f r (a.alike (hit c)) there;
      }

pub adds-at : (P Q : Counts → Counts → Type 0) (b : Bool) (old new : Counts) → (P old new → Adds P old new) → (Q old new → Adds Q old new)
    → MatchBool b (P old new) (Q old new) → Adds (λ (s t : Counts). MatchBool b (P s t) (Q s t)) old new
adds-at P Q true old new f g p = let a = f p in record { number = a.number; is = a.is; alike = a.alike }
adds-at P Q false old new f g p = let a = g p in record { number = a.number; is = a.is; alike = a.alike }
