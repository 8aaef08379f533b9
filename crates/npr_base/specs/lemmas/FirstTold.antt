-- What governs a list is one, and is what the first of its attributes tells; and a search for it looks at each attribute once.
use Rattle.std.proofs.Common.{◌≡◌, ℕ, ◌+◌, ◌≤◌, List, [], ◌∷◌, ◌++◌, length, Option, Some, None, Result, Ok, Err, refl, sym, ap, subst, ◌∙◌, arith, inl, inr}
use Rattle.std.proofs.lemmas.List.{length_push}
use Rattle.npr_base.specs.declared.refusal.DecodeError.{DecodeError}
use Rattle.npr_base.specs.Counts.{Counts, no_looks, hit, looked, raised}
use Rattle.npr_base.specs.Framing.{Item, Front, Passes, Step}
use Rattle.npr_base.specs.lemmas.Front.{Front-same, Front-shrinks, Front-sound, Passes-more, Cut-stops, no_front}
use Rattle.npr_base.specs.Lists.{Each, AllOf, ReadsList}
use Rattle.npr_base.specs.Looks.{Adds}
use Rattle.npr_base.specs.lemmas.Looks.{plus, one_hit, one_miss, raised-none, raised-hit, raised-miss, raised-more, raised-inside}
use Rattle.npr_base.specs.Walk.{Searched}
use Rattle.npr_base.specs.FirstTold.{NoneInFront, hit_each, or_else, first_told, Tells, Governs, EndsSearch, Searches}

none_begins : {A : Type 0} (rest more : List ℕ) (x : Item) → NoneInFront rest → Front rest x more → A
none_begins rest more x (inl is) f = absurd (omega (arith, ap length is, Front-shrinks rest x more f))
none_begins rest more x (inr (e, left, bad)) f = absurd (Front-sound rest x more e f bad)

the_same : {A : Type 0} (o : Option A) (x y : A) → o ≡ Some x → o ≡ Some y → x ≡ y
the_same o x y p q = cc

none_told : {A B : Type 0} (o : Option A) (x : A) → o ≡ None → o ≡ Some x → B
none_told o x p q = absurd cc

-- ---- the looks of a search

-- so many looks are counted, below the greatest u64
pub record Hits (old new : Counts) (n : ℕ) : Type 0 where
  pub kept : old.successful ≤ new.successful
  pub most : new.successful ≤ old.successful + n
  pub failed : new.failed ≡ old.failed

pub hit_each-counts : (xs : List Item) (c : Counts) → Hits c (hit_each xs c) (length xs)
hit_each-counts [] c = record { kept = omega arith; most = omega arith; failed = refl }
hit_each-counts (x ∷ xs) c =
    let h = hit_each-counts xs (hit c) in
    record { kept = omega (arith, h.kept); most = omega (arith, h.most); failed = h.failed }

-- these are passed, and no look failed
quiet : (bytes : List ℕ) (old new : Counts) (passed : List Item) (rest : List ℕ) → Passes bytes passed rest → Hits old new (length passed)
    → Searched bytes old new
quiet bytes old new passed rest p h = record {
  passed = passed;
  rest = rest;
  passes = p;
  kept = h.kept;
  successful = h.most;
  failed_kept = omega (arith, h.failed);
  failed = omega (arith, h.failed);
  whole = λ items cut. h.failed;
}

-- attributes are passed, each with its look, and one more is looked at in the last step
stepped : (bytes : List ℕ) (old : Counts) (before : List Item) (rest left : List ℕ) (last : Option (Result Item DecodeError)) (new : Counts)
    → Passes bytes before rest → Step rest last left → new ≡ looked last (hit_each before old) → Searched bytes old new
stepped bytes old before rest left None new p step is =
    quiet bytes old new before rest p (subst (λ (c : Counts). Hits old c (length before)) (sym is) (hit_each-counts before old))
stepped bytes old before rest left (Some (Ok x)) new p step is =
    let h = hit_each-counts before old in
    let a = ap (λ (c : Counts). c.successful) is in
    quiet bytes old new (before ++ x ∷ []) left (Passes-more before x bytes rest left p step)
    (record { kept = omega (arith, h.kept, a); most = omega (arith, h.most, a, length_push before x); failed = ap (λ (c : Counts). c.failed) is ∙ h.failed })
stepped bytes old before rest left (Some (Err e)) new p step is =
    let h = hit_each-counts before old in
    let a = ap (λ (c : Counts). c.successful) is in
    let b = ap (λ (c : Counts). c.failed) is in
    record {
      passed = before;
      rest = rest;
      passes = p;
      kept = omega (arith, h.kept, a);
      successful = omega (arith, h.most, a);
      failed_kept = omega (arith, h.failed, b);
      failed = omega (arith, h.failed, b);
      whole = λ items cut. absurd (Cut-stops items before bytes rest e cut p step.0 step.1);
    }

looks_at : List Item → Counts
looks_at [] = no_looks
looks_at (x ∷ xs) = plus one_hit (looks_at xs)

hit_each-raised : (xs : List Item) (c : Counts) → hit_each xs c ≡ raised (looks_at xs) c
unfolding looks_at
hit_each-raised [] c = sym (raised-none c)
hit_each-raised (x ∷ xs) c = hit_each-raised xs (hit c) ∙ raised-inside (looks_at xs) c

last_look : Option (Result Item DecodeError) → Counts
last_look None = no_looks
last_look (Some (Ok x)) = one_hit
last_look (Some (Err e)) = one_miss

looked-raised : (l : Option (Result Item DecodeError)) (c : Counts) → looked l c ≡ raised (last_look l) c
unfolding last_look
looked-raised None c = sym (raised-none c)
looked-raised (Some (Ok x)) c = sym (raised-hit c)
looked-raised (Some (Err e)) c = sym (raised-miss c)

search-raised : (xs : List Item) (l : Option (Result Item DecodeError)) (c : Counts)
    → looked l (hit_each xs c) ≡ raised (plus (looks_at xs) (last_look l)) c
search-raised xs l c =
    looked-raised l (hit_each xs c) ∙ ap (raised (last_look l)) (hit_each-raised xs c) ∙ raised-more (looks_at xs) (last_look l) c

module _ {T : Type 0} (tells : Item → Option T) (default : T) where
  -- ---- one governs

  tells-one : (rest : List ℕ) (a b : T) → Tells tells default rest a → Tells tells default rest b → a ≡ b
  tells-one rest a b (inl (x, r, f, p)) (inl (y, s, g, q)) = the_same (tells x) a b p (ap tells (Front-same rest x y r s f g).0 ∙ q)
  tells-one rest a b (inl (x, r, f, p)) (inr (ends, q)) = none_begins rest r x ends f
  tells-one rest a b (inr (ends, p)) (inl (y, s, g, q)) = none_begins rest s y ends g
  tells-one rest a b (inr (ends, p)) (inr (also_ends, q)) = p ∙ sym q

  -- an attribute in front that tells nothing is not what tells
  tells-front : (rest more : List ℕ) (x : Item) (a : T) → Tells tells default rest a → Front rest x more → tells x ≡ None → ⊥
  tells-front rest more x a (inl (y, s, g, q)) f none = none_told (tells y) a (ap tells (Front-same rest y x s more g f).0 ∙ none) q
  tells-front rest more x a (inr (ends, p)) f none = none_begins rest more x ends f

  governs-step : (xs ys : List Item) (bytes r s : List ℕ) (a b : T) → Passes bytes xs r → AllOf (λ x. tells x ≡ None) xs → Tells tells default r a
      → Passes bytes ys s → AllOf (λ x. tells x ≡ None) ys → Tells tells default s b → a ≡ b
  governs-step [] [] bytes r s a b p n t q m u = tells-one r a b t (subst (λ (w : List ℕ). Tells tells default w b) (sym q ∙ p) u)
  governs-step [] (y ∷ ys) bytes r s a b p n t (w, g, q) m u =
      absurd (tells-front bytes w y a (subst (λ (v : List ℕ). Tells tells default v a) (sym p) t) g m.0)
  governs-step (x ∷ xs) [] bytes r s a b (v, f, p) n t q m u =
      absurd (tells-front bytes v x b (subst (λ (w : List ℕ). Tells tells default w b) (sym q) u) f n.0)
  governs-step (x ∷ xs) (y ∷ ys) bytes r s a b (v, f, p) n t (w, g, q) m u =
      governs-step xs ys v r s a b p n.1 t (subst (λ (z : List ℕ). Passes z ys s) (Front-same bytes y x w v g f).1 q) m.1 u

  pub governs-one : (bytes : List ℕ) (a b : T) → Governs tells default bytes a → Governs tells default bytes b → a ≡ b
  governs-one bytes a b (xs, r, p, n, t) (ys, s, q, m, u) = governs-step xs ys bytes r s a b p n t q m u

  -- ---- the first that is told

  -- an attribute that tells something governs its list, and else what follows it does
  pub first-step : (o : Option T) (x : Item) (more bytes : List ℕ) (next : T) → tells x ≡ o → Front bytes x more → Governs tells default more next
      → Governs tells default bytes (or_else o next)
  first-step (Some t) x more bytes next is f g = ([], bytes, refl, tt, inl (x, more, f, is))
  first-step None x more bytes next is f (before, rest, p, silent, t) = (x ∷ before, rest, (more, f, p), (is, silent), t)

  -- what attributes tell is what their meanings hold
  module _ {M : Type 0} (told : M → Option T) (reads : Item → M → Type 0) (alike : (x : Item) (m : M) → reads x m → tells x ≡ told m) where
    first_items : (items : List Item) (bytes : List ℕ) (ms : List M) → Passes bytes items [] → Each reads items ms
        → Governs tells default bytes (first_told told default ms)
    first_items [] bytes [] p h = ([], bytes, refl, tt, inr (inl p, refl))
    first_items [] bytes (m ∷ ms) p h = absurd h
    first_items (x ∷ items) bytes [] p h = absurd h
    first_items (x ∷ items) bytes (m ∷ ms) (rest, f, p) h =
        first-step (told m) x rest bytes (first_told told default ms) (alike x m h.0) f (first_items items rest ms p h.1)

    pub first_governs : (bytes : List ℕ) (ms : List M) → ReadsList reads bytes ms → Governs tells default bytes (first_told told default ms)
    first_governs bytes ms (items, p, h) = first_items items bytes ms p h

    pub governs_first : (t : T) (bytes : List ℕ) (ms : List M) → Governs tells default bytes t → ReadsList reads bytes ms
        → t ≡ first_told told default ms
    governs_first t bytes ms g p = governs-one bytes t (first_told told default ms) g (first_governs bytes ms p)

  -- ---- a search finds what governs

  search_tells : (rest left : List ℕ) (last : Option (Result Item DecodeError)) (t : T) → Step rest last left → EndsSearch tells default last t
      → Tells tells default rest t
  search_tells rest left None t step ends = inr (inl step.0, ends)
  search_tells rest left (Some (Ok x)) t step ends = inl (x, left, step, ends)
  search_tells rest left (Some (Err e)) t step ends = inr (inr (e, step.0, step.1), ends)

  pub searches-governs : (bytes : List ℕ) (t : T) (old new : Counts) → Searches tells default bytes t old new → Governs tells default bytes t
  searches-governs bytes t old new s = (s.before, s.rest, s.passes, s.silent, search_tells s.rest s.left s.last t s.step s.ends)

  pub searched : (bytes : List ℕ) (t : T) (old new : Counts) → Searches tells default bytes t old new → Searched bytes old new
  searched bytes t old new s = stepped bytes old s.before s.rest s.left s.last new s.passes s.step s.looks

  -- ---- its looks are one number

  ends-one : (bytes r s : List ℕ) (l k : Option (Result Item DecodeError)) (a b : T) (c m n : Counts) → Step bytes l r → EndsSearch tells default l a
      → m ≡ looked l c → Step bytes k s → EndsSearch tells default k b → n ≡ looked k c → (a ≡ b) × (m ≡ n)
  ends-one bytes r s None None a b c m n p t i q u j = (t ∙ sym u, i ∙ sym j)
  ends-one bytes r s None (Some (Ok y)) a b c m n p t i q u j = no_front bytes s y p.0 q
  ends-one bytes r s None (Some (Err e)) a b c m n p t i q u j = absurd (omega (arith, ap length p.0, q.0))
  ends-one bytes r s (Some (Ok x)) None a b c m n p t i q u j = no_front bytes r x q.0 p
  ends-one bytes r s (Some (Ok x)) (Some (Ok y)) a b c m n p t i q u j =
      (the_same (tells x) a b t (ap tells (Front-same bytes x y r s p q).0 ∙ u), i ∙ sym j)
  ends-one bytes r s (Some (Ok x)) (Some (Err e)) a b c m n p t i q u j = absurd (Front-sound bytes x r e p q.1)
  ends-one bytes r s (Some (Err e)) None a b c m n p t i q u j = absurd (omega (arith, ap length q.0, p.0))
  ends-one bytes r s (Some (Err e)) (Some (Ok y)) a b c m n p t i q u j = absurd (Front-sound bytes y s e q p.1)
  ends-one bytes r s (Some (Err e)) (Some (Err d)) a b c m n p t i q u j = (t ∙ sym u, i ∙ sym j)

  -- a search that ends at bytes does not pass an attribute there
  ends-here : (bytes r w : List ℕ) (l : Option (Result Item DecodeError)) (a : T) (y : Item) → Step bytes l r → EndsSearch tells default l a
      → Front bytes y w → tells y ≡ None → ⊥
  ends-here bytes r w None a y p t f none = no_front bytes w y p.0 f
  ends-here bytes r w (Some (Ok x)) a y p t f none = none_told (tells y) a none (ap tells (Front-same bytes y x w r f p).0 ∙ t)
  ends-here bytes r w (Some (Err e)) a y p t f none = Front-sound bytes y w e f p.1

  passes-one : (xs ys : List Item) (bytes at r to s : List ℕ) (l k : Option (Result Item DecodeError)) (a b : T) (c m n : Counts) → Passes bytes xs at
      → AllOf (λ x. tells x ≡ None) xs → Step at l r → EndsSearch tells default l a → m ≡ looked l (hit_each xs c) → Passes bytes ys to
      → AllOf (λ x. tells x ≡ None) ys → Step to k s → EndsSearch tells default k b → n ≡ looked k (hit_each ys c) → (a ≡ b) × (m ≡ n)
  passes-one [] [] bytes at r to s l k a b c m n p none t i is q silent u j js =
      ends-one bytes r s l k a b c m n (subst (λ (z : List ℕ). Step z l r) (sym p) t) i is (subst (λ (z : List ℕ). Step z k s) (sym q) u) j js
  passes-one [] (y ∷ ys) bytes at r to s l k a b c m n p none t i is (w, g, q) silent u j js =
      absurd (ends-here bytes r w l a y (subst (λ (z : List ℕ). Step z l r) (sym p) t) i g silent.0)
  passes-one (x ∷ xs) [] bytes at r to s l k a b c m n (v, f, p) none t i is q silent u j js =
      absurd (ends-here bytes s v k b x (subst (λ (z : List ℕ). Step z k s) (sym q) u) j f none.0)
  passes-one (x ∷ xs) (y ∷ ys) bytes at r to s l k a b c m n (v, f, p) none t i is (w, g, q) silent u j js =
      passes-one xs ys v at r to s l k a b (hit c) m n p none.1 t i is
      (subst (λ (z : List ℕ). Passes z ys to) (Front-same bytes y x w v g f).1 q) silent.1 u j js

  pub search-one : (bytes : List ℕ) (a b : T) (old m n : Counts) → Searches tells default bytes a old m → Searches tells default bytes b old n
      → (a ≡ b) × (m ≡ n)
  search-one bytes a b old m n p q =
      passes-one p.before q.before bytes p.rest p.left q.rest q.left p.last q.last a b old m n p.passes p.silent p.step p.ends p.looks
      q.passes q.silent q.step q.ends q.looks

  pub search-adds : (bytes : List ℕ) (t : T) (old new : Counts) → Searches tells default bytes t old new → Adds (Searches tells default bytes t) old new
  search-adds bytes t old new s = record {
    number = plus (looks_at s.before) (last_look s.last);
    is = s.looks ∙ search-raised s.before s.last old;
    alike = λ c. record {
      before = s.before;
      rest = s.rest;
      last = s.last;
      left = s.left;
      passes = s.passes;
      silent = s.silent;
      step = s.step;
      ends = s.ends;
      looks = sym (search-raised s.before s.last c);
    };
  }
