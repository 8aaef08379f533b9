-- Bytes are one list at most, what is wrong with them is no list, and what is written is read again.
use Rattle.std.specs.Prelude.{◌≢◌, IfErr, Option, None, replicate}
use Rattle.std.proofs.Common.{Result, Ok, Err, ◌≡◌, ℕ, suc, ◌+◌, ◌*◌, ◌%◌, ◌≤◌, List, [], ◌∷◌, ◌++◌, length, take}
use Rattle.std.proofs.Common.{drop, refl, sym, ap, subst, ◌∙◌, arith, inl, inr, length-append}
use Rattle.std.proofs.lemmas.Bool.{cases_lt}
use Rattle.std.proofs.lemmas.List.{length-replicate, take-append-drop, get_or-append-add, get_or_append_left, get_or_past}
use Rattle.npr_base.specs.declared.refusal.DecodeError.{DecodeError}
use Rattle.npr_base.specs.declared.refusal.DecodeError.TheVariants.{OutOfMemory}
use Rattle.npr_base.specs.declared.refusal.EmitError.{EmitError}
use Rattle.npr_base.specs.Framing.{Item, Small, Proper, IsBytes, Front, Passes, padded, pad, encoding, framed}
use Rattle.npr_base.specs.Lists.{Each, AllOf, ReadsList, IsWrong, FirstFault, encodings, first_unfit}
use Rattle.npr_base.specs.lemmas.Fit.{none_both}
use Rattle.npr_base.specs.lemmas.Front.{Front-same, Front-sound, Front-shrinks, Front-takes, Cut-same}

-- ---- one reading

pub Each-one : {A B : Type 0} (R : A → B → Type 0) → ((x : A) (m n : B) → R x m → R x n → m ≡ n) → (xs : List A) (ms ns : List B) → Each R xs ms → Each R xs ns
    → ms ≡ ns
Each-one R one [] [] [] p q = refl
Each-one R one [] [] (n ∷ ns) p q = absurd q
Each-one R one [] (m ∷ ms) ns p q = absurd p
Each-one R one (x ∷ xs) [] ns p q = absurd p
Each-one {A} {B} R one (x ∷ xs) (m ∷ ms) [] p q = absurd q
Each-one {A} {B} R one (x ∷ xs) (m ∷ ms) (n ∷ ns) p q =
    ap (λ (y : B). y ∷ ms) (one x m n p.0 q.0) ∙ ap (λ (ys : List B). n ∷ ys) (Each-one R one xs ms ns p.1 q.1)

-- bytes are a list in one way
pub ReadsList-one : {M : Type 0} (R : Item → M → Type 0) → ((x : Item) (m n : M) → R x m → R x n → m ≡ n) → (bs : List ℕ) (ms ns : List M) → ReadsList R bs ms
    → ReadsList R bs ns → ms ≡ ns
ReadsList-one R one bs ms ns (xs, p, h) (ys, q, i) = Each-one R one xs ms ns h (subst (λ (zs : List Item). Each R zs ns) (sym (Cut-same xs ys bs p q)) i)

-- ---- what is wrong is no list

module _ {M : Type 0} (R : Item → M → Type 0) (F : Item → DecodeError → Type 0) where
  -- what is wrong is no list
  wrong_is_none : ((x : Item) (m : M) (e : DecodeError) → R x m → F x e → ⊥) → (items : List Item) (ms : List M) (bs : List ℕ) (e : DecodeError)
      → Passes bs items [] → Each R items ms → IsWrong F bs e → ⊥
  wrong_is_none sound [] ms bs e p h (inl (more, bad)) = omega (arith, ap length p)
  wrong_is_none sound [] ms bs e p h (inr (x, s, f, bad)) = absurd (omega (arith, ap length p, Front-shrinks bs x s f))
  wrong_is_none sound (x ∷ xs) [] bs e p h w = h
  wrong_is_none sound (x ∷ xs) (m ∷ ms) bs e (r, g, p) h (inl (more, bad)) = Front-sound bs x r e g bad
  wrong_is_none sound (x ∷ xs) (m ∷ ms) bs e (r, g, p) h (inr (y, s, f, bad)) = sound x m e h.0 (subst (λ (z : Item). F z e) (Front-same bs y x s r f g).0 bad)

  excluded : ((x : Item) (m : M) (e : DecodeError) → R x m → F x e → ⊥) → (before after : List Item) (ms ns : List M) (bs r : List ℕ) (e : DecodeError)
      → Passes bs before r → Each R before ms → IsWrong F r e → Passes bs after [] → Each R after ns → ⊥
  excluded sound [] after ms ns bs r e p h w q i = wrong_is_none sound after ns bs e q i (subst (λ (b : List ℕ). IsWrong F b e) (sym p) w)
  excluded sound (x ∷ xs) [] ms ns bs r e (m, f, p) h w q i = absurd (omega (arith, ap length q, Front-shrinks bs x m f))
  excluded sound (x ∷ xs) (y ∷ ys) [] ns bs r e p h w q i = h
  excluded sound (x ∷ xs) (y ∷ ys) (a ∷ ms) [] bs r e p h w q i = i
  excluded sound (x ∷ xs) (y ∷ ys) (a ∷ ms) (b ∷ ns) bs r e (m, f, p) h w (n, g, q) i =
      excluded sound xs ys ms ns m r e p h.1 w (subst (λ (b : List ℕ). Passes b ys []) (Front-same bs y x n m g f).1 q) i.1

  -- where there is a first fault there is no list
  pub FirstFault-excludes : ((x : Item) (m : M) (e : DecodeError) → R x m → F x e → ⊥) → (bs : List ℕ) (e : DecodeError) (ns : List M) → FirstFault R F bs e
      → ReadsList R bs ns → ⊥
  FirstFault-excludes sound bs e ns (ms, r, (before, p, h), w) (after, q, i) = excluded sound before after ms ns bs r e p h w q i

  -- so what is refused is no list
  pub refused_none : {V : Type 0} → ((x : Item) (m : M) (e : DecodeError) → R x m → F x e → ⊥) → (bs : List ℕ) (r : Result V DecodeError)
      → IfErr r (λ e. e ≢ OutOfMemory → FirstFault R F bs e) → IfErr r (λ e. e ≢ OutOfMemory → (xs : List M) → ReadsList R bs xs → ⊥)
  refused_none sound bs (Ok v) h = tt
  refused_none sound bs (Err e) h = λ other xs is. FirstFault-excludes sound bs e xs (h other) is

-- ---- what is written is read again

-- the encoding of an attribute stands in front of what follows it
pub encoding-front : (x : Item) (rest : List ℕ) → Small x → Front (encoding x ++ rest) x rest
encoding-front x rest small = record {
  padding = replicate (pad (length x.value)) 0;
  is = refl;
  small = small;
  most = omega (arith, length-replicate {A = ℕ} (pad (length x.value)) 0);
  whole = λ h. length-replicate (pad (length x.value)) 0;
}

-- what is written is read again
pub encodings-read : {M : Type 0} (C : M → Type 0) (meaning_unfit : M → Option EmitError) (written : M → Item) (R : Item → M → Type 0)
    → ((m : M) → C m → meaning_unfit m ≡ None → Small (written m)) → ((m : M) → C m → meaning_unfit m ≡ None → R (written m) m)
    → (ms : List M) → AllOf C ms → first_unfit meaning_unfit ms ≡ None → ReadsList R (encodings written ms) ms
encodings-read C meaning_unfit written R small back [] all fits = ([], refl, tt)
encodings-read C meaning_unfit written R small back (m ∷ ms) all fits =
    let f = none_both (meaning_unfit m) (first_unfit meaning_unfit ms) fits in
    let t = encodings-read C meaning_unfit written R small back ms all.1 f.1 in
    (written m ∷ t.0, (encodings written ms, encoding-front (written m) (encodings written ms) (small m all.0 f.0), t.1), (back m all.0 f.0, t.2))

-- ---- bytes of a program

pub IsBytes-right : (xs ys : List ℕ) → IsBytes (xs ++ ys) → IsBytes ys
IsBytes-right xs ys h i = rw (← get_or-append-add xs ys i 0) (h (length xs + i))

pub IsBytes-left : (xs ys : List ℕ) → IsBytes (xs ++ ys) → IsBytes xs
IsBytes-left xs ys h i = elim (cases_lt i (length xs)) [
  | inl lt ↦ rw (← get_or_append_left xs ys 0 i lt) (h i)
  | inr le ↦ rw (get_or_past xs i 0 le) (omega arith)
]

pub IsBytes-take : (n : ℕ) (xs : List ℕ) → IsBytes xs → IsBytes (take n xs)
IsBytes-take n xs h = IsBytes-left (take n xs) (drop n xs) (subst IsBytes (sym (take-append-drop n xs)) h)

pub IsBytes-drop : (n : ℕ) (xs : List ℕ) → IsBytes xs → IsBytes (drop n xs)
IsBytes-drop n xs h = IsBytes-right (take n xs) (drop n xs) (subst IsBytes (sym (take-append-drop n xs)) h)

-- what stands in front of a program's bytes is a program's
pub Front-proper : (bs : List ℕ) (x : Item) (rest : List ℕ) → IsBytes bs → Front bs x rest → Proper x × IsBytes rest
Front-proper bs x rest bytes f =
    let all : IsBytes (padded x f.padding ++ rest) = subst IsBytes f.is bytes in
    let tail : IsBytes ((x.value ++ f.padding) ++ rest) = λ i. all (suc (suc (suc (suc i)))) in (
      record { kind = f.small.kind; value = IsBytes-left x.value f.padding (IsBytes-left (x.value ++ f.padding) rest tail) },
      IsBytes-right (x.value ++ f.padding) rest tail,
    )

known_all : {M : Type 0} (C : M → Type 0) (R : Item → M → Type 0) → ((x : Item) (m : M) → Proper x → R x m → C m)
    → (items : List Item) (ms : List M) (bs : List ℕ) → IsBytes bs → Passes bs items [] → Each R items ms → AllOf C ms
known_all C R known [] [] bs bytes p h = tt
known_all C R known [] (m ∷ ms) bs bytes p h = absurd h
known_all C R known (x ∷ xs) [] bs bytes p h = absurd h
known_all C R known (x ∷ xs) (m ∷ ms) bs bytes (r, f, p) h =
    let k = Front-proper bs x r bytes f in
    (known x m k.0 h.0, known_all C R known xs ms r k.1 p h.1)

pub ReadsList-known : {M : Type 0} (C : M → Type 0) (R : Item → M → Type 0) → ((x : Item) (m : M) → Proper x → R x m → C m) → (bs : List ℕ) (ms : List M)
    → IsBytes bs → ReadsList R bs ms → AllOf C ms
ReadsList-known C R known bs ms bytes (items, p, h) = known_all C R known items ms bs bytes p h

-- ---- lengths

pub length-encoding : (x : Item) → length (encoding x) ≡ framed (length x.value)
length-encoding x = omega (arith, length-append x.value (replicate (pad (length x.value)) 0), length-replicate {A = ℕ} (pad (length x.value)) 0)

grow_all : {M : Type 0} (written : M → Item) (R : Item → M → Type 0)
    → ((x : Item) (m : M) → Proper x → R x m → 2 * framed (length (written m).value) ≤ 5 * (4 + length x.value))
    → (items : List Item) (ms : List M) (bs : List ℕ) → IsBytes bs → Passes bs items [] → Each R items ms → 2 * length (encodings written ms) ≤ 5 * length bs
grow_all written R grows [] [] bs bytes p h = omega arith
grow_all written R grows [] (m ∷ ms) bs bytes p h = absurd h
grow_all written R grows (x ∷ xs) [] bs bytes p h = absurd h
grow_all written R grows (x ∷ xs) (m ∷ ms) bs bytes (r, f, p) h =
    let k = Front-proper bs x r bytes f in
    omega (
      arith,
      grows x m k.0 h.0,
      grow_all written R grows xs ms r k.1 p h.1,
      Front-takes bs x r f,
      length-encoding (written m),
      length-append (encoding (written m)) (encodings written ms),
    )

-- encodings are at most five halves as long as what was read
pub ReadsList-grows : {M : Type 0} (written : M → Item) (R : Item → M → Type 0)
    → ((x : Item) (m : M) → Proper x → R x m → 2 * framed (length (written m).value) ≤ 5 * (4 + length x.value))
    → (bs : List ℕ) (ms : List M) → IsBytes bs → ReadsList R bs ms → 2 * length (encodings written ms) ≤ 5 * length bs
ReadsList-grows written R grows bs ms bytes (items, p, h) = grow_all written R grows items ms bs bytes p h

framed_lengths : {M : Type 0} (written : M → Item) (ms : List M) → length (encodings written ms) % 4 ≡ 0
framed_lengths written [] = refl
framed_lengths written (m ∷ ms) =
    omega (arith, length-append (encoding (written m)) (encodings written ms), length-encoding (written m), framed_lengths written ms)

-- and so is the attribute that holds them
pub list-grows : {M : Type 0} (written : M → Item) (R : Item → M → Type 0)
    → ((x : Item) (m : M) → Proper x → R x m → 2 * framed (length (written m).value) ≤ 5 * (4 + length x.value))
    → (bs : List ℕ) (ms : List M) → IsBytes bs → ReadsList R bs ms → 2 * framed (length (encodings written ms)) ≤ 5 * (4 + length bs)
list-grows written R grows bs ms bytes p = omega (arith, ReadsList-grows written R grows bs ms bytes p, framed_lengths written ms)
