-- What one table of rows has read is read by another, once it is brought up to it.
use Rattle.std.specs.Prelude.{◌==◌, map}
use Rattle.std.proofs.Common.{◌≡◌, ℕ, List, [], ◌∷◌, ◌++◌, Option, refl, sym, ap, subst, ◌∙◌}
use Rattle.npr_base.specs.declared.refusal.EmitError.{EmitError}
use Rattle.npr_base.specs.Framing.{Item, encoding}
use Rattle.npr_base.specs.Lists.{AllOf, Each, ReadsList, option_or, first_unfit, encodings}
use Rattle.npr_base.specs.Table.{Row, RowReads, ReadsAt, has_row}
use Rattle.npr_base.specs.lemmas.Bool.{one_of}

-- row by row the same number, and each value that was read is read again as what it is brought up to
abbrev pub Normalizes : {M : Type 0} → (M → M) → List (Row M) → List (Row M) → Type 0
Normalizes normalized [] [] = Unit {0}
Normalizes normalized (r ∷ rs) (s ∷ ss) =
    (r.at.number ≡ s.at.number) × ((bytes : List ℕ) (v : r.V) → r.codec.Reads bytes v → RowReads s bytes (normalized (r.variant v))) × Normalizes normalized rs ss
Normalizes normalized [] (s ∷ ss) = ⊥
Normalizes normalized (r ∷ rs) [] = ⊥

pub rows-normalized : {M : Type 0} (normalized : M → M) (other : Item → M) → ((x : Item) → normalized (other x) ≡ other x) → (rs ss : List (Row M))
    → Normalizes normalized rs ss → (k : ℕ) (x : Item) (m : M) → ReadsAt other rs k x m → ReadsAt other ss k x (normalized m)
rows-normalized normalized other same [] [] h k x m p = ap normalized p ∙ same x
rows-normalized normalized other same [] (s ∷ ss) h k x m p = absurd h
rows-normalized normalized other same (r ∷ rs) [] h k x m p = absurd h
rows-normalized normalized other same (r ∷ rs) (s ∷ ss) h k x m p = one_of (k == r.at.number)
    (λ e a. rw (← h.0, e) (subst (λ n. RowReads s x.value (normalized n)) (sym a.2) (h.1 x.value a.0 a.1)))
    (λ e a. rw (← h.0, e) (rows-normalized normalized other same rs ss h.2 k x m a)) p

-- a number stands in both or in neither
pub has_row-normalized : {M : Type 0} (normalized : M → M) (rs ss : List (Row M)) → Normalizes normalized rs ss → (k : ℕ) → has_row rs k ≡ has_row ss k
has_row-normalized normalized [] [] h k = refl
has_row-normalized normalized [] (s ∷ ss) h k = absurd h
has_row-normalized normalized (r ∷ rs) [] h k = absurd h
has_row-normalized normalized (r ∷ rs) (s ∷ ss) h k = rw (h.0, has_row-normalized normalized rs ss h.2 k) refl

each-normalized : {M : Type 0} (normalized : M → M) (R S : Item → M → Type 0) → ((x : Item) (m : M) → R x m → S x (normalized m))
    → (items : List Item) (ms : List M) → Each R items ms → Each S items (map normalized ms)
each-normalized normalized R S h [] [] e = tt
each-normalized normalized R S h [] (m ∷ ms) e = absurd e
each-normalized normalized R S h (x ∷ items) [] e = absurd e
each-normalized normalized R S h (x ∷ items) (m ∷ ms) e = (h x m e.0, each-normalized normalized R S h items ms e.1)

-- a list of members, each of which is brought up
pub list-normalized : {M : Type 0} (normalized : M → M) (R S : Item → M → Type 0) → ((x : Item) (m : M) → R x m → S x (normalized m))
    → (bytes : List ℕ) (ms : List M) → ReadsList R bytes ms → ReadsList S bytes (map normalized ms)
list-normalized normalized R S h bytes ms (items, p, e) = (items, p, each-normalized normalized R S h items ms e)

-- ---- what holds of each member that is brought up holds of the list

pub encodings-normalized : {M : Type 0} (normalized : M → M) (written : M → Item) → ((m : M) → written (normalized m) ≡ written m)
    → (ms : List M) → encodings written (map normalized ms) ≡ encodings written ms
encodings-normalized normalized written same [] = refl
encodings-normalized normalized written same (m ∷ ms) =
    ap (λ (i : Item). encoding i ++ encodings written (map normalized ms)) (same m)
    ∙ ap (λ (w : List ℕ). encoding (written m) ++ w) (encodings-normalized normalized written same ms)

pub unfit-normalized : {M : Type 0} (normalized : M → M) (meaning_unfit : M → Option EmitError) → ((m : M) → meaning_unfit (normalized m) ≡ meaning_unfit m)
    → (ms : List M) → first_unfit meaning_unfit (map normalized ms) ≡ first_unfit meaning_unfit ms
unfit-normalized normalized meaning_unfit same [] = refl
unfit-normalized normalized meaning_unfit same (m ∷ ms) =
    ap (λ (o : Option EmitError). option_or o (first_unfit meaning_unfit (map normalized ms))) (same m)
    ∙ ap (option_or (meaning_unfit m)) (unfit-normalized normalized meaning_unfit same ms)

pub again-normalized : {M : Type 0} (normalized : M → M) → ((m : M) → normalized (normalized m) ≡ normalized m)
    → (ms : List M) → map normalized (map normalized ms) ≡ map normalized ms
again-normalized normalized same [] = refl
again-normalized normalized same (m ∷ ms) =
    ap (λ n. n ∷ map normalized (map normalized ms)) (same m) ∙ ap (λ ns. normalized m ∷ ns) (again-normalized normalized same ms)

pub all-normalized : {M : Type 0} (normalized : M → M) (R S : M → Type 0) → ((m : M) → R m → S (normalized m))
    → (ms : List M) → AllOf R ms → AllOf S (map normalized ms)
all-normalized normalized R S h [] all = tt
all-normalized normalized R S h (m ∷ ms) all = (h m all.0, all-normalized normalized R S h ms all.1)
