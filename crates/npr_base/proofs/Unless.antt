-- What holds of the variants of all rows of a table but those of one number, and so of what an attribute of another number reads as.
use Rattle.std.specs.Prelude.{◌==◌}
use Rattle.std.proofs.Common.{◌≡◌, ℕ, false, List, [], ◌∷◌, sym, subst}
use Rattle.std.proofs.lemmas.Bool.{eqb-true}
use Rattle.npr_base.specs.Framing.{Item}
use Rattle.npr_base.specs.Table.{Row, ReadsAt}
use Rattle.npr_base.specs.lemmas.Bool.{one_of}

abbrev pub Unless : {M : Type 0} → (M → Type 0) → ℕ → List (Row M) → Type 0
Unless P n [] = Unit {0}
Unless P n (r ∷ rs) = ((r.at.number == n) ≡ false → (v : r.V) → P (r.variant v)) × Unless P n rs

pub unless-reads : {M : Type 0} (P : M → Type 0) (n : ℕ) (kept : Item → M) (rs : List (Row M)) → Unless P n rs → ((x : Item) → P (kept x))
    → (k : ℕ) (x : Item) (m : M) → (k == n) ≡ false → ReadsAt kept rs k x m → P m
unless-reads P n kept [] all too k x m not p = subst P (sym p) (too x)
unless-reads P n kept (r ∷ rs) all too k x m not p = one_of (k == r.at.number)
    (λ e a. subst P (sym a.2) (all.0 (subst (λ (z : ℕ). (z == n) ≡ false) (eqb-true k r.at.number e) not) a.0))
    (λ e a. unless-reads P n kept rs all.1 too k x m not a) p
