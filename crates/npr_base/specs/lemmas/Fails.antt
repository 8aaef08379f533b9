-- Readings that end at their first failed look.
--     FailsOnce        one look fails at most
--     list-once        so in a list of attributes, of whose values that holds
--     RowsOnce, rows-once      and in a table, of whose rows that holds
use Rattle.std.proofs.Common.{ℕ, ◌+◌, ◌≤◌, List, ◌∷◌, [], ap, arith}
use Rattle.npr_base.specs.Counts.{Counts, hit}
use Rattle.npr_base.specs.EnumTable.{VariantRows, looks_in}
use Rattle.npr_base.specs.Family.{Writing, Reading, list_looking}
use Rattle.npr_base.specs.Framing.{Item, number_of}
use Rattle.npr_base.specs.Looks.{Looking, ListLooks, list_ends, none_stands, faulty_stands, passed, Inside, nothing, looked_through}
use Rattle.npr_base.specs.lemmas.Bool.{one_of}
use Rattle.npr_base.specs.Looking.{looking_inside}
use Rattle.std.specs.Prelude.{◌==◌}
use denote.Struct.Field.{Field}

abbrev pub FailsOnce : {V : Type 0} → Looking V → Type 0
FailsOnce {V} looking = (x : V) (old new : Counts) → looking.Takes x old new → new.failed ≤ old.failed + 1

module _ {M : Type 0} {w : Writing M} (f : Reading w) (once : FailsOnce f.looks) where
  list-fails : (bytes : List ℕ) (old new : Counts) → ListLooks f.Reads f.Faulty f.looks.Takes bytes old new → new.failed ≤ old.failed + 1
  list-fails bytes old new (list_ends is p) = omega (arith, ap (λ (c : Counts). c.failed) p)
  list-fails bytes old new (none_stands e left bad p) = omega (arith, ap (λ (c : Counts). c.failed) p)
  list-fails bytes old new (faulty_stands x rest e front bad p) = omega (arith, once x (hit old) new p)
  list-fails bytes old new (passed x rest m mid front reads t p) =
      omega (arith, (f.saw x m (hit old) mid reads t).failed, list-fails rest mid new p)

  pub list-once : FailsOnce (list_looking f)
  list-once bytes old new p = list-fails bytes old new p

-- of what stands inside the values of a row, and of the later rows
abbrev pub OnceThen : Inside → Type 0 → Type 0
OnceThen nothing later = later
OnceThen (looked_through looking) later = FailsOnce looking × later

-- where it is not known yet what stands there
abbrev pub InsideOnce : Inside → Type 0
InsideOnce nothing = Unit {0}
InsideOnce (looked_through looking) = FailsOnce looking

pub once_then : (i : Inside) (later : Type 0) → InsideOnce i → later → OnceThen i later
once_then nothing later once rest = rest
once_then (looked_through looking) later once rest = (once, rest)

abbrev pub RowsOnce : (Fss : List (List Field)) → VariantRows Fss → Type 0
RowsOnce [] rows = Unit {0}
RowsOnce (Fs ∷ []) rows = Unit {0}
RowsOnce (Fs ∷ Gs ∷ Fss) rows = OnceThen rows.0.codec.members.looks (RowsOnce (Gs ∷ Fss) rows.1)

inside-once : (number : ℕ) (i : Inside) (others : Looking Item) (later : Type 0) → OnceThen i later → (later → FailsOnce others)
    → FailsOnce (looking_inside number i others)
inside-once number nothing others later once rest x old new t = rest once x old new t
inside-once number (looked_through looking) others later once rest x old new t =
    one_of (number_of x.kind == number) (λ e p. once.0 x.value old new p) (λ e p. rest once.1 x old new p) t

pub rows-once : (Fss : List (List Field)) (rows : VariantRows Fss) → RowsOnce Fss rows → FailsOnce (looks_in Fss rows)
rows-once [] rows once x old new t = omega (arith, ap (λ (c : Counts). c.failed) t)
rows-once (Fs ∷ []) rows once x old new t = omega (arith, ap (λ (c : Counts). c.failed) t)
rows-once (Fs ∷ Gs ∷ Fss) rows once x old new t =
    inside-once rows.0.at.number rows.0.codec.members.looks (looks_in (Gs ∷ Fss) rows.1) (RowsOnce (Gs ∷ Fss) rows.1) once
    (rows-once (Gs ∷ Fss) rows.1) x old new t
