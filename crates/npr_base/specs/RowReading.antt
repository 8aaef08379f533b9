-- What reading by the rows of a table says, for functions that read a row each.
--     reads_at, wrong_at      what an attribute of a number means by the rows of an enum's table, and why it means nothing
--     quiet_but, looks-none   no row but those of these numbers has attributes inside, so reading any other takes no look
use Rattle.std.specs.Prelude.{◌≡◌, ℕ, ◌==◌, ◌&&◌, Bool, true, false, List, [], ◌∷◌, if◌then◌else◌}
use Rattle.std.specs.Bool.{MatchBool}
use Rattle.std.proofs.Common.{refl, sym, ap, ◌∙◌, true≢false}
use Rattle.std.proofs.lemmas.Bool.{eqb-true}
use Rattle.npr_base.specs.Counts.{Counts}
use Rattle.npr_base.specs.EnumTable.{EnumTable, VariantRows, ReadsIn, WrongIn, meaning_in, looks_in}
use Rattle.npr_base.specs.Framing.{Item, number_of}
use Rattle.npr_base.specs.Looks.{Looking, Inside, nothing, looked_through}
use Rattle.npr_base.specs.Looking.{looking_inside}
use Rattle.npr_base.specs.declared.refusal.DecodeError.{DecodeError}
use denote.Enum.Declared.{Record}
use denote.Struct.Field.{Field}

abbrev pub reads_at : {N : Record} → EnumTable N → ℕ → Item → N.D → Type 0
reads_at {N} t number x a = ReadsIn N.parts t.rows number x (meaning_in N.parts t.rows (N.as_values a))

abbrev pub wrong_at : {N : Record} → EnumTable N → ℕ → Item → DecodeError → Type 0
wrong_at {N} t number x e = WrongIn N.parts t.rows number x e

abbrev pub is_quiet : Inside → Bool
is_quiet nothing = true
is_quiet (looked_through looking) = false

abbrev pub quiet_but : (ℕ → Bool) → (Fss : List (List Field)) → VariantRows Fss → Bool
quiet_but lists [] rows = true
quiet_but lists (Fs ∷ []) rows = true
quiet_but lists (Fs ∷ Gs ∷ Fss) rows =
    (if lists rows.0.at.number then true else is_quiet rows.0.codec.members.looks) && quiet_but lists (Gs ∷ Fss) rows.1

both_so : (a b : Bool) → (a && b) ≡ true → (a ≡ true) × (b ≡ true)
both_so true b e = (refl, e)
both_so false b e = absurd (true≢false (sym e))

is_so : (b : Bool) → (if b then true else false) ≡ true → b ≡ true
is_so true e = refl
is_so false e = e

elsewhere : (A B : Type 0) (b : Bool) → (b ≡ true → ⊥) → B → MatchBool b A B
elsewhere A B true apart t = absurd (apart refl)
elsewhere A B false apart t = t

quiet_row : (lists : ℕ → Bool) (number : ℕ) (i : Inside) (others : Looking Item) (x : Item) (c : Counts)
    → (if lists number then true else is_quiet i) ≡ true → lists (number_of x.kind) ≡ false → others.Takes x c c
    → (looking_inside number i others).Takes x c c
quiet_row lists number nothing others x c q other t = t
quiet_row lists number (looked_through looking) others x c q other t =
    elsewhere (looking.Takes x.value c c) (others.Takes x c c) (number_of x.kind == number)
    (λ e. true≢false (sym (is_so (lists number) q) ∙ sym (ap lists (eqb-true (number_of x.kind) number e)) ∙ other)) t

pub looks-none : (lists : ℕ → Bool) (Fss : List (List Field)) (rows : VariantRows Fss) → quiet_but lists Fss rows ≡ true → (x : Item) (c : Counts)
    → lists (number_of x.kind) ≡ false → (looks_in Fss rows).Takes x c c
looks-none lists [] rows q x c other = refl
looks-none lists (Fs ∷ []) rows q x c other = refl
looks-none lists (Fs ∷ Gs ∷ Fss) rows q x c other =
    let p = both_so (if lists rows.0.at.number then true else is_quiet rows.0.codec.members.looks) (quiet_but lists (Gs ∷ Fss) rows.1) q in
    quiet_row lists rows.0.at.number rows.0.codec.members.looks (looks_in (Gs ∷ Fss) rows.1) x c p.0 other
    (looks-none lists (Gs ∷ Fss) rows.1 p.1 x c other)
