-- A list of fewer than eight bytes has no room for an attribute that tells what governs and for one beside it: under what governs it, it
-- is read as where nothing does.
--     Plain            what tells something is read alike whatever governs
use Rattle.std.specs.Prelude.{◌≡◌, ℕ, ◌<◌, ◌⊎◌, List, [], ◌∷◌, length, Option, None, Some}
use Rattle.std.proofs.Common.{refl, sym, subst, arith, inl, inr}
use Rattle.npr_base.specs.declared.refusal.DecodeError.{DecodeError}
use Rattle.npr_base.specs.declared.refusal.DecodeError.TheVariants.{AttributeTooShort}
use Rattle.npr_base.specs.Family.{Writing, Reading}
use Rattle.npr_base.specs.FirstTold.{NoneInFront, or_else, Governs}
use Rattle.npr_base.specs.lemmas.FirstTold.{governs-one, first-step}
use Rattle.npr_base.specs.Framing.{Item, Front, Passes}
use Rattle.npr_base.specs.lemmas.Front.{Front-shrinks}
use Rattle.npr_base.specs.lemmas.LookBounds.{Passes-length}
use Rattle.npr_base.specs.Lists.{Each, ReadsList, IsWrong, FirstFault}

pub record Plain {T M : Type 0} {w : Writing M} (tells : Item → Option T) (reading : T → Reading w) : Type 0 where
  pub reads : (t u v : T) (x : Item) (m : M) → tells x ≡ Some v → (reading t).Reads x m → (reading u).Reads x m
  pub faulty : (t u v : T) (x : Item) (e : DecodeError) → tells x ≡ Some v → (reading t).Faulty x e → (reading u).Faulty x e

-- fewer bytes than a header
short_ends : (rest : List ℕ) → length rest < 4 → NoneInFront rest
short_ends [] short = inl refl
short_ends (b ∷ rest) short = inr (AttributeTooShort (length (b ∷ rest)), omega arith, (refl, short))

module _ {T M : Type 0} {w : Writing M} (tells : Item → Option T) (default : T) (reading : T → Reading w) (plain : Plain tells reading) where
  none-first : (bytes : List ℕ) → NoneInFront bytes → Governs tells default bytes default
  none-first bytes ends = ([], bytes, refl, tt, inr (ends, refl))

  -- an attribute alone governs, and where it tells nothing none does
  short_governs : (bytes rest : List ℕ) (x : Item) → length bytes < 8 → Front bytes x rest → Governs tells default bytes (or_else (tells x) default)
  short_governs bytes rest x short f =
      let after : length rest < 4 = omega (arith, short, Front-shrinks bytes x rest f) in
      first-step tells default (tells x) x rest bytes default refl f (none-first rest (short_ends rest after))

  is_one : (bytes rest : List ℕ) (x : Item) (t : T) → length bytes < 8 → Front bytes x rest → Governs tells default bytes t → t ≡ or_else (tells x) default
  is_one bytes rest x t short f g = governs-one tells default bytes t (or_else (tells x) default) g (short_governs bytes rest x short f)

  -- what stands there is read alike under what it tells and where nothing governs
  module _ (x : Item) where
    told_reads : (o : Option T) (m : M) → tells x ≡ o → (reading (or_else o default)).Reads x m → (reading default).Reads x m
    told_reads None m is p = p
    told_reads (Some v) m is p = plain.reads v default v x m is p

    untold_reads : (o : Option T) (m : M) → tells x ≡ o → (reading default).Reads x m → (reading (or_else o default)).Reads x m
    untold_reads None m is p = p
    untold_reads (Some v) m is p = plain.reads default v v x m is p

    untold_faulty : (o : Option T) (e : DecodeError) → tells x ≡ o → (reading default).Faulty x e → (reading (or_else o default)).Faulty x e
    untold_faulty None e is p = p
    untold_faulty (Some v) e is p = plain.faulty default v v x e is p

  -- ---- under what governs, as where nothing does

  module _ (bytes : List ℕ) (t : T) (short : length bytes < 8) (g : Governs tells default bytes t) where
    each_plain : (items : List Item) (ms : List M) (rest : List ℕ) → Passes bytes items rest → Each (reading t).Reads items ms
        → Each (reading default).Reads items ms
    each_plain [] [] rest p each = tt
    each_plain [] (m ∷ ms) rest p each = absurd each
    each_plain (x ∷ items) [] rest p each = absurd each
    each_plain (x ∷ []) (m ∷ []) rest (more, f, p) each =
        (told_reads x (tells x) m refl (subst (λ (u : T). (reading u).Reads x m) (is_one bytes more x t short f g) each.0), tt)
    each_plain (x ∷ []) (m ∷ n ∷ ms) rest p each = absurd each.1
    each_plain (x ∷ y ∷ items) ms rest p each = absurd (omega (arith, short, Passes-length (x ∷ y ∷ items) bytes rest p))

    pub short-plain : (ms : List M) → ReadsList (reading t).Reads bytes ms → ReadsList (reading default).Reads bytes ms
    short-plain ms (items, p, each) = (items, p, each_plain items ms [] p each)

  -- ---- and the other way round

  module _ (bytes : List ℕ) (short : length bytes < 8) where
    -- what governs, given what stands in front
    each_told : (items : List Item) (ms : List M) (rest : List ℕ) → Passes bytes items rest → Each (reading default).Reads items ms
        → (t : T) → Governs tells default bytes t → Each (reading t).Reads items ms
    each_told [] [] rest p each t g = tt
    each_told [] (m ∷ ms) rest p each t g = absurd each
    each_told (x ∷ items) [] rest p each t g = absurd each
    each_told (x ∷ []) (m ∷ []) rest (more, f, p) each t g =
        (subst (λ (u : T). (reading u).Reads x m) (sym (is_one bytes more x t short f g)) (untold_reads x (tells x) m refl each.0), tt)
    each_told (x ∷ []) (m ∷ n ∷ ms) rest p each t g = absurd each.1
    each_told (x ∷ y ∷ items) ms rest p each t g = absurd (omega (arith, short, Passes-length (x ∷ y ∷ items) bytes rest p))

    -- something governs
    governed_by : (items : List Item) (rest : List ℕ) → Passes bytes items rest → NoneInFront rest ⊎ ((x : Item) × (more : List ℕ) × Front rest x more)
        → (t : T) × Governs tells default bytes t
    governed_by [] rest p (inl ends) = (default, none-first bytes (subst NoneInFront (sym p) ends))
    governed_by [] rest p (inr (x, more, f)) =
        (or_else (tells x) default, short_governs bytes more x short (subst (λ (b : List ℕ). Front b x more) (sym p) f))
    governed_by (x ∷ items) rest (more, f, p) b = (or_else (tells x) default, short_governs bytes more x short f)

    pub short-reads : (ms : List M) → ReadsList (reading default).Reads bytes ms
        → (t : T) × Governs tells default bytes t × ReadsList (reading t).Reads bytes ms
    short-reads ms (items, p, each) =
        let by = governed_by items [] p (inl (inl refl)) in
        (by.0, by.1, (items, p, each_told items ms [] p each by.0 by.1))

    wrong_told : (items : List Item) (rest : List ℕ) (e : DecodeError) → Passes bytes items rest → IsWrong (reading default).Faulty rest e
        → (t : T) → Governs tells default bytes t → IsWrong (reading t).Faulty rest e
    wrong_told items rest e p (inl bad) t g = inl bad
    wrong_told [] rest e p (inr (x, more, f, bad)) t g =
        let there = subst (λ (b : List ℕ). Front b x more) (sym p) f in
        inr (x, more, f, subst (λ (u : T). (reading u).Faulty x e) (sym (is_one bytes more x t short there g)) (untold_faulty x (tells x) e refl bad))
    wrong_told (y ∷ items) rest e p (inr (x, more, f, bad)) t g =
        absurd (omega (arith, short, Passes-length (y ∷ items) bytes rest p, Front-shrinks rest x more f))

    wrong_begins : (rest : List ℕ) (e : DecodeError) → IsWrong (reading default).Faulty rest e
        → NoneInFront rest ⊎ ((x : Item) × (more : List ℕ) × Front rest x more)
    wrong_begins rest e (inl bad) = inl (inr (e, bad.0, bad.1))
    wrong_begins rest e (inr (x, more, f, bad)) = inr (x, more, f)

    pub short-fault : (e : DecodeError) → FirstFault (reading default).Reads (reading default).Faulty bytes e
        → (t : T) × Governs tells default bytes t × FirstFault (reading t).Reads (reading t).Faulty bytes e
    short-fault e (ms, rest, (items, p, each), wrong) =
        let by = governed_by items rest p (wrong_begins rest e wrong) in
        (by.0, by.1, (ms, rest, (items, p, each_told items ms rest p each by.0 by.1), wrong_told items rest e p wrong by.0 by.1))
