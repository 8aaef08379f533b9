-- What is seen of values one after the other is what the bytes mean.
use Rattle.std.specs.Prelude.{ℕ, Ok, Err, Some}
use Rattle.std.proofs.Common.{List, [], ◌∷◌, ◌++◌, length, refl, sym, ap, subst, arith, inl, inr}
use Rattle.npr_base.specs.declared.attribute_set.At.{At}
use Rattle.npr_base.specs.declared.refusal.DecodeError.{DecodeError}
use Rattle.npr_base.specs.declared.value.Form.{Form}
use Rattle.npr_base.specs.declared.value.Form.TheVariants.{List as Listed, Inside}
use Rattle.npr_base.specs.declared.value.Value.{Value}
use Rattle.npr_base.specs.Family.{Writing, Reading}
use Rattle.npr_base.specs.Framing.{Item, number_of}
use Rattle.npr_base.specs.lemmas.Front.{Front-same, Front-shrinks}
use Rattle.npr_base.specs.Lists.{AllOf, ReadsTo, ReadsList, FirstFault, IsWrong}
use Rattle.npr_base.specs.lemmas.List.{FirstFault-excludes}
use Rattle.npr_base.specs.Value.{Shown, shown, Shows, IsWhole}
use Rattle.npr_base.specs.Values.{Unseen, ValueStep, ValueSteps, SeenAs, IsRead}

-- what is read is whole
pub read-whole : (form : Form) (b : List ℕ) (s : Shown) → Shows form b s → IsRead s → IsWhole form
read-whole (Listed set front) b s p r = subst IsRead p r
read-whole Inside b s p r = subst IsRead p r
read-whole form b s p r = tt

module _ {M : Type 0} {w : Writing M} (f : Reading w) where
  -- the steps to the end have seen what the bytes mean
  pub values-seen : (vs : List (At × Value)) (bs : List ℕ) (ms : List M) → ValueSteps f bs vs [] → ReadsList f.Reads bs ms → SeenAs f bs vs ms
  values-seen [] bs [] end reads = tt
  values-seen [] bs (m ∷ ms) end ([], passes, each) = each
  values-seen [] bs (m ∷ ms) end (x ∷ items, (more, front, passes), each) = absurd (omega (arith, ap length end, Front-shrinks bs x more front))
  values-seen (v ∷ vs) bs ms (more, (x, front, at, seen), steps) ([], passes, each) = absurd (omega (arith, ap length passes, Front-shrinks bs x more front))
  values-seen (v ∷ vs) bs [] (more, (x, front, at, seen), steps) (y ∷ items, passes, each) = each
  values-seen (v ∷ vs) bs (m ∷ ms) (more, (x, front, at, seen), steps) (y ∷ items, (left, front2, passes), (read, each)) =
      let same = Front-same bs y x left more front2 front in
      let reads = subst (λ (z : Item). f.Reads z m) same.0 read in
      let rest : ReadsList f.Reads more ms = subst (λ (b : List ℕ). ReadsList f.Reads b ms) same.1 (items, passes, each) in
      (x, more, front, reads, at, f.seeing.shows x (shown v.1) m seen reads, values-seen vs more ms steps rest)

  -- one more
  pub values-more : (vs : List (At × Value)) (v : At × Value) (bs rest more : List ℕ) → ValueSteps f bs vs rest → ValueStep f rest (Some (Ok v)) more
      → ValueSteps f bs (vs ++ v ∷ []) more
  values-more [] v bs rest more is step = (more, subst (λ (b : List ℕ). ValueStep f b (Some (Ok v)) more) (sym is) step, refl)
  values-more (u ∷ vs) v bs rest more (left, first, steps) step = (left, first, values-more vs v left rest more steps step)

  -- values that are read mean something
  pub values-read : (vs : List (At × Value)) (bs rest : List ℕ) → ValueSteps f bs vs rest → AllOf (λ v. IsRead (shown v.1)) vs
      → (ms : List M) × ReadsTo f.Reads bs ms rest
  values-read [] bs rest is all = ([], ([], is, tt))
  values-read (v ∷ vs) bs rest (more, (x, front, at, seen), steps) (read, all) =
      let whole = read-whole (f.seeing.form_at (number_of x.kind)).1 x.value (shown v.1) seen read in
      let m = f.seeing.whole x (shown v.1) whole seen in
      let (ms, (items, passes, each)) = values-read vs more rest steps all in
      (m.0 ∷ ms, (x ∷ items, (more, front, passes), (m.1, each)))

  -- what is wrong for a step is wrong
  pub unseen-wrong : (bs : List ℕ) (e : DecodeError) → IsWrong (Unseen f) bs e → IsWrong f.Faulty bs e
  unseen-wrong bs e (inl p) = inl p
  unseen-wrong bs e (inr (x, more, front, p)) = inr (x, more, front, f.seeing.wrong x e p)

  -- behind values that are read it is the first fault
  pub values-fault : (vs : List (At × Value)) (bs rest left : List ℕ) (e : DecodeError) → ValueSteps f bs vs rest → AllOf (λ v. IsRead (shown v.1)) vs
      → ValueStep f rest (Some (Err e)) left → FirstFault f.Reads f.Faulty bs e
  values-fault vs bs rest left e steps all step =
      let (ms, reads) = values-read vs bs rest steps all in
      (ms, rest, reads, unseen-wrong rest e step.0)

  -- and behind others the bytes mean nothing
  pub values-none : (vs : List (At × Value)) (bs rest left : List ℕ) (e : DecodeError) (ms : List M) → ValueSteps f bs vs rest
      → ValueStep f rest (Some (Err e)) left → ReadsList f.Reads bs ms → ⊥
  values-none [] bs rest left e ms is step reads =
      let wrong = subst (λ (b : List ℕ). IsWrong f.Faulty b e) (sym is) (unseen-wrong rest e step.0) in
      FirstFault-excludes f.Reads f.Faulty f.no_fault bs e ms ([], bs, ([], refl, tt), wrong) reads
  values-none (v ∷ vs) bs rest left e ms (more, (x, front, at, seen), steps) step ([], passes, each) =
      absurd (omega (arith, ap length passes, Front-shrinks bs x more front))
  values-none (v ∷ vs) bs rest left e [] (more, (x, front, at, seen), steps) step (y ∷ items, passes, each) = each
  values-none (v ∷ vs) bs rest left e (m ∷ ms) (more, (x, front, at, seen), steps) step (y ∷ items, (after, front2, passes), (read, each)) =
      let same = Front-same bs y x after more front2 front in
      let reads : ReadsList f.Reads more ms = subst (λ (b : List ℕ). ReadsList f.Reads b ms) same.1 (items, passes, each) in
      values-none vs more rest left e ms steps step reads
