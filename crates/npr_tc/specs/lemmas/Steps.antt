-- An attribute of a message of traffic control is read by its number: the data, which the kind governs, and the others.
use Rattle.std.specs.Prelude.{◌≢◌, ◌==◌}
use Rattle.std.proofs.Common.{◌≡◌, ℕ, true, false, refl, ap, subst, sym, inl, inr}
use Rattle.std.proofs.lemmas.Bool.{ne_eqb}
use Rattle.npr_base.specs.Counts.{Counts}
use Rattle.npr_base.specs.declared.refusal.DecodeError.{DecodeError}
use Rattle.npr_base.specs.Framing.{Item, number_of}
use Rattle.npr_base.specs.Looks.{Inside, nothing, looked_through, TakesInside}
use Rattle.npr_base.specs.ByNumber.{looking_within}
use Rattle.npr_tc_values.specs.declared.form.TcForm.{TcForm}
use Rattle.npr_tc.specs.Attribute.{Meaning, meaning, attributes, rest, IsRest, MeansSaid, RestReads}
use Rattle.npr_tc.specs.Options.{AreData, AreNoData, TakesLooks, Kind, kept, holding, Options, Said, kind_of, options, options_of, said, said_by, unknown}
use Rattle.npr_tc.specs.declared.attribute.TcAttribute.{TcAttribute}
use Rattle.npr_tc.specs.declared.option.TcOption.{TcOption}

-- ---- what data mean

pub options_mean : (o : TcOption) → MeansSaid (TcAttribute.Options o) (options (options_of o))
unfolding MeansSaid
options_mean o = refl

-- the bytes of data are read as the attribute is
by_kind : (k : Kind) (x : Item) (o : Options) → AreData k x.value o → (said_by k).Reads x (options o)
by_kind kept x o none = absurd none
by_kind (holding codec made is) x o (v, reads, same) = (v, reads, ap options same)

pub data_read : (form : TcForm) (x : Item) (o : Options) → AreData (kind_of form) x.value o → (said form).Reads x (options o)
data_read form = by_kind (kind_of form)

wrong_by_kind : (k : Kind) (x : Item) (e : DecodeError) → AreNoData k x.value e → (said_by k).Faulty x e
wrong_by_kind kept x e wrong = absurd wrong
wrong_by_kind (holding codec made is) x e wrong = wrong

pub data_wrong : (form : TcForm) (x : Item) (e : DecodeError) → AreNoData (kind_of form) x.value e → (said form).Faulty x e
data_wrong form = wrong_by_kind (kind_of form)

taken_within : (i : Inside) (x : Item) (old new : Counts) → TakesInside i x.value old new → (looking_within i).Takes x old new
taken_within nothing x old new t = t
taken_within (looked_through l) x old new t = t

looks_by_kind : (k : Kind) (x : Item) (old new : Counts) → TakesLooks k x.value old new → (said_by k).looks.Takes x old new
looks_by_kind kept x old new t = absurd t
looks_by_kind (holding codec made is) x old new t = taken_within codec.members.looks x old new t

pub data_looks : (form : TcForm) (x : Item) (old new : Counts) → TakesLooks (kind_of form) x.value old new → (said form).looks.Takes x old new
data_looks form = looks_by_kind (kind_of form)

pub unknown_means : (x : Item) → MeansSaid (TcAttribute.OptionsUnknown x) (unknown x)
unfolding MeansSaid
unknown_means x = refl

-- ---- what an attribute means

is_2 : (n : ℕ) → n ≡ 2 → (n == 2) ≡ true
is_2 n e = ap (λ (k : ℕ). k == 2) e

module _ (form : TcForm) (x : Item) where
  pub said_reads : (a : TcAttribute) (s : Said) → number_of x.kind ≡ 2 → MeansSaid a s → (said form).Reads x s → (attributes form).Reads x (meaning a)
  unfolding MeansSaid
  said_reads a s is means reads = subst (λ (m : Meaning). (attributes form).Reads x m) (sym means) (rw (is_2 (number_of x.kind) is) reads)

  rest_means : (m : Meaning) → (number_of x.kind == 2) ≡ false → RestReads form x m → (attributes form).Reads x m
  rest_means (inl s) other reads = absurd reads
  rest_means (inr m) other reads = rw other reads

  pub rest_reads : (a : TcAttribute) → number_of x.kind ≢ 2 → IsRest form x a → (attributes form).Reads x (meaning a)
  unfolding IsRest
  rest_reads a other reads = rest_means (meaning a) (ne_eqb (number_of x.kind) 2 other) reads
