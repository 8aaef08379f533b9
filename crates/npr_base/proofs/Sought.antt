-- What is read or refused under what a search finds is so of the list.
use Rattle.std.proofs.Common.{ℕ, List, Option}
use Rattle.std.specs.Prelude.{◌≢◌, IfOk, IfErr, Result, Ok, Err}
use Rattle.npr_base.specs.Counts.{Counts}
use Rattle.npr_base.specs.declared.refusal.DecodeError.{DecodeError}
use Rattle.npr_base.specs.declared.refusal.DecodeError.TheVariants.{OutOfMemory}
use Rattle.npr_base.specs.Family.{Writing, Reading}
use Rattle.npr_base.specs.Framing.{Item}
use Rattle.npr_base.specs.GovernedList.{Sought, AreGoverned, GovernedFault, sought-reads, sought-fault}
use Rattle.npr_base.specs.lemmas.ShortList.{Plain}
use Rattle.npr_base.specs.Lists.{ReadsList, FirstFault}

module _ {T M : Type 0} {w : Writing M} (tells : Item → Option T) (default : T) (reading : T → Reading w)
    (plain : Plain tells reading) where
  pub read_under : {V : Type 0} (list : V → List M) (bytes : List ℕ) (t : T) (old mid : Counts) → Sought tells default bytes t old mid
      → (r : Result V DecodeError) → IfOk r (λ v. ReadsList (reading t).Reads bytes (list v))
      → IfOk r (λ v. AreGoverned tells default reading bytes (list v))
  read_under list bytes t old mid s (Ok v) h = sought-reads tells default reading plain bytes (list v) t old mid s h
  read_under list bytes t old mid s (Err e) h = tt

  pub refused_under : {V : Type 0} (bytes : List ℕ) (t : T) (old mid : Counts) → Sought tells default bytes t old mid → (r : Result V DecodeError)
      → IfErr r (λ e. e ≢ OutOfMemory → FirstFault (reading t).Reads (reading t).Faulty bytes e)
      → IfErr r (λ e. e ≢ OutOfMemory → GovernedFault tells default reading bytes e)
  refused_under bytes t old mid s (Ok v) h = tt
  refused_under bytes t old mid s (Err e) h = λ other. sought-fault tells default reading plain bytes e t old mid s (h other)
