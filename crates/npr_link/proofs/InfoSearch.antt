-- A search for what governs a list, and the reading under what it finds.
use Rattle.std.proofs.Common.{ℕ, List, map}
use Rattle.std.specs.Prelude.{◌≢◌, IfOk, IfErr, Result, Ok, Err}
use Rattle.std.specs.declared.alloc.Global.{Global}
use Rattle.std.specs.declared.vec.Vec.{Vec}
use Rattle.npr_base.specs.Counts.{Counts}
use Rattle.npr_base.specs.declared.refusal.DecodeError.{DecodeError}
use Rattle.npr_base.specs.declared.refusal.DecodeError.TheVariants.{OutOfMemory}
use Rattle.npr_base.specs.Lists.{ReadsList, FirstFault}
use Rattle.npr_link.specs.Governing.{Forms, Searches}
use Rattle.npr_link.specs.Info.{attributes, family}
use Rattle.npr_link.specs.InfoList.{IsInfoList, InfoListFault, read-searched, fault-searched}
use Rattle.npr_link.specs.declared.info.LinkInfo.{LinkInfo}

-- what is read or refused under what a search finds is so of the list
pub read_under : (bytes : List ℕ) (c : Forms) (old mid : Counts) → Searches bytes c old mid → (r : Result (Vec LinkInfo Global) DecodeError)
    → IfOk r (λ v. ReadsList (attributes c).Reads bytes (map family.meaning v.items)) → IfOk r (λ v. IsInfoList bytes (map family.meaning v.items))
read_under bytes c old mid s (Ok v) h = read-searched bytes (map family.meaning v.items) c old mid s h
read_under bytes c old mid s (Err e) h = tt

pub refused_under : {V : Type 0} (bytes : List ℕ) (c : Forms) (old mid : Counts) → Searches bytes c old mid → (r : Result V DecodeError)
    → IfErr r (λ e. e ≢ OutOfMemory → FirstFault (attributes c).Reads (attributes c).Faulty bytes e)
    → IfErr r (λ e. e ≢ OutOfMemory → InfoListFault bytes e)
refused_under bytes c old mid s (Ok v) h = tt
refused_under bytes c old mid s (Err e) h = λ other. fault-searched bytes e c old mid s (h other)
