-- What is refused is no next hops.
use Rattle.std.specs.Prelude.{◌≢◌, IfErr}
use Rattle.std.proofs.Common.{Result, Ok, Err, ℕ, List}
use Rattle.npr_base.specs.declared.refusal.DecodeError.{DecodeError}
use Rattle.npr_base.specs.declared.refusal.DecodeError.TheVariants.{OutOfMemory}
use Rattle.npr_route.specs.Attribute.{Hops, AreHops, HopsWrong}
use Rattle.npr_route.specs.FlatAttribute.{Context}
use Rattle.npr_route.specs.lemmas.Attribute.{hops-sound}

-- bytes in which something is wrong are no next hops
pub no_hops_read : {V : Type 0} (c : Context) (bytes : List ℕ) (r : Result V DecodeError) → IfErr r (λ e. e ≢ OutOfMemory → HopsWrong c bytes e) → IfErr r (λ e. e ≢ OutOfMemory → (hs : Hops) → AreHops c bytes hs → ⊥)
no_hops_read c bytes (Ok v) h = tt
no_hops_read c bytes (Err e) h = λ other hs p. hops-sound c bytes hs e p (h other)
