-- The looks of one route attribute, from those of the table that it is read by.
use Rattle.std.specs.Prelude.{◌≢◌, ◌==◌, IfOk, IfErr}
use Rattle.std.specs.Bool.{MatchBool}
use Rattle.std.proofs.Common.{◌≡◌, ℕ, Bool, true, false, [], Result, Ok, Err, subst}
use Rattle.npr_base.specs.declared.refusal.DecodeError.{DecodeError}
use Rattle.npr_base.specs.declared.refusal.DecodeError.TheVariants.{OutOfMemory}
use Rattle.npr_base.specs.Counts.{Counts}
use Rattle.npr_base.specs.Framing.{Item, number_of}
use Rattle.npr_base.specs.Looks.{Answered}
use Rattle.npr_base.specs.Family.{list_looking}
use Rattle.npr_route.specs.Attribute.{Meaning, flat, multi_path, Reads}
use Rattle.npr_route.specs.AttributeLooks.{AttributeLooks, value_read, hops_inside, hops_end}
use Rattle.npr_route.specs.FlatAttribute.{Context}
use Rattle.npr_route.specs.FlatFamily as Flats
use Rattle.npr_route.specs.Metric.{attributes as metrics}
use Rattle.npr_encapsulation.specs.Encapsulation.{encapsulation}

-- an empty list of next hops takes none
nine_takes : (c : Context) (x : Item) (old new : Counts) → number_of x.kind ≡ 9 → (Flats.attributes c).looks.Takes x old new → new ≡ old
nine_takes c x old new nine t =
    subst (λ (k : ℕ). MatchBool (k == 8) ((list_looking metrics).Takes x.value old new) (MatchBool (k == 22) ((list_looking (encapsulation c.2)).Takes x.value old new) (new ≡ old))) nine t

pub looks_read : (c : Context) (x : Item) (m : Meaning) (old new : Counts) → (number_of x.kind ≡ 9 → x.value ≡ []) → Reads c x m
    → (Flats.attributes c).looks.Takes x old new → AttributeLooks c x true old new
looks_read c x (flat m) old new empty r t = value_read m r.0 r.1 t
looks_read c x (multi_path hs) old new empty r t = hops_inside r.0 (hops_end (empty r.0) (nine_takes c x old new r.0 t))

-- read or not, by the answer
pub by_answer : {V : Type 0} (P : Bool → Type 0) (r : Result V DecodeError) → IfOk r (λ v. P true) → IfErr r (λ e. e ≢ OutOfMemory → P false) → Answered r
    → (read : Bool) × P read
by_answer P (Ok v) p q a = (true, p)
by_answer P (Err e) p q a = (false, q a)

-- what an answer says besides
pub answered_ok : {V R : Type 0} (r : Result V DecodeError) (P : V → Type 0) (T : Type 0) → ((v : V) → P v → T → R) → IfOk r P → (Answered r → T) → IfOk r (λ v. R)
answered_ok (Ok v) P T f p t = f v p (t tt)
answered_ok (Err e) P T f p t = tt

pub answered_err : {V R : Type 0} (r : Result V DecodeError) (P : DecodeError → Type 0) (T : Type 0) → ((e : DecodeError) → P e → T → R) → IfErr r (λ e. e ≢ OutOfMemory → P e)
    → (Answered r → T) → IfErr r (λ e. e ≢ OutOfMemory → R)
answered_err (Ok v) P T f p t = tt
answered_err (Err e) P T f p t = λ other. f e (p other) (t other)
