-- A value that is not looked at: nothing of it is kept, and an empty one is written.
use Rattle.std.specs.Prelude.{ℕ, ◌+◌, ◌*◌, ◌≤◌, List, [], length, None}
use Rattle.std.proofs.Common.{refl, arith}
use Rattle.npr_base.specs.Framing.{framed}
use Rattle.npr_base.specs.Codec.{Codec, no_members}
use Rattle.npr_base.specs.Showing.{shows_nothing}

pub dropped-grows : (bytes : List ℕ) → 2 * framed 0 ≤ 5 * (4 + length bytes)
dropped-grows bytes = omega arith

abbrev pub dropped : Codec (Unit {0})
dropped = record {
  Reads = λ bytes x. Unit {0};
  Wrong = λ at bytes e. ⊥;
  encode = λ x. [];
  unfit = λ kind x. None;
  Holds = λ x. Unit {0};
  members = no_members;
  one_reading = λ bytes x y p q. refl;
  no_fault = λ at bytes x e p q. q;
  reads_holds = λ bytes x is p. tt;
  reads_back = λ kind x h f. tt;
  grows = λ bytes x is p. dropped-grows bytes;
  showing = shows_nothing;
}
