-- The messages of a protocol, as they stand behind the header of an envelope.
use Rattle.std.specs.Prelude.{◌≡◌, ℕ, ◌<◌, ◌^◌, List, Option, None}
use Rattle.npr_base.specs.Framing.{IsBytes}
use Rattle.npr_base.specs.declared.refusal.DecodeError.{DecodeError}
use Rattle.npr_base.specs.declared.refusal.EmitError.{EmitError}

-- how a message is written and what bytes under a type mean, with the laws of both
pub record Protocol (M : Type 0) : Type 1 where
  -- the type, the bytes, and why there are none
  pub number : M → ℕ
  pub encode : M → List ℕ
  pub unfit : M → Option EmitError
  -- what bytes under a type mean, why they mean nothing, and what can be read
  pub Reads : ℕ → List ℕ → M → Type 0
  pub Faulty : ℕ → List ℕ → DecodeError → Type 0
  pub Coherent : M → Type 0
  pub one_reading : (kind : ℕ) (bytes : List ℕ) (x y : M) → Reads kind bytes x → Reads kind bytes y → x ≡ y
  pub no_fault : (kind : ℕ) (bytes : List ℕ) (x : M) (e : DecodeError) → Reads kind bytes x → Faulty kind bytes e → ⊥
  pub reads_coherent : (kind : ℕ) (bytes : List ℕ) (x : M) → kind < 2 ^ 16 → IsBytes bytes → Reads kind bytes x → Coherent x × (number x ≡ kind)
  pub reads_back : (x : M) → Coherent x → unfit x ≡ None → Reads (number x) (encode x) x
