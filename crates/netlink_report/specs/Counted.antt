-- A count of failed calls, which stops at the greatest 64-bit number.
use Rattle.std.specs.Prelude.{ℕ, ◌+◌, ◌-◌, ◌^◌, min, Result, Ok, Err}

-- one more failure
abbrev pub raised : ℕ → ℕ
raised failures = min (failures + 1) (2 ^ 64 - 1)

-- the count after a call with this answer
abbrev pub failures_after : {A E : Type 0} → ℕ → Result A E → ℕ
failures_after failures (Ok a) = failures
failures_after failures (Err e) = raised failures
