-- The attributes ahead in bytes, up to their end or a fault, and the looks of a search through them.
use Rattle.std.specs.Prelude.{ℕ, zero, suc, ◌+◌, ◌-◌, ◌*◌, ◌/◌, ◌<◌, ◌≤◌, ◌^◌, Bool, true, false, List, length, min, nat_lt, if◌then◌else◌}
use Rattle.npr_base.specs.Counts.{Counts}
use Rattle.npr_base.specs.lemmas.Front.{length_at, rest_at}

-- an attribute stands in front of the bytes
abbrev pub stands : List ℕ → Bool
stands bs =
    if nat_lt (length bs) 4 then false
    else if nat_lt (length_at bs) 4 then false
    else if nat_lt (length bs) (length_at bs) then false
    else true

-- a step for each attribute of those that stand one after the other, from what is told of the bytes behind them
abbrev pub along : {A : Type 0} → (A → A) → (List ℕ → A) → ℕ → List ℕ → A
along step behind zero bs = behind bs
along step behind (suc n) bs = if stands bs then step (along step behind n (rest_at bs)) else behind bs

-- how many they are
abbrev pub ahead : List ℕ → ℕ
ahead bs = along suc (λ rest. 0) (length bs) bs

-- and 1 where a fault ends them
abbrev pub stopped : List ℕ → ℕ
stopped bs = along (λ n. n) (λ rest. min 1 (length rest)) (length bs) bs

-- the successful looks for which the reading of attributes has room, where each had one already
abbrev pub walk_room : List ℕ → ℕ
walk_room walk = 2 * (length walk / 4) - ahead walk

-- looks at the header of a next hop, and through its attributes for their type
pub record SoughtIn (inside : List ℕ) (old new : Counts) : Type 0 where
  pub kept : old.successful ≤ new.successful
  pub most : new.successful ≤ old.successful + (1 + ahead inside)
  pub failed_kept : old.failed ≤ new.failed
  pub failed : new.failed ≤ old.failed + stopped inside
  pub header : new.successful < 2 ^ 64 - 1 → old.successful + 1 ≤ new.successful
