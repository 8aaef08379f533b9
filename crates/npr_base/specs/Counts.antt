-- How often a header was looked at, at most the greatest u64, and what a reading may add.
use Rattle.std.specs.Prelude.{◌≡◌, ℕ, ◌+◌, ◌-◌, ◌*◌, ◌/◌, ◌^◌, ◌<◌, ◌≤◌, min, Option, None, Some, Result, Ok, Err}

pub record Counts : Type 0 where
  pub successful : ℕ
  pub failed : ℕ

abbrev pub no_looks : Counts
no_looks = record { successful = 0; failed = 0 }

-- one more, if the greatest u64 leaves room for it
abbrev pub one_more : ℕ → ℕ
one_more n = n + min 1 (2 ^ 64 - 1 - n)

abbrev pub hit : Counts → Counts
hit c = record { successful = one_more c.successful; failed = c.failed }

abbrev pub miss : Counts → Counts
miss c = record { successful = c.successful; failed = one_more c.failed }

-- what a step of a walk adds: a look, unless no bytes were left
abbrev pub looked : {A E : Type 0} → Option (Result A E) → Counts → Counts
looked None c = c
looked (Some (Ok x)) c = hit c
looked (Some (Err e)) c = miss c

-- so many more, as far as the greatest u64 leaves room for them
abbrev pub raised : Counts → Counts → Counts
raised more c = record {
  successful = c.successful + min more.successful (2 ^ 64 - 1 - c.successful);
  failed = c.failed + min more.failed (2 ^ 64 - 1 - c.failed);
}

-- the looks that the reading of so many bytes may add: two for four bytes, since a list of route
-- attributes is looked through once for its encapsulation type and once to be read
abbrev pub most_successful : ℕ → ℕ
most_successful bytes = 2 * (bytes / 4)

-- and the failed ones: a reading ends at its first; before it, the search through a list of next hops' attributes may have
-- failed at each of the lists that are open, and each level of next hops takes twelve bytes
abbrev pub most_failed : ℕ → ℕ
most_failed bytes = 1 + bytes / 12

-- what the reading of a value of so many bytes may add: no count falls, and neither grows by more than is allowed, the
-- failed ones by what the value is allowed with the four bytes of its header
pub record AddsAtMost (old new : Counts) (len : ℕ) : Type 0 where
  pub kept : old.successful ≤ new.successful
  pub successful : new.successful ≤ old.successful + most_successful len
  pub failed_kept : old.failed ≤ new.failed
  pub failed : new.failed ≤ old.failed + most_failed (4 + len)

-- what a search through so many bytes and then their reading may add: together no more than the reading is allowed, and
-- the one failed look at which the search ends
pub record AddsAtMostTwice (old new : Counts) (bytes : ℕ) : Type 0 where
  pub kept : old.successful ≤ new.successful
  pub successful : new.successful ≤ old.successful + most_successful bytes
  pub failed_kept : old.failed ≤ new.failed
  pub failed : new.failed ≤ old.failed + (1 + most_failed bytes)

-- each member had its look, and none failed
pub record SawEach (old new : Counts) (members : ℕ) : Type 0 where
  pub failed : new.failed ≡ old.failed
  -- below the greatest u64, where a count stays
  pub each : new.successful < 2 ^ 64 - 1 → old.successful + members ≤ new.successful
