-- How many segments a routing header can say, and how segments are printed.
use Rattle.std.specs.Prelude.{◌≡◌, ℕ, ◌≤◌, Option, Some, None, nat_lt, if◌then◌else◌, List, ◌++◌, reverse, codes, decimal}
use Rattle.std.specs.Fmt.{◌++?◌}
use Rattle.std.specs.Net.Addr.{segments_of}
use Rattle.std.specs.Net.Text.{ipv6_text}
use Rattle.std.proofs.Common.{refl, inl, inr}
use Rattle.std.proofs.lemmas.Bool.{cases_lt, lt-ltb}
use Rattle.npr_base.specs.declared.refusal.EmitError.{EmitError}
use Rattle.npr_base.specs.declared.refusal.EmitError.TheVariants.{TooManySegments}
use Rattle.npr_base.specs.Text.{joined_by}

-- more segments than that
abbrev pub too_many : ℕ → ℕ → Option EmitError
too_many most count = if nat_lt most count then Some (TooManySegments count) else None

pub few : (most count : ℕ) → too_many most count ≡ None → count ≤ most
few most count e = elim (cases_lt most count) [
  | inl lt ↦ absurd (let h : too_many most count ≡ Some (TooManySegments count) = rw (lt-ltb most count lt) refl in cc)
  | inr le ↦ le
]

-- the text of segments: the addresses, the last one first, one space between them
abbrev pub segments_text : List (List ℕ) → Option (List ℕ)
segments_text segments = joined_by (codes " ") (λ a. Some (ipv6_text (segments_of a))) (reverse segments)

-- the text of a header: a count, and the segments
abbrev pub header_text : ℕ → List (List ℕ) → Option (List ℕ)
header_text count segments = Some (codes "srh segs " ++ decimal count ++ codes " [ ") ++? segments_text segments ++? Some (codes " ]")
