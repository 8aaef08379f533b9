-- Addresses of IP version 6, one after the other (RFC 8754, RFC 6554: the list of a routing header).
use Rattle.std.specs.Prelude.{◌≡◌, ℕ, List, length}
use Rattle.std.specs.List.{concat}
use Rattle.npr_base.specs.Lists.{AllOf}

-- the bytes are the addresses, of sixteen bytes each, in the order of the wire
abbrev pub IsV6List : List ℕ → List (List ℕ) → Type 0
IsV6List bytes addresses = (bytes ≡ concat addresses) × AllOf (λ a. length a ≡ 16) addresses
