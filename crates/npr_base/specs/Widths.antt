-- Values of one of two widths.
--     IsUint, IsNoUint    a number of four bytes or of eight, the lowest first (net/netlink.h of the kernel, NLA_UINT)
--     IsFlag, IsNoFlag    true without a value (NLA_FLAG), or as a byte above 0
use Rattle.std.specs.Prelude.{◌≡◌, ◌≢◌, ◌⊎◌, ℕ, Bool, true, nat_lt, List, length, slice_index}
use Rattle.std.specs.Int.{w32, w64, from_le_bytes}

abbrev pub IsUint : List ℕ → ℕ → Type 0
IsUint bytes n = ((length bytes ≡ 4) × (n ≡ from_le_bytes w32 bytes)) ⊎ ((length bytes ≡ 8) × (n ≡ from_le_bytes w64 bytes))

abbrev pub IsNoUint : List ℕ → Type 0
IsNoUint bytes = (length bytes ≢ 4) × (length bytes ≢ 8)

abbrev pub IsFlag : List ℕ → Bool → Type 0
IsFlag bytes b = ((length bytes ≡ 0) × (b ≡ true)) ⊎ ((length bytes ≡ 1) × (b ≡ nat_lt 0 (slice_index bytes 0)))

abbrev pub IsNoFlag : List ℕ → Type 0
IsNoFlag bytes = (length bytes ≢ 0) × (length bytes ≢ 1)
