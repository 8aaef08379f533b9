-- What the last of a list gives, and the metric of an address.
use Rattle.std.specs.Option.{option_or}
use Rattle.std.specs.Prelude.{ℕ, List, [], ◌∷◌, Option, None}
use Rattle.netlink_packet_route.specs.AddressAttribute.{family, value_of}

-- what the last gives of those that give something
abbrev pub last_of : {A B : Type 0} → (A → Option B) → List A → Option B
last_of f [] = None
last_of f (x ∷ xs) = option_or (last_of f xs) (f x)

-- IFA_RT_PRIORITY
abbrev pub priority_of : family.Meaning → Option ℕ
priority_of m = value_of 9 m
