-- Preferences of routers, by their table: `ICMPV6_ROUTER_PREF_*` of `linux/icmpv6.h`.
use Rattle.std.specs.Prelude.{ℕ, List, [], ◌∷◌}
use Rattle.std.proofs.Common.{refl}
use Rattle.npr_base.specs.Layout.{Layout, byte, formed}
use Rattle.npr_base.specs.Numbering.{Numbering}
use Rattle.npr_base.specs.Enumeration.{enumeration}
use Rattle.npr_route_values.specs.declared.preference.RoutePreference.{RoutePreference}
use Rattle.npr_route_values.specs.declared.preference.RoutePreference.TheVariants.{Medium, High, Invalid, Low, Other}
use Rattle.npr_route_values.specs.contracts.preference.RoutePreference.{enum}

-- in the order of the variants
abbrev pub route_preference_rows : List (ℕ × RoutePreference)
route_preference_rows = (0, Medium) ∷ (1, High) ∷ (2, Invalid) ∷ (3, Low) ∷ []

-- the preference that a number reads as, and the number that one is written as
abbrev pub route_preferences : Numbering ℕ RoutePreference
route_preferences = enumeration enum route_preference_rows Other (λ f. f.0) (λ d. refl) refl

-- how one is read and written
abbrev pub route_preference : Layout RoutePreference
route_preference = formed byte route_preferences
