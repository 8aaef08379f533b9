-- Whether a TTL goes on, by the table: the values of `RTA_TTL_PROPAGATE` of `linux/rtnetlink.h`.
use Rattle.std.specs.Prelude.{ℕ, List, [], ◌∷◌}
use Rattle.std.proofs.Common.{refl}
use Rattle.npr_base.specs.Layout.{Layout, byte, formed}
use Rattle.npr_base.specs.Numbering.{Numbering}
use Rattle.npr_base.specs.Enumeration.{enumeration}
use Rattle.npr_route_values.specs.declared.preference.RouteMplsTtlPropagation.{RouteMplsTtlPropagation}
use Rattle.npr_route_values.specs.declared.preference.RouteMplsTtlPropagation.TheVariants.{Disabled, Enabled, Other}
use Rattle.npr_route_values.specs.contracts.preference.RouteMplsTtlPropagation.{enum}

-- in the order of the variants
abbrev pub ttl_propagation_rows : List (ℕ × RouteMplsTtlPropagation)
ttl_propagation_rows = (0, Disabled) ∷ (1, Enabled) ∷ []

-- the choice that a number reads as, and the number that one is written as
abbrev pub ttl_propagations : Numbering ℕ RouteMplsTtlPropagation
ttl_propagations = enumeration enum ttl_propagation_rows Other (λ f. f.0) (λ d. refl) refl

-- how one is read and written
abbrev pub ttl_propagation : Layout RouteMplsTtlPropagation
ttl_propagation = formed byte ttl_propagations
