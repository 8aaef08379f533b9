-- Types of routes, by their table: `RTN_*` of `linux/rtnetlink.h`.
use Rattle.std.specs.Prelude.{ℕ, List, [], ◌∷◌}
use Rattle.std.proofs.Common.{refl}
use Rattle.npr_base.specs.Layout.{Layout, byte, formed}
use Rattle.npr_base.specs.Numbering.{Numbering}
use Rattle.npr_base.specs.Enumeration.{enumeration}
use Rattle.npr_route_values.specs.declared.route_type.RouteType.{RouteType}
use Rattle.npr_route_values.specs.declared.route_type.RouteType.TheVariants.{Unspec, Unicast, Local, Broadcast, Anycast, Multicast, BlackHole}
use Rattle.npr_route_values.specs.declared.route_type.RouteType.TheVariants.{Unreachable, Prohibit, Throw, Nat, ExternalResolve, Other}
use Rattle.npr_route_values.specs.contracts.route_type.RouteType.{enum}

-- in the order of the variants
abbrev pub route_type_rows : List (ℕ × RouteType)
route_type_rows =
    (0, Unspec) ∷ (1, Unicast) ∷ (2, Local) ∷ (3, Broadcast) ∷ (4, Anycast) ∷ (5, Multicast) ∷ (6, BlackHole) ∷ (7, Unreachable)
    ∷ (8, Prohibit) ∷ (9, Throw) ∷ (10, Nat) ∷ (11, ExternalResolve) ∷ []

-- the type that a number reads as, and the number that one is written as
abbrev pub route_types : Numbering ℕ RouteType
route_types = enumeration enum route_type_rows Other (λ f. f.0) (λ d. refl) refl

-- how one is read and written
abbrev pub route_type : Layout RouteType
route_type = formed byte route_types
