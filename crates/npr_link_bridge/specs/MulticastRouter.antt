-- Whether multicast routers are behind a port or a bridge, by the table: `MDB_RTR_TYPE_*` of `linux/if_bridge.h`.
use Rattle.std.specs.Prelude.{ℕ, List, [], ◌∷◌}
use Rattle.std.proofs.Common.{refl}
use Rattle.npr_base.specs.Layout.{Layout, byte, formed}
use Rattle.npr_base.specs.Numbering.{Numbering}
use Rattle.npr_base.specs.Enumeration.{enumeration}
use Rattle.npr_link_bridge.specs.declared.multicast_router.BridgeMulticastRouterType.{BridgeMulticastRouterType}
use Rattle.npr_link_bridge.specs.declared.multicast_router.BridgeMulticastRouterType.TheVariants.{Disabled, TempQuery, Permanent, Temp, Other}
use Rattle.npr_link_bridge.specs.contracts.multicast_router.BridgeMulticastRouterType.{enum}

-- in the order of the variants
abbrev pub router_type_rows : List (ℕ × BridgeMulticastRouterType)
router_type_rows =
    (0, Disabled) ∷ (1, TempQuery) ∷ (2, Permanent) ∷ (3, Temp) ∷ []

-- the value that a number reads as, and the number that one is written as
abbrev pub router_types : Numbering ℕ BridgeMulticastRouterType
router_types = enumeration enum router_type_rows Other (λ f. f.0) (λ d. refl) refl

-- how one is read and written
abbrev pub router_type : Layout BridgeMulticastRouterType
router_type = formed byte router_types
