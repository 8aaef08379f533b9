-- How a group takes turns, by the table: `NEXTHOP_GRP_TYPE_*` of `linux/nexthop.h`.
use Rattle.std.specs.Prelude.{ℕ, List, [], ◌∷◌}
use Rattle.std.proofs.Common.{refl}
use Rattle.npr_base.specs.Layout.{Layout, le16, formed}
use Rattle.npr_base.specs.Numbering.{Numbering}
use Rattle.npr_base.specs.Enumeration.{enumeration}
use Rattle.npr_nexthop.specs.declared.group_type.NextHopGroupType.{NextHopGroupType}
use Rattle.npr_nexthop.specs.declared.group_type.NextHopGroupType.TheVariants.{Mpath, Resilient, Other}
use Rattle.npr_nexthop.specs.contracts.group_type.NextHopGroupType.{enum}

-- in the order of the variants
abbrev pub group_type_rows : List (ℕ × NextHopGroupType)
group_type_rows = (0, Mpath) ∷ (1, Resilient) ∷ []

-- the type that a number reads as, and the number that one is written as
abbrev pub group_types : Numbering ℕ NextHopGroupType
group_types = enumeration enum group_type_rows Other (λ f. f.0) (λ d. refl) refl

-- how one is read and written
abbrev pub group_type : Layout NextHopGroupType
group_type = formed le16 group_types
