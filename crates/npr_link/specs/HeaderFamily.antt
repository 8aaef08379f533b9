-- Under which family of the header an attribute of a link stands.
use Rattle.std.specs.declared.alloc.Global.{Global}
use Rattle.std.specs.declared.vec.Vec.{Vec}
use Rattle.npr_base.specs.declared.address_family.AddressFamily.{AddressFamily}
use Rattle.npr_link.specs.Attribute.{attributes, meaning}
use Rattle.npr_link.specs.declared.attribute.LinkAttribute.{LinkAttribute}

-- where it can be read, the family is one of these
abbrev pub StandsUnder : (AddressFamily → Type 0) → LinkAttribute → Type 0
StandsUnder P a = (family : AddressFamily) → (attributes family).Coherent (meaning a) → P family

abbrev pub Several : Type 0 → Type 0
Several A = Vec A Global
