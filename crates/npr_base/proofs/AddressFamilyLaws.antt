-- `==` of address families answers whether two are equal.
use Rattle.std.specs.Cmp.{unsigned_Decides}
use Rattle.std.proofs.Common.{refl}
use Rattle.npr_base.specs.Equality.{IsEquality}
use Rattle.npr_base.proofs.EqualityLaws.{enum_equality, one_equality}
use Rattle.npr_base.specs.contracts.address_family.AddressFamily.{enum}
use Rattle.npr_base.specs.contracts.address_family.AddressFamilyPartialEq.TheImpl.{ghosts}

pub family_equality : IsEquality ghosts.eq
family_equality = enum_equality enum _ refl (one_equality unsigned_Decides, tt)
