use Rattle.std.proofs.Common.{rules, refl}
use Rattle.std.specs.Cmp.{unsigned_Decides}
use Rattle.npr_base.proofs.AddressFamilyLaws.{family_equality}
use Rattle.npr_base.specs.Equality.{IsEquality}
use Rattle.npr_base.proofs.EqualityLaws.{bare_equality, enum_equality, one_equality}
use Rattle.npr_base.proofs.StructLaws.{◌beside◌, struct_equality}
use Rattle.npr_base.specs.contracts.attribute_set.AttributeSet.{the_type as families}
use Rattle.npr_base.specs.contracts.attribute_set.AttributeSetPartialEq.TheImpl as FamilyEq
use Rattle.npr_base.specs.contracts.attribute_set.At.{struct as at_struct}
use Rattle.npr_base.specs.contracts.attribute_set.AtPartialEq.TheImpl as AtEq
use Rattle.npr_base.specs.contracts.refusal.Seg6FaultPartialEq.TheImpl as FaultEq
use Rattle.npr_base.specs.contracts.refusal.DecodeError.{enum}
use Rattle.npr_base.proofs.laws.law_equality.Goals as goal

family_of_equality : IsEquality FamilyEq.ghosts.eq
family_of_equality = bare_equality families tt

at_equality : IsEquality AtEq.ghosts.eq
at_equality = struct_equality at_struct (λ v. tt) (λ d. refl) (family_of_equality beside one_equality unsigned_Decides)

fault_equality : IsEquality FaultEq.ghosts.eq
fault_equality = search rules

pub returns-clause-address_family : goal.returns-clause-address_family
returns-clause-address_family c = family_equality

pub returns-clause-attr_family : goal.returns-clause-attr_family
returns-clause-attr_family c = family_of_equality

pub returns-clause-at : goal.returns-clause-at
returns-clause-at c = at_equality

pub returns-clause-seg6_fault : goal.returns-clause-seg6_fault
returns-clause-seg6_fault c = fault_equality

pub returns-clause-decode_error : goal.returns-clause-decode_error
returns-clause-decode_error c =
    let number = one_equality unsigned_Decides in
    enum_equality enum _ refl
    (search (number, unsigned_Decides beside number, one_equality at_equality, at_equality beside number, one_equality fault_equality) depth 40)
