-- What `==` answers of headers and attributes: whether two are equal, or mean the same.
use Rattle.std.specs.Cmp.{signed_Decides, unsigned_Decides}
use Rattle.std.proofs.Common.{refl}
use Rattle.npr_base.proofs.AddressFamilyLaws.{family_equality}
use Rattle.npr_base.specs.Equality.{IsEquality, IsEqualityOf}
use Rattle.npr_base.proofs.EqualityLaws.{one_equality}
use Rattle.npr_base.specs.EnumTable.{◌also◌}
use Rattle.npr_base.proofs.FieldEquality.{one, number, kept}
use Rattle.npr_base.proofs.StructLaws.{struct_equality}
use Rattle.npr_base.specs.Tables.{table_decides}
use Rattle.npr_namespace.specs.contracts.nsid.NsidHeader.{struct as nsid_header_struct}
use Rattle.npr_namespace.specs.contracts.nsid.NsidHeaderPartialEq.TheImpl as NsidHeaderEq
use Rattle.npr_namespace.specs.contracts.nsid.NsidMessageBuffer.{struct as nsid_buffer_struct}
use Rattle.npr_namespace.specs.contracts.nsid.NsidMessageBufferPartialEq.TheImpl as NsidBufferEq
use Rattle.npr_namespace.specs.contracts.netconf.NetconfHeader.{struct as netconf_header_struct}
use Rattle.npr_namespace.specs.contracts.netconf.NetconfHeaderPartialEq.TheImpl as NetconfHeaderEq
use Rattle.npr_namespace.specs.contracts.netconf.NetconfMessageBuffer.{struct as netconf_buffer_struct}
use Rattle.npr_namespace.specs.contracts.netconf.NetconfMessageBufferPartialEq.TheImpl as NetconfBufferEq
use Rattle.npr_namespace.specs.NsidAttribute as OfNsidAttribute
use Rattle.npr_namespace.specs.contracts.nsid_attribute.NsidAttributePartialEq.TheImpl as NsidAttributeEq
use Rattle.npr_namespace.specs.NetconfAttribute as OfNetconfAttribute
use Rattle.npr_namespace.specs.contracts.netconf_attribute.NetconfAttributePartialEq.TheImpl as NetconfAttributeEq

pub nsid_header_equality : IsEquality NsidHeaderEq.ghosts.eq
nsid_header_equality =
    struct_equality nsid_header_struct (λ v. tt) (λ d. refl)
    (one_equality family_equality)

pub nsid_buffer_equality : IsEquality NsidBufferEq.ghosts.eq
nsid_buffer_equality =
    struct_equality nsid_buffer_struct (λ v. tt) (λ d. refl)
    (one_equality unsigned_Decides)

pub netconf_header_equality : IsEquality NetconfHeaderEq.ghosts.eq
netconf_header_equality =
    struct_equality netconf_header_struct (λ v. tt) (λ d. refl)
    (one_equality family_equality)

pub netconf_buffer_equality : IsEquality NetconfBufferEq.ghosts.eq
netconf_buffer_equality =
    struct_equality netconf_buffer_struct (λ v. tt) (λ d. refl)
    (one_equality unsigned_Decides)

pub nsid_attribute_equality : IsEqualityOf OfNsidAttribute.family.meaning NsidAttributeEq.ghosts.eq
nsid_attribute_equality =
    table_decides OfNsidAttribute.table _
    (one signed_Decides also number also number also one signed_Decides also one signed_Decides also kept also tt)

pub netconf_attribute_equality : IsEqualityOf OfNetconfAttribute.family.meaning NetconfAttributeEq.ghosts.eq
netconf_attribute_equality =
    table_decides OfNetconfAttribute.table _
    (one signed_Decides also one signed_Decides also one signed_Decides also one signed_Decides also one signed_Decides also one signed_Decides
    also one signed_Decides also one signed_Decides also one signed_Decides also kept also tt)
