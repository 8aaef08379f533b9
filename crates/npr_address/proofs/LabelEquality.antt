-- What `==` answers of address labels and prefixes: whether two values are equal, or mean the same.
use Rattle.std.specs.Cmp.{signed_Decides, unsigned_Decides}
use Rattle.std.proofs.Common.{refl}
use Rattle.npr_base.proofs.AddressFamilyLaws.{family_equality}
use Rattle.npr_base.specs.Equality.{IsEquality, IsEqualityOf}
use Rattle.npr_base.proofs.EqualityLaws.{one_equality}
use Rattle.npr_base.specs.EnumTable.{◌also◌}
use Rattle.npr_base.proofs.FieldEquality.{one, number, kept}
use Rattle.npr_base.proofs.IpLaws.{ipv6_equality}
use Rattle.npr_base.proofs.StructLaws.{◌beside◌, struct_equality}
use Rattle.npr_base.specs.Tables.{table_decides}
use Rattle.npr_address.specs.contracts.address_label.AddressLabelHeader.{struct as address_label_header_struct}
use Rattle.npr_address.specs.contracts.address_label.AddressLabelHeaderPartialEq.TheImpl as AddressLabelHeaderEq
use Rattle.npr_address.specs.contracts.address_label.AddressLabelMessageBuffer.{struct as address_label_buffer_struct}
use Rattle.npr_address.specs.contracts.address_label.AddressLabelMessageBufferPartialEq.TheImpl as AddressLabelBufferEq
use Rattle.npr_address.specs.contracts.prefix_cache_info.CacheInfo.{struct as prefix_cache_info_struct}
use Rattle.npr_address.specs.contracts.prefix_cache_info.CacheInfoPartialEq.TheImpl as PrefixCacheInfoEq
use Rattle.npr_address.specs.contracts.prefix.PrefixHeader.{struct as prefix_header_struct}
use Rattle.npr_address.specs.contracts.prefix.PrefixHeaderPartialEq.TheImpl as PrefixHeaderEq
use Rattle.npr_address.specs.contracts.prefix.PrefixMessageBuffer.{struct as prefix_buffer_struct}
use Rattle.npr_address.specs.contracts.prefix.PrefixMessageBufferPartialEq.TheImpl as PrefixBufferEq
use Rattle.npr_address.specs.AddressLabelAttribute as OfAddressLabelAttribute
use Rattle.npr_address.specs.contracts.address_label_attribute.AddressLabelAttributePartialEq.TheImpl as AddressLabelAttributeEq
use Rattle.npr_address.specs.PrefixAttribute as OfPrefixAttribute
use Rattle.npr_address.specs.contracts.prefix_attribute.PrefixAttributePartialEq.TheImpl as PrefixAttributeEq

pub address_label_header_equality : IsEquality AddressLabelHeaderEq.ghosts.eq
address_label_header_equality =
    struct_equality address_label_header_struct (λ v. tt) (λ d. refl)
    (family_equality beside unsigned_Decides beside unsigned_Decides beside unsigned_Decides beside one_equality unsigned_Decides)

pub address_label_buffer_equality : IsEquality AddressLabelBufferEq.ghosts.eq
address_label_buffer_equality =
    struct_equality address_label_buffer_struct (λ v. tt) (λ d. refl)
    (unsigned_Decides beside unsigned_Decides beside unsigned_Decides beside unsigned_Decides beside one_equality unsigned_Decides)

pub prefix_cache_info_equality : IsEquality PrefixCacheInfoEq.ghosts.eq
prefix_cache_info_equality =
    struct_equality prefix_cache_info_struct (λ v. tt) (λ d. refl)
    (unsigned_Decides beside one_equality unsigned_Decides)

pub prefix_header_equality : IsEquality PrefixHeaderEq.ghosts.eq
prefix_header_equality =
    struct_equality prefix_header_struct (λ v. tt) (λ d. refl)
    (unsigned_Decides beside signed_Decides beside unsigned_Decides beside unsigned_Decides beside one_equality unsigned_Decides)

pub prefix_buffer_equality : IsEquality PrefixBufferEq.ghosts.eq
prefix_buffer_equality =
    struct_equality prefix_buffer_struct (λ v. tt) (λ d. refl)
    (unsigned_Decides beside unsigned_Decides beside unsigned_Decides beside signed_Decides beside unsigned_Decides beside unsigned_Decides
    beside unsigned_Decides beside one_equality unsigned_Decides)

pub address_label_attribute_equality : IsEqualityOf OfAddressLabelAttribute.family.meaning AddressLabelAttributeEq.ghosts.eq
address_label_attribute_equality =
    table_decides OfAddressLabelAttribute.table _
    (one ipv6_equality also number also kept also tt)

pub prefix_attribute_equality : IsEqualityOf OfPrefixAttribute.family.meaning PrefixAttributeEq.ghosts.eq
prefix_attribute_equality =
    table_decides OfPrefixAttribute.table _
    (one ipv6_equality also one prefix_cache_info_equality also kept also tt)
