-- What `==` answers of attributes and messages: whether they mean the same.
use Rattle.std.proofs.Common.{rules, refl}
use Rattle.npr_base.specs.Equality.{IsEquality, IsEqualityOf}
use Rattle.npr_base.specs.ViewEquality.{item_equality}
use Rattle.npr_base.proofs.IpLaws.{ip_equality, ipv4_equality}
use Rattle.npr_base.specs.Tables.{table_decides}
use Rattle.npr_base.proofs.MeaningLaws.{text_equality}
use Rattle.npr_base.proofs.EqualityLaws.{one_equality}
use Rattle.npr_base.proofs.StructLaws.{◌beside◌, struct_equality}
use Rattle.npr_base.proofs.AddressFamilyLaws.{family_equality}
use Rattle.std.specs.Cmp.{unsigned_Decides, signed_Decides}
use Rattle.npr_address.specs.contracts.header.AddressHeader.{struct}
use Rattle.npr_address.specs.contracts.addr_protocol.AddressProtocolPartialEq.TheImpl as ProtocolEq
use Rattle.npr_address.specs.Attribute.{family, table}
use Rattle.npr_address.specs.contracts.attribute.AddressAttributePartialEq.TheImpl as AttributeEq
use Rattle.npr_address.specs.contracts.addr_flags.AddressFlagsPartialEq.TheImpl as FlagsEq
use Rattle.npr_address.specs.contracts.addr_flags.AddressHeaderFlagsPartialEq.TheImpl as HeaderFlagsEq
use Rattle.npr_address.specs.contracts.addr_scope.AddressScopePartialEq.TheImpl as ScopeEq
use Rattle.npr_address.specs.contracts.cache_info.CacheInfoPartialEq.TheImpl as InfoEq
use Rattle.npr_address.specs.contracts.header.AddressHeaderPartialEq.TheImpl as HeaderEq

protocol_equality : IsEquality ProtocolEq.ghosts.eq
protocol_equality = search rules

info_equality : IsEquality InfoEq.ghosts.eq
info_equality = search rules

flags_equality : IsEquality FlagsEq.ghosts.eq
flags_equality = search rules

header_flags_equality : IsEquality HeaderFlagsEq.ghosts.eq
header_flags_equality = search rules

scope_equality : IsEquality ScopeEq.ghosts.eq
scope_equality = search rules

pub header_equality : IsEquality HeaderEq.ghosts.eq
header_equality =
    struct_equality struct (λ v. tt) (λ d. refl)
    (family_equality beside unsigned_Decides beside header_flags_equality beside scope_equality beside one_equality unsigned_Decides)

pub attribute_equality : IsEqualityOf family.meaning AttributeEq.ghosts.eq
attribute_equality =
    table_decides table _
    (search (
      ip_equality,
      text_equality,
      ipv4_equality,
      info_equality,
      flags_equality,
      unsigned_Decides,
      signed_Decides,
      protocol_equality,
      item_equality,
    ) depth 40)
