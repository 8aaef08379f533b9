-- What `==` answers of attributes and messages: whether they mean the same.
use Rattle.std.specs.Cmp.{booleans_Decides, unsigned_Decides}
use Rattle.std.proofs.Common.{rules, refl}
use Rattle.npr_base.proofs.AddressFamilyLaws.{family_equality}
use Rattle.npr_base.specs.Equality.{IsEquality, IsEqualityOf}
use Rattle.npr_base.specs.ViewEquality.{item_equality}
use Rattle.npr_base.proofs.IpLaws.{ip_equality}
use Rattle.npr_base.specs.Tables.{table_decides}
use Rattle.npr_base.proofs.MeaningLaws.{text_equality}
use Rattle.npr_base.proofs.EqualityLaws.{one_equality}
use Rattle.npr_base.proofs.StructLaws.{◌beside◌, struct_equality}
use Rattle.npr_route_values.proofs.EqualityLaws.{realm_equality, ip_protocol_equality, route_protocol_equality}
use Rattle.npr_rule.specs.contracts.header.RuleHeader.{struct}
use Rattle.npr_rule.specs.Attribute.{family, table}
use Rattle.npr_rule.specs.contracts.action.RuleActionPartialEq.TheImpl as ActionEq
use Rattle.npr_rule.specs.contracts.attribute.RuleAttributePartialEq.TheImpl as AttributeEq
use Rattle.npr_rule.specs.contracts.flags.RuleFlagsPartialEq.TheImpl as FlagsEq
use Rattle.npr_rule.specs.contracts.header.RuleHeaderPartialEq.TheImpl as HeaderEq
use Rattle.npr_rule.specs.contracts.port_range.RulePortRangePartialEq.TheImpl as PortEq
use Rattle.npr_rule.specs.contracts.uid_range.RuleUidRangePartialEq.TheImpl as UidEq

port_equality : IsEquality PortEq.ghosts.eq
port_equality = search rules

uid_equality : IsEquality UidEq.ghosts.eq
uid_equality = search rules

flags_equality : IsEquality FlagsEq.ghosts.eq
flags_equality = search rules

action_equality : IsEquality ActionEq.ghosts.eq
action_equality = search rules

pub header_equality : IsEquality HeaderEq.ghosts.eq
header_equality =
    struct_equality struct (λ v. tt) (λ d. refl)
    (family_equality beside unsigned_Decides beside unsigned_Decides beside unsigned_Decides beside unsigned_Decides beside action_equality
    beside one_equality flags_equality)

pub attribute_equality : IsEqualityOf family.meaning AttributeEq.ghosts.eq
attribute_equality =
    table_decides table _
    (search (
      ip_equality,
      booleans_Decides,
      text_equality,
      unsigned_Decides,
      realm_equality,
      uid_equality,
      route_protocol_equality,
      ip_protocol_equality,
      port_equality,
      item_equality,
    ) depth 40)
