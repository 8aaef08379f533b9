-- The header of a rule message (linux/fib_rules.h, struct fib_rule_hdr): eight bytes and a number of four.
use Rattle.std.proofs.Common.{refl}
use Rattle.npr_base.specs.Fields.{one_byte, le_four, unused, family_byte, ◌holding◌, ◌before◌, ◌fills◌, ◌then◌, last, structure}
use Rattle.npr_base.specs.Layout.{Layout}
use Rattle.npr_base.specs.AddressFamily.{families}
use Rattle.npr_base.specs.declared.address_family.AddressFamily.TheVariants.{Unspec}
use Rattle.npr_rule.specs.Flags.{rule_flag_bits}
use Rattle.npr_rule.specs.Action.{actions}
use Rattle.npr_rule.specs.contracts.header.RuleHeader.{struct}
use Rattle.npr_rule.specs.contracts.header.RuleMessageBuffer.{struct as buffer_struct}
use Rattle.npr_rule.specs.declared.action.RuleAction.TheVariants.{Unspec as NoAction}
use Rattle.npr_rule.specs.declared.header.RuleHeader.{RuleHeader}
use Rattle.npr_rule.specs.declared.header.RuleMessageBuffer.{RuleMessageBuffer as Buffer}

-- in this order, the flags little endian; the reserved bytes are dropped, and written 0
abbrev pub header : Layout RuleHeader
header =
    structure struct
    (RuleHeader.family fills family_byte then RuleHeader.dst_len fills one_byte then RuleHeader.src_len fills one_byte then RuleHeader.tos fills one_byte
    then RuleHeader.table fills one_byte then RuleHeader.action fills unused before unused before one_byte holding actions
    then last (RuleHeader.flags fills le_four holding rule_flag_bits)) refl (λ v. tt)

-- the same with each field as its number, and the reserved bytes kept
abbrev pub header_buffer : Layout Buffer
header_buffer =
    structure buffer_struct
    (Buffer.family fills one_byte then Buffer.dst_len fills one_byte then Buffer.src_len fills one_byte then Buffer.tos fills one_byte
    then Buffer.table fills one_byte then Buffer.reserve_1 fills one_byte then Buffer.reserve_2 fills one_byte then Buffer.action fills one_byte
    then last (Buffer.flags fills le_four)) refl (λ v. tt)

abbrev pub buffer_of : RuleHeader → Buffer
buffer_of h = record {
  family = families.number h.family;
  dst_len = h.dst_len;
  src_len = h.src_len;
  tos = h.tos;
  table = h.table;
  reserve_1 = 0;
  reserve_2 = 0;
  action = actions.number h.action;
  flags = rule_flag_bits.number h.flags;
}

-- each field at its default
abbrev pub default_header : RuleHeader
default_header = record { family = Unspec; dst_len = 0; src_len = 0; tos = 0; table = 0; action = NoAction; flags = rule_flag_bits.of 0 }
