-- Bits, and which of them are meant (linux/netlink.h, struct nla_bitfield32): 4 bytes each.
use Rattle.std.proofs.Common.{refl}
use Rattle.npr_base.specs.Fields.{le_four, ◌fills◌, ◌then◌, last, structure}
use Rattle.npr_base.specs.Layout.{Layout}
use Rattle.npr_tc_values.specs.contracts.bitfield.TcBitfield.{struct}
use Rattle.npr_tc_values.specs.declared.bitfield.TcBitfield.{TcBitfield}

abbrev pub bitfield : Layout TcBitfield
bitfield = structure struct (TcBitfield.value fills le_four then last (TcBitfield.selector fills le_four)) refl (λ v. tt)
