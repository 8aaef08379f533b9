-- What is asked of a dump of actions: every bit is kept (linux/rtnetlink.h, TCA_ACT_FLAG_*); and which bits are said (linux/netlink.h,
-- struct nla_bitfield32).
use Rattle.std.specs.Prelude.{ℕ}
use Rattle.std.proofs.Common.{refl}
use Rattle.npr_base.specs.Fields.{le_four, ◌holding◌, ◌fills◌, ◌then◌, last, structure}
use Rattle.npr_base.specs.Layout.{Layout}
use Rattle.npr_base.specs.Numbering.{Numbering}
use Rattle.npr_tc.specs.contracts.action_flags.TcActionMessageFlagsWithSelector.{struct}
use Rattle.npr_tc.specs.declared.action_flags.TcActionMessageFlags.{TcActionMessageFlags}
use Rattle.npr_tc.specs.declared.action_flags.TcActionMessageFlagsWithSelector.{TcActionMessageFlagsWithSelector as Both}

-- the set of these bits, and the bits of a set
abbrev pub action_flag_bits : Numbering ℕ TcActionMessageFlags
action_flag_bits = record { of = λ bits. record { 0 = bits }; number = λ flags. flags.0; back = λ bits. refl }

-- in this order, little endian
abbrev pub with_selector : Layout Both
with_selector =
    structure struct (Both.flags fills (le_four holding action_flag_bits) then last (Both.selector fills (le_four holding action_flag_bits))) refl (λ v. tt)
