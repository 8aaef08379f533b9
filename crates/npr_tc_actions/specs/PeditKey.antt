-- What an action changes in a packet (linux/tc_act/tc_pedit.h, struct tc_pedit_key): twenty-four bytes each.
use Rattle.std.proofs.Common.{refl, lit<}
use Rattle.npr_base.specs.Blocks.{Width}
use Rattle.npr_base.specs.Fields.{be_four, le_four, ◌fills◌, ◌then◌, last, structure}
use Rattle.npr_base.specs.Layout.{Layout}
use Rattle.npr_tc_actions.specs.contracts.pedit_key.TcPeditKey.{struct}
use Rattle.npr_tc_actions.specs.declared.pedit_key.TcPeditKey.{TcPeditKey}

-- in this order: mask and value are bytes of packets, the highest first
abbrev pub pedit_key : Layout TcPeditKey
pedit_key =
    structure struct
    (TcPeditKey.mask fills be_four then TcPeditKey.val fills be_four then TcPeditKey.off fills le_four then TcPeditKey.at fills le_four
    then TcPeditKey.offmask fills le_four then last (TcPeditKey.shift fills le_four)) refl (λ v. tt)

-- always in twenty-four bytes
abbrev pub pedit_key_width : Width TcPeditKey
pedit_key_width = record {
  layout = pedit_key;
  positive = lit< tt;
  long = λ x. refl;
  none = record { mask = 0; val = 0; off = 0; at = 0; offmask = 0; shift = 0 };
}
