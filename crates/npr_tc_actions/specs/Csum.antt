-- Which checksums an action makes anew, with what every action has (linux/tc_act/tc_csum.h, struct tc_csum): what every action has, and
-- a number of 4.
use Rattle.std.proofs.Common.{refl}
use Rattle.npr_base.specs.Fields.{le_four, ◌holding◌, ◌fills◌, ◌then◌, last, structure}
use Rattle.npr_base.specs.Layout.{Layout}
use Rattle.npr_tc_actions.specs.CsumFlags.{csum_flag_bits}
use Rattle.npr_tc_actions.specs.Generic.{generic_field}
use Rattle.npr_tc_actions.specs.contracts.csum.TcCsum.{struct}
use Rattle.npr_tc_actions.specs.declared.csum.TcCsum.{TcCsum}

-- in this order, little endian
abbrev pub csum : Layout TcCsum
csum =
    structure struct
    (TcCsum.generic fills generic_field then last (TcCsum.update_flags fills (le_four holding csum_flag_bits))) refl (λ v. tt)
