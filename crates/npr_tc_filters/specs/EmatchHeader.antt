-- What is said of each test of a filter (linux/pkt_cls.h, struct tcf_ematch_hdr): three numbers of 2, and two bytes that are not looked at.
use Rattle.std.proofs.Common.{refl}
use Rattle.npr_base.specs.Fields.{le_two, unused, ◌fills◌, ◌then◌, last, structure}
use Rattle.npr_base.specs.Layout.{Layout}
use Rattle.npr_base.specs.MoreFields.{◌behind◌}
use Rattle.npr_tc_filters.specs.contracts.ematch_header.TcEmatchHeader.{struct}
use Rattle.npr_tc_filters.specs.declared.ematch_header.TcEmatchHeader.{TcEmatchHeader}

-- in this order, little endian
abbrev pub ematch_header : Layout TcEmatchHeader
ematch_header =
    structure struct
    (TcEmatchHeader.matchid fills le_two then TcEmatchHeader.kind fills le_two
    then last (TcEmatchHeader.flags fills le_two behind unused behind unused)) refl (λ v. tt)
