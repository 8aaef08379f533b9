-- What stands in front of the tests of a filter (linux/pkt_cls.h, struct tcf_ematch_tree_hdr): two numbers of 2.
use Rattle.std.proofs.Common.{refl}
use Rattle.npr_base.specs.Fields.{le_two, ◌fills◌, ◌then◌, last, structure}
use Rattle.npr_base.specs.Layout.{Layout}
use Rattle.npr_tc_filters.specs.contracts.ematch_tree_header.TcEmatchTreeHeader.{struct}
use Rattle.npr_tc_filters.specs.declared.ematch_tree_header.TcEmatchTreeHeader.{TcEmatchTreeHeader}

-- in this order, little endian
abbrev pub ematch_tree_header : Layout TcEmatchTreeHeader
ematch_tree_header =
    structure struct (TcEmatchTreeHeader.nmatches fills le_two then last (TcEmatchTreeHeader.progid fills le_two)) refl (λ v. tt)
