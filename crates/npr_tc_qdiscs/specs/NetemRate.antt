-- At which rate packets go by `netem` (linux/pkt_sched.h, struct tc_netem_rate): a number, a signed one, a number, and a signed one, of
-- 4 each.
use Rattle.std.proofs.Common.{refl}
use Rattle.npr_base.specs.Fields.{le_four, ◌fills◌, ◌then◌, last, structure}
use Rattle.npr_base.specs.Layout.{Layout}
use Rattle.npr_base.specs.MoreFields.{signed_four}
use Rattle.npr_tc_qdiscs.specs.contracts.netem_rate.TcNetemRate.{struct}
use Rattle.npr_tc_qdiscs.specs.declared.netem_rate.TcNetemRate.{TcNetemRate}

-- in this order, little endian
abbrev pub netem_rate : Layout TcNetemRate
netem_rate =
    structure struct
    (TcNetemRate.rate fills le_four then TcNetemRate.packet_overhead fills signed_four then TcNetemRate.cell_size fills le_four
    then last (TcNetemRate.cell_overhead fills signed_four)) refl (λ v. tt)
