-- In which slots of time packets go by `netem` (linux/pkt_sched.h, struct tc_netem_slot): signed numbers: two of 8, two of 4, and two of 8.
use Rattle.std.proofs.Common.{refl}
use Rattle.npr_base.specs.Fields.{◌fills◌, ◌then◌, last, structure}
use Rattle.npr_base.specs.Layout.{Layout}
use Rattle.npr_base.specs.MoreFields.{signed_eight, signed_four}
use Rattle.npr_tc_qdiscs.specs.contracts.netem_slot.TcNetemSlot.{struct}
use Rattle.npr_tc_qdiscs.specs.declared.netem_slot.TcNetemSlot.{TcNetemSlot}

-- in this order, little endian
abbrev pub netem_slot : Layout TcNetemSlot
netem_slot =
    structure struct
    (TcNetemSlot.min_delay fills signed_eight then TcNetemSlot.max_delay fills signed_eight then TcNetemSlot.max_packets fills signed_four
    then TcNetemSlot.max_bytes fills signed_four then TcNetemSlot.dist_delay fills signed_eight
    then last (TcNetemSlot.dist_jitter fills signed_eight)) refl (λ v. tt)
