-- What holds for all classes of `htb` (linux/pkt_sched.h, struct tc_htb_glob): five numbers of 4.
use Rattle.std.proofs.Common.{refl}
use Rattle.npr_base.specs.Fields.{le_four, ◌fills◌, ◌then◌, last, structure}
use Rattle.npr_base.specs.Layout.{Layout}
use Rattle.npr_tc_qdiscs.specs.contracts.htb_glob.TcHtbGlob.{struct}
use Rattle.npr_tc_qdiscs.specs.declared.htb_glob.TcHtbGlob.{TcHtbGlob}

-- in this order, little endian
abbrev pub htb_glob : Layout TcHtbGlob
htb_glob =
    structure struct
    (TcHtbGlob.version fills le_four then TcHtbGlob.rate2quantum fills le_four then TcHtbGlob.defcls fills le_four then TcHtbGlob.debug fills le_four
    then last (TcHtbGlob.direct_pkts fills le_four)) refl (λ v. tt)
