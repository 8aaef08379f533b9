-- When an action was made and used: four numbers of eight bytes (linux/pkt_cls.h, struct tcf_t).
use Rattle.std.proofs.Common.{refl}
use Rattle.npr_base.specs.Fields.{le_eight, ◌fills◌, ◌then◌, last, structure}
use Rattle.npr_base.specs.Layout.{Layout}
use Rattle.npr_tc_actions.specs.contracts.tcf.Tcf.{struct}
use Rattle.npr_tc_actions.specs.declared.tcf.Tcf.{Tcf}

-- in this order, little endian
abbrev pub tcf : Layout Tcf
tcf =
    structure struct
    (Tcf.install fills le_eight then Tcf.lastuse fills le_eight then Tcf.expires fills le_eight then last (Tcf.firstuse fills le_eight)) refl (λ v. tt)
