-- Members of an encapsulation of an older table of SEG6 modes, brought up to the table of today.
use Rattle.std.proofs.Common.{◌≡◌, refl, ap}
use Rattle.npr_base.specs.Family.{written_by, unfit_by}
use Rattle.npr_base.specs.Framing.{Item}
use Rattle.npr_srh.specs.Seg6Mode.{ModeTable}
use Rattle.npr_srh.specs.Seg6Tunnel as OfSeg6
use Rattle.npr_srh.proofs.Seg6NormalizedLaws as OfSeg6Laws
use Rattle.npr_encapsulation.specs.Encapsulation.{Meaning, seg6}
use Rattle.npr_encapsulation.specs.Encapsulation.{encapsulation, encapsulation_by, normalized, writing}
use Rattle.npr_encapsulation.specs.declared.encap_type.RouteLwEnCapType.{RouteLwEnCapType}
use Rattle.npr_encapsulation.specs.declared.encap_type.RouteLwEnCapType.TheVariants.{Seg6}

pub member-writes : (m : Meaning) → written_by writing (normalized m) ≡ written_by writing m
member-writes (seg6 m) = OfSeg6Laws.member-item m
member-writes m = refl

pub member-unfit : (m : Meaning) → unfit_by writing (normalized m) ≡ unfit_by writing m
member-unfit (seg6 m) = OfSeg6Laws.member-unfit m
member-unfit m = refl

pub member-again : (m : Meaning) → normalized (normalized m) ≡ normalized m
member-again (seg6 m) = ap seg6 (OfSeg6Laws.member-again m)
member-again m = refl

pub member-read : (by : ModeTable) (type : RouteLwEnCapType) (x : Item) (m : Meaning) → (encapsulation_by by type).Reads x m
    → (encapsulation type).Reads x (normalized m)
unfolding encapsulation_by
member-read by Seg6 x m p = (OfSeg6.normalized p.0, OfSeg6Laws.member-read by x p.0 p.1, ap normalized p.2)
member-read by type x m p = (p.0, p.1, ap normalized p.2)

pub member-coherent : (by : ModeTable) (type : RouteLwEnCapType) (m : Meaning) → (encapsulation_by by type).Coherent m
    → (encapsulation type).Coherent (normalized m)
unfolding encapsulation_by
member-coherent by Seg6 m c = (OfSeg6.normalized c.0, OfSeg6Laws.member-coherent by c.0 c.1, ap normalized c.2)
member-coherent by type m c = (c.0, c.1, ap normalized c.2)
