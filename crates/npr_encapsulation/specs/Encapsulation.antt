-- The members of an encapsulation, by its type: some types have a family, and under the others a member is kept as it
-- stands (linux/lwtunnel.h, LWTUNNEL_ENCAP_*).
use Rattle.std.proofs.Common.{refl}
use Rattle.npr_base.specs.Framing.{Item}
use Rattle.npr_base.specs.Tables.{slot_at}
use Rattle.npr_base.specs.Family.{Writing, Reading, Family, family_of}
use Rattle.npr_base.specs.Value.{Shown, are_bytes}
use Rattle.npr_base.specs.Table.{Slot, slot_other, writing_by}
use Rattle.npr_srh.specs.Ioam6Tunnel as OfIoam6
use Rattle.npr_srh.specs.RplTunnel as OfRpl
use Rattle.npr_srh.specs.Seg6LocalTunnel as OfSeg6Local
use Rattle.npr_srh.specs.Seg6Mode.{ModeTable, modes}
use Rattle.npr_srh.specs.Seg6Tunnel as OfSeg6
use Rattle.npr_encapsulation.specs.IpTunnel as OfIp
use Rattle.npr_encapsulation.specs.MplsTunnel as OfMpls
use Rattle.npr_encapsulation.specs.XfrmTunnel as OfXfrm
use Rattle.npr_encapsulation.specs.Wrapped.{wrapped, kept}
use Rattle.npr_encapsulation.specs.declared.encap.RouteLwTunnelEncap.{RouteLwTunnelEncap}
use Rattle.npr_encapsulation.specs.declared.encap.RouteLwTunnelEncap.TheVariants.{Mpls as HasMpls, Seg6 as HasSeg6, Ip as HasIp}
use Rattle.npr_encapsulation.specs.declared.encap.RouteLwTunnelEncap.TheVariants.{Ip6 as HasIp6, Ioam6 as HasIoam6}
use Rattle.npr_encapsulation.specs.declared.encap.RouteLwTunnelEncap.TheVariants.{Rpl as HasRpl, Seg6Local as HasSeg6Local, Xfrm as HasXfrm, Other}
use Rattle.npr_encapsulation.specs.declared.encap_type.RouteLwEnCapType.{RouteLwEnCapType}
use Rattle.npr_encapsulation.specs.declared.encap_type.RouteLwEnCapType.TheVariants.{Mpls, Seg6, Ip, Ip6, Ioam6, Rpl, Seg6Local, Xfrm}

-- what a member is, without where it lies in memory
pub data Meaning : Type 0 where
  mpls : OfMpls.family.Meaning → Meaning
  seg6 : OfSeg6.family.Meaning → Meaning
  ip : OfIp.family.Meaning → Meaning
  ip6 : OfIp.family6.Meaning → Meaning
  ioam6 : OfIoam6.family.Meaning → Meaning
  rpl : OfRpl.family.Meaning → Meaning
  seg6_local : OfSeg6Local.family.Meaning → Meaning
  xfrm : OfXfrm.family.Meaning → Meaning
  other : Item → Meaning

abbrev pub meaning_of : RouteLwTunnelEncap → Meaning
meaning_of (HasMpls m) = mpls (OfMpls.family.meaning m)
meaning_of (HasSeg6 m) = seg6 (OfSeg6.family.meaning m)
meaning_of (HasIp m) = ip (OfIp.family.meaning m)
meaning_of (HasIp6 m) = ip6 (OfIp.family6.meaning m)
meaning_of (HasIoam6 m) = ioam6 (OfIoam6.family.meaning m)
meaning_of (HasRpl m) = rpl (OfRpl.family.meaning m)
meaning_of (HasSeg6Local m) = seg6_local (OfSeg6Local.family.meaning m)
meaning_of (HasXfrm m) = xfrm (OfXfrm.family.meaning m)
meaning_of (Other d) = other d

-- where each stands in its tunnel's table, whatever the type
abbrev pub slot_of : Meaning → Slot
slot_of (mpls m) = slot_at OfMpls.table m
slot_of (seg6 m) = slot_at (OfSeg6.table modes) m
slot_of (ip m) = slot_at OfIp.table m
slot_of (ip6 m) = slot_at OfIp.table6 m
slot_of (ioam6 m) = slot_at OfIoam6.table m
slot_of (rpl m) = slot_at OfRpl.table m
slot_of (seg6_local m) = slot_at OfSeg6Local.table m
slot_of (xfrm m) = slot_at OfXfrm.table m
slot_of (other x) = slot_other x

-- how each is written
abbrev pub writing : Writing Meaning
writing = writing_by slot_of

-- what each is seen as
abbrev pub member_shown : ModeTable → Item → Meaning → Shown
member_shown by x (mpls m) = OfMpls.attributes.seeing.sees x m
member_shown by x (seg6 m) = (OfSeg6.attributes_by by).seeing.sees x m
member_shown by x (ip m) = OfIp.attributes.seeing.sees x m
member_shown by x (ip6 m) = OfIp.attributes6.seeing.sees x m
member_shown by x (ioam6 m) = OfIoam6.attributes.seeing.sees x m
member_shown by x (rpl m) = OfRpl.attributes.seeing.sees x m
member_shown by x (seg6_local m) = OfSeg6Local.attributes.seeing.sees x m
member_shown by x (xfrm m) = OfXfrm.attributes.seeing.sees x m
member_shown by x (other y) = are_bytes y.value

-- the family of a type, by a table of SEG6 modes
unfoldable pub encapsulation_by : ModeTable → RouteLwEnCapType → Reading writing
encapsulation_by by Mpls = wrapped OfMpls.attributes mpls writing (member_shown by) (λ m. refl) (λ m. refl) (λ x m. refl)
encapsulation_by by Seg6 = wrapped (OfSeg6.attributes_by by) seg6 writing (member_shown by) (λ m. refl) (λ m. refl) (λ x m. refl)
encapsulation_by by Ip = wrapped OfIp.attributes ip writing (member_shown by) (λ m. refl) (λ m. refl) (λ x m. refl)
encapsulation_by by Ip6 = wrapped OfIp.attributes6 ip6 writing (member_shown by) (λ m. refl) (λ m. refl) (λ x m. refl)
encapsulation_by by Ioam6 = wrapped OfIoam6.attributes ioam6 writing (member_shown by) (λ m. refl) (λ m. refl) (λ x m. refl)
encapsulation_by by Rpl = wrapped OfRpl.attributes rpl writing (member_shown by) (λ m. refl) (λ m. refl) (λ x m. refl)
encapsulation_by by Seg6Local = wrapped OfSeg6Local.attributes seg6_local writing (member_shown by) (λ m. refl) (λ m. refl) (λ x m. refl)
encapsulation_by by Xfrm = wrapped OfXfrm.attributes xfrm writing (member_shown by) (λ m. refl) (λ m. refl) (λ x m. refl)
encapsulation_by by type = wrapped kept other writing (member_shown by) (λ x. refl) (λ x. refl) (λ x m. refl)

-- and by that of today
abbrev pub encapsulation : RouteLwEnCapType → Reading writing
encapsulation type = encapsulation_by modes type

abbrev pub family : Family RouteLwTunnelEncap RouteLwEnCapType
family = family_of meaning_of encapsulation

-- the member with its header, if it is a SEG6 one, brought up to the table of today
abbrev pub normalized : Meaning → Meaning
normalized (seg6 m) = seg6 (OfSeg6.normalized m)
normalized m = m
