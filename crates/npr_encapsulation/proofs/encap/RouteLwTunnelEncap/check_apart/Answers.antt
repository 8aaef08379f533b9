use Rattle.std.specs.Prelude.{IfSome, IfOk, IfErr, Option, Some, None, Result}
use Rattle.std.proofs.Common.{refl}
use Rattle.std.proofs.lemmas.Result.{IfOk-weaker, IfErr-weaker}
use Rattle.npr_base.specs.Framing.{Item}
use Rattle.npr_base.specs.declared.refusal.DecodeError.{DecodeError}
use Rattle.npr_srh.specs.Ioam6Tunnel as OfIoam6
use Rattle.npr_srh.specs.RplTunnel as OfRpl
use Rattle.npr_srh.specs.Seg6LocalTunnel as OfSeg6Local
use Rattle.npr_srh.specs.Seg6Tunnel as OfSeg6
use Rattle.npr_encapsulation.specs.Encapsulation.{Meaning, seg6, ioam6, rpl, seg6_local, encapsulation, encapsulation_by}
use Rattle.npr_encapsulation.specs.declared.encap_type.RouteLwEnCapType.TheVariants.{Seg6, Ioam6, Rpl, Seg6Local}
use Rattle.npr_encapsulation.proofs.encap.RouteLwTunnelEncap.check_apart.Goals as goal

-- what one reading or fault makes another makes it of any answer
answered : {P Q : Type 0} (r : Option (Result (Unit {0}) DecodeError)) → (P → Q) → IfSome r (λ s. IfOk s (λ u. P)) → IfSome r (λ s. IfOk s (λ u. Q))
answered None f p = p
answered (Some s) f p = IfOk-weaker s _ _ (λ u. f) p

refused : {P Q : DecodeError → Type 0} (r : Option (Result (Unit {0}) DecodeError)) → ((e : DecodeError) → P e → Q e) → IfSome r (λ s. IfErr s P)
    → IfSome r (λ s. IfErr s Q)
refused None f p = p
refused (Some s) f p = IfErr-weaker s _ _ f p

seg6_read : (x : Item) → (m : OfSeg6.family.Meaning) × OfSeg6.attributes.Reads x m → (n : Meaning) × (encapsulation Seg6).Reads x n
unfolding encapsulation_by
seg6_read x p = (seg6 p.0, (p.0, p.1, refl))

seg6_wrong : (x : Item) (e : DecodeError) → OfSeg6.attributes.Faulty x e → (encapsulation Seg6).Faulty x e
unfolding encapsulation_by
seg6_wrong x e p = p

pub returns-in-Seg6-clause-ok : goal.returns-in-Seg6-clause-ok
returns-in-Seg6-clause-ok c = rw c.in-Seg6.is (answered c.check_apart.result (seg6_read c.args.item.now) c.check_apart.ensures.ok)

pub returns-in-Seg6-clause-refused : goal.returns-in-Seg6-clause-refused
returns-in-Seg6-clause-refused c = rw c.in-Seg6.is (refused c.check_apart.result (seg6_wrong c.args.item.now) c.check_apart.ensures.refused)

ioam6_read : (x : Item) → (m : OfIoam6.family.Meaning) × OfIoam6.attributes.Reads x m → (n : Meaning) × (encapsulation Ioam6).Reads x n
unfolding encapsulation_by
ioam6_read x p = (ioam6 p.0, (p.0, p.1, refl))

ioam6_wrong : (x : Item) (e : DecodeError) → OfIoam6.attributes.Faulty x e → (encapsulation Ioam6).Faulty x e
unfolding encapsulation_by
ioam6_wrong x e p = p

pub returns-in-Ioam6-clause-ok : goal.returns-in-Ioam6-clause-ok
returns-in-Ioam6-clause-ok c =
    let check = c.check_apart-in-Ioam6 in
    rw c.in-Ioam6.is (answered check.result (ioam6_read c.args.item.now) check.ensures.ok)

pub returns-in-Ioam6-clause-refused : goal.returns-in-Ioam6-clause-refused
returns-in-Ioam6-clause-refused c =
    let check = c.check_apart-in-Ioam6 in
    rw c.in-Ioam6.is (refused check.result (ioam6_wrong c.args.item.now) check.ensures.refused)

rpl_read : (x : Item) → (m : OfRpl.family.Meaning) × OfRpl.attributes.Reads x m → (n : Meaning) × (encapsulation Rpl).Reads x n
unfolding encapsulation_by
rpl_read x p = (rpl p.0, (p.0, p.1, refl))

rpl_wrong : (x : Item) (e : DecodeError) → OfRpl.attributes.Faulty x e → (encapsulation Rpl).Faulty x e
unfolding encapsulation_by
rpl_wrong x e p = p

pub returns-in-Rpl-clause-ok : goal.returns-in-Rpl-clause-ok
returns-in-Rpl-clause-ok c =
    let check = c.check_apart-in-Rpl in
    rw c.in-Rpl.is (answered check.result (rpl_read c.args.item.now) check.ensures.ok)

pub returns-in-Rpl-clause-refused : goal.returns-in-Rpl-clause-refused
returns-in-Rpl-clause-refused c =
    let check = c.check_apart-in-Rpl in
    rw c.in-Rpl.is (refused check.result (rpl_wrong c.args.item.now) check.ensures.refused)

seg6_local_read : (x : Item) → (m : OfSeg6Local.family.Meaning) × OfSeg6Local.attributes.Reads x m → (n : Meaning) × (encapsulation Seg6Local).Reads x n
unfolding encapsulation_by
seg6_local_read x p = (seg6_local p.0, (p.0, p.1, refl))

seg6_local_wrong : (x : Item) (e : DecodeError) → OfSeg6Local.attributes.Faulty x e → (encapsulation Seg6Local).Faulty x e
unfolding encapsulation_by
seg6_local_wrong x e p = p

pub returns-in-Seg6Local-clause-ok : goal.returns-in-Seg6Local-clause-ok
returns-in-Seg6Local-clause-ok c =
    let check = c.check_apart-in-Seg6Local in
    rw c.in-Seg6Local.is (answered check.result (seg6_local_read c.args.item.now) check.ensures.ok)

pub returns-in-Seg6Local-clause-refused : goal.returns-in-Seg6Local-clause-refused
returns-in-Seg6Local-clause-refused c =
    let check = c.check_apart-in-Seg6Local in
    rw c.in-Seg6Local.is (refused check.result (seg6_local_wrong c.args.item.now) check.ensures.refused)
