use Rattle.std.proofs.Common.{map, refl}
use Rattle.npr_tc_filters.specs.Basic as OfBasic
use Rattle.npr_tc_filters.specs.Bpf as OfBpf
use Rattle.npr_tc_filters.specs.Flower as OfFlower
use Rattle.npr_tc_filters.specs.Fw as OfFw
use Rattle.npr_tc_filters.specs.MatchAll as OfMatchAll
use Rattle.npr_tc_filters.specs.U32Option as OfU32
use Rattle.npr_tc_qdiscs.specs.Cake as OfCake
use Rattle.npr_tc_qdiscs.specs.Fq as OfFq
use Rattle.npr_tc_qdiscs.specs.FqCodel as OfFqCodel
use Rattle.npr_tc_qdiscs.specs.Htb as OfHtb
use Rattle.npr_tc_qdiscs.specs.Ingress as OfIngress
use Rattle.npr_tc_qdiscs.specs.Red as OfRed
use Rattle.npr_tc_qdiscs.specs.Tbf as OfTbf
use Rattle.npr_tc_qdiscs.specs.Netem.{netem_of}
use Rattle.npr_tc.proofs.option.TcOption.read.Goals as goal

pub returns-in_Continue-data_read-data_read-clause-ok : goal.returns-in_Continue-data_read-data_read-clause-ok
returns-in_Continue-data_read-data_read-clause-ok c =
    let read = c.in_Continue-data_read-data_read in
    rw c.in-FqCodel-data_read.is (map OfFqCodel.family.meaning read.field-0.items, read.ensures.ok, refl)

pub returns-in_Continue-data_read-data_read-2-clause-ok : goal.returns-in_Continue-data_read-data_read-2-clause-ok
returns-in_Continue-data_read-data_read-2-clause-ok c =
    let read = c.in_Continue-data_read-data_read-2 in
    rw c.in-Ingress-data_read.is (map OfIngress.family.meaning read.field-0.items, read.ensures.ok, refl)

pub returns-in_Continue-data_read-data_read-3-clause-ok : goal.returns-in_Continue-data_read-data_read-3-clause-ok
returns-in_Continue-data_read-data_read-3-clause-ok c =
    let read = c.in_Continue-data_read-data_read-3 in
    rw c.in-Clsact-data_read.is (map OfIngress.family.meaning read.field-0.items, read.ensures.ok, refl)

pub returns-in_Continue-data_read-data_read-4-clause-ok : goal.returns-in_Continue-data_read-data_read-4-clause-ok
returns-in_Continue-data_read-data_read-4-clause-ok c =
    let read = c.in_Continue-data_read-data_read-4 in
    rw c.in-U32-data_read.is (map OfU32.family.meaning read.field-0.items, read.ensures.ok, refl)

pub returns-in_Continue-data_read-data_read-5-clause-ok : goal.returns-in_Continue-data_read-data_read-5-clause-ok
returns-in_Continue-data_read-data_read-5-clause-ok c =
    let read = c.in_Continue-data_read-data_read-5 in
    rw c.in-Flower-data_read.is (map OfFlower.family.meaning read.field-0.items, read.ensures.ok, refl)

pub returns-in_Continue-data_read-data_read-6-clause-ok : goal.returns-in_Continue-data_read-data_read-6-clause-ok
returns-in_Continue-data_read-data_read-6-clause-ok c =
    let read = c.in_Continue-data_read-data_read-6 in
    rw c.in-MatchAll-data_read.is (map OfMatchAll.family.meaning read.field-0.items, read.ensures.ok, refl)

pub returns-in_Continue-data_read-data_read-7-clause-ok : goal.returns-in_Continue-data_read-data_read-7-clause-ok
returns-in_Continue-data_read-data_read-7-clause-ok c =
    let read = c.in_Continue-data_read-data_read-7 in
    rw c.in-Htb-data_read.is (map OfHtb.family.meaning read.field-0.items, read.ensures.ok, refl)

pub returns-in_Continue-data_read-data_read-8-clause-ok : goal.returns-in_Continue-data_read-data_read-8-clause-ok
returns-in_Continue-data_read-data_read-8-clause-ok c =
    let read = c.in_Continue-data_read-data_read-8 in
    rw c.in-Tbf-data_read.is (map OfTbf.family.meaning read.field-0.items, read.ensures.ok, refl)

pub returns-in_Continue-data_read-data_read-9-clause-ok : goal.returns-in_Continue-data_read-data_read-9-clause-ok
returns-in_Continue-data_read-data_read-9-clause-ok c =
    let read = c.in_Continue-data_read-data_read-9 in
    rw c.in-Red-data_read.is (map OfRed.family.meaning read.field-0.items, read.ensures.ok, refl)

pub returns-in_Continue-data_read-data_read-10-clause-ok : goal.returns-in_Continue-data_read-data_read-10-clause-ok
returns-in_Continue-data_read-data_read-10-clause-ok c =
    let read = c.in_Continue-data_read-data_read-10 in
    rw c.in-Fq-data_read.is (map OfFq.family.meaning read.field-0.items, read.ensures.ok, refl)

pub returns-in_Continue-data_read-data_read-11-clause-ok : goal.returns-in_Continue-data_read-data_read-11-clause-ok
returns-in_Continue-data_read-data_read-11-clause-ok c =
    let read = c.in_Continue-data_read-data_read-11 in
    rw c.in-Netem-data_read.is (netem_of read.field-0, read.ensures.ok, refl)

pub returns-in_Continue-data_read-data_read-12-clause-ok : goal.returns-in_Continue-data_read-data_read-12-clause-ok
returns-in_Continue-data_read-data_read-12-clause-ok c =
    let read = c.in_Continue-data_read-data_read-12 in
    rw c.in-Prio-data_read.is (read.field-0, read.ensures.ok, refl)

pub returns-in_Continue-data_read-data_read-13-clause-ok : goal.returns-in_Continue-data_read-data_read-13-clause-ok
returns-in_Continue-data_read-data_read-13-clause-ok c =
    let read = c.in_Continue-data_read-data_read-13 in
    rw c.in-Fifo-data_read.is (read.field-0, read.ensures.ok, refl)

pub returns-in_Continue-data_read-data_read-14-clause-ok : goal.returns-in_Continue-data_read-data_read-14-clause-ok
returns-in_Continue-data_read-data_read-14-clause-ok c =
    let read = c.in_Continue-data_read-data_read-14 in
    rw c.in-Fw-data_read.is (map OfFw.family.meaning read.field-0.items, read.ensures.ok, refl)

pub returns-in_Continue-data_read-data_read-15-clause-ok : goal.returns-in_Continue-data_read-data_read-15-clause-ok
returns-in_Continue-data_read-data_read-15-clause-ok c =
    let read = c.in_Continue-data_read-data_read-15 in
    rw c.in-Bpf-data_read.is (map OfBpf.family.meaning read.field-0.items, read.ensures.ok, refl)

pub returns-in_Continue-data_read-data_read-16-clause-ok : goal.returns-in_Continue-data_read-data_read-16-clause-ok
returns-in_Continue-data_read-data_read-16-clause-ok c =
    let read = c.in_Continue-data_read-data_read-16 in
    rw c.in-Cake-data_read.is (map OfCake.family.meaning read.field-0.items, read.ensures.ok, refl)

pub returns-in_Continue-data_read-data_read-17-clause-ok : goal.returns-in_Continue-data_read-data_read-17-clause-ok
returns-in_Continue-data_read-data_read-17-clause-ok c =
    let read = c.in_Continue-data_read-data_read-17 in
    rw c.in-Sfq-data_read.is (read.field-0.bytes.items, read.ensures.ok, refl)

pub returns-in_Continue-data_read-data_read-18-clause-ok : goal.returns-in_Continue-data_read-data_read-18-clause-ok
returns-in_Continue-data_read-data_read-18-clause-ok c =
    let read = c.in_Continue-data_read-data_read-18 in
    rw c.in-Basic-data_read.is (map OfBasic.family.meaning read.field-0.items, read.ensures.ok, refl)
