use Rattle.std.proofs.Common.{map, refl}
use Rattle.npr_tc_values.proofs.KeptUnder.{IsPlain, kept_under}
use Rattle.npr_tc_values.specs.CakeStat as OfCakeStat
use Rattle.npr_tc_values.specs.FqCodelXstats.{fq_codel_xstats_of}
use Rattle.npr_tc_values.proofs.xstats.TcXstats.read.Goals as goal

pub returns-in_Continue-data_read-data_read-clause-ok : goal.returns-in_Continue-data_read-data_read-clause-ok
returns-in_Continue-data_read-data_read-clause-ok c =
    let read = c.in_Continue-data_read-data_read in
    rw c.in-Htb-data_read.is (read.field-0.bytes.items, read.ensures.ok, refl)

pub returns-in_Continue-data_read-data_read-2-clause-ok : goal.returns-in_Continue-data_read-data_read-2-clause-ok
returns-in_Continue-data_read-data_read-2-clause-ok c =
    let read = c.in_Continue-data_read-data_read-2 in
    rw c.in-Fq-data_read.is (read.field-0.bytes.items, read.ensures.ok, refl)

pub returns-in_Continue-data_read-data_read-3-clause-ok : goal.returns-in_Continue-data_read-data_read-3-clause-ok
returns-in_Continue-data_read-data_read-3-clause-ok c =
    let read = c.in_Continue-data_read-data_read-3 in
    rw c.in-Red-data_read.is (read.field-0.bytes.items, read.ensures.ok, refl)

pub returns-in_Continue-data_read-data_read-4-clause-ok : goal.returns-in_Continue-data_read-data_read-4-clause-ok
returns-in_Continue-data_read-data_read-4-clause-ok c =
    let read = c.in_Continue-data_read-data_read-4 in
    rw c.in-Netem-data_read.is (read.field-0.bytes.items, read.ensures.ok, refl)

pub returns-in_Continue-data_read-data_read-5-clause-ok : goal.returns-in_Continue-data_read-data_read-5-clause-ok
returns-in_Continue-data_read-data_read-5-clause-ok c =
    let read = c.in_Continue-data_read-data_read-5 in
    rw c.in-Sfq-data_read.is (read.field-0.bytes.items, read.ensures.ok, refl)

pub returns-in_Continue-data_read-data_read-6-clause-ok : goal.returns-in_Continue-data_read-data_read-6-clause-ok
returns-in_Continue-data_read-data_read-6-clause-ok c =
    let read = c.in_Continue-data_read-data_read-6 in
    rw c.in-Cake-data_read.is (map OfCakeStat.family.meaning read.field-0.items, read.ensures.ok, refl)

pub returns-in_ok-parse-in-FqCodel-clause-ok : goal.returns-in_ok-parse-in-FqCodel-clause-ok
returns-in_ok-parse-in-FqCodel-clause-ok c =
    let read = c.in_ok-parse-in-FqCodel in
    rw c.in-FqCodel.is (fq_codel_xstats_of read.field-0, read.ensures.ok, refl)

pub returns-in_ok-read_bytes-in_default-clause-ok : goal.returns-in_ok-read_bytes-in_default-clause-ok
returns-in_ok-read_bytes-in_default-clause-ok c =
    let read = c.in_ok-read_bytes-in_default in
    let plain : IsPlain c.args.form = record {
      fq_codel = c.in_default.not-FqCodel;
      htb = c.in_default.not-Htb;
      fq = c.in_default.not-Fq;
      red = c.in_default.not-Red;
      netem = c.in_default.not-Netem;
      sfq = c.in_default.not-Sfq;
      cake = c.in_default.not-Cake;
    } in
    rw (kept_under c.args.form plain) (read.field-0.items, read.ensures.ok, refl)

pub returns-in_ok-read_bytes-in_default-clause-exact : goal.returns-in_ok-read_bytes-in_default-clause-exact
returns-in_ok-read_bytes-in_default-clause-exact c answered =
    let plain : IsPlain c.args.form = record {
      fq_codel = c.in_default.not-FqCodel;
      htb = c.in_default.not-Htb;
      fq = c.in_default.not-Fq;
      red = c.in_default.not-Red;
      netem = c.in_default.not-Netem;
      sfq = c.in_default.not-Sfq;
      cake = c.in_default.not-Cake;
    } in
    rw (kept_under c.args.form plain) refl
