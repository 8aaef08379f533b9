use Rattle.std.proofs.Common.{◌≡◌, ap, arith, Err}
use Rattle.std.proofs.lemmas.Result.{err_from_is_err_and}
use Rattle.netlink_report.specs.declared.error.RunError.TheVariants.{Memory}
use Rattle.netlink_report.proofs.KnownBytes.{something_left, something_read}
use Rattle.netlink_report.proofs.input.read_all.Goals as goal

pub returns-in_err-read_some-clause-memory : goal.returns-in_err-read_some-clause-memory
returns-in_err-read_some-clause-memory g c =
    let told = err_from_is_err_and c.from_residual.result c.from_residual.ensures.1 in
    λ failed.
    let same : c.in_err-read_some.field-0.0 ≡ Memory = cc in
    something_left (g.R.Read.remaining c.args.reader.now.inner) (g.R.Read.remaining c.loop.reader.inner) c.loop.bytes.items c.loop.invariant.taken (c.in_err-read_some.ensures.memory (ap Err same))

pub returns-clause-memory : goal.returns-clause-memory
returns-clause-memory g c = λ failed.
    something_read (g.R.Read.remaining c.args.reader.now.inner) (g.R.Read.remaining c.loop.reader.inner) c.loop.bytes.items c.loop.invariant.taken (omega (arith, c.loop.invariant.turns, c.loop-test.false))
