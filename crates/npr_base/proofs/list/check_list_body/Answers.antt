use Rattle.std.proofs.Common.{◌≡◌, ◌+◌, ap, arith, sym, ◌∙◌, length, take}
use Rattle.npr_base.specs.Framing.{encoding}
use Rattle.npr_base.specs.Lists.{encodings}
use Rattle.npr_base.proofs.Checking.{checked-ok, first-past}
use Rattle.npr_base.proofs.Joined.{joined-more}
use Rattle.npr_base.proofs.list.check_list_body.Goals as goal
use Rattle.npr_base.specs.Family.{shaped_item, shaped_unfit}

pub loop-x-preserved : goal.loop-x-preserved
loop-x-preserved g c =
    let x = c.x-item.result in
    let i = c.loop-x.x-index in
    let all = c.args.list.now in
    let len = c.in_ok-total.field-0 in
    let item = shaped_item g.A.Nla.shape in
    let k = checked-ok (shaped_unfit g.A.Nla.shape x) (length (encoding (item x))) len (sym c.in_ok-total.was ∙ c.check.ensures) in
    let size : length (encodings item (take i all)) + len ≡ length (encodings item (take (i + 1) all)) =
    ap (λ n. length (encodings item (take i all)) + n) k.1 ∙ sym (joined-more (λ y. encoding (item y)) all i x c.loop-x-test.true c.x-item.is) in
    record {
      fits = c.loop-x.invariant.fits ∙ first-past (shaped_unfit g.A.Nla.shape) all i x c.loop-x-test.true c.x-item.is k.0;
      sum = ap (λ n. n + len) c.loop-x.invariant.sum ∙ size;
      small = omega (arith, c.loop-x.invariant.small);
    }
