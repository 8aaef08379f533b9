use Rattle.std.proofs.Common.{◌≡◌, ◌+◌, ◌∷◌, [], ap, arith, sym, ◌∙◌, length, map, take, length-append}
use Rattle.npr_base.proofs.Checking.{checked-ok}
use Rattle.npr_encapsulation.specs.Geneve.{option_of, option_bytes, option_unfit}
use Rattle.npr_encapsulation.proofs.Options.{bytes-next, unfit-past}
use Rattle.npr_encapsulation.proofs.geneve.check_options.Goals as goal

pub loop-option-preserved : goal.loop-option-preserved
loop-option-preserved c =
    let x = c.option-item.result in
    let i = c.loop-option.option-index in
    let all = c.args.options.now in
    let done = option_bytes (map option_of (take i all)) in
    let one = option_bytes (option_of x ∷ []) in
    let k = checked-ok (option_unfit (option_of x)) (length one) c.in_ok-total.field-0 (sym c.in_ok-total.was ∙ c.check_option.ensures) in
    let size : length done + c.in_ok-total.field-0 ≡ length (option_bytes (map option_of (take (i + 1) all))) = ap (λ n. length done + n) k.1 ∙ sym (ap length (bytes-next option_of all i x c.loop-option-test.true c.option-item.is) ∙ length-append done one) in
    record {
      fits = c.loop-option.invariant.fits ∙ unfit-past option_of all i x c.loop-option-test.true c.option-item.is k.0;
      sum = ap (λ n. n + c.in_ok-total.field-0) c.loop-option.invariant.sum ∙ size;
      small = omega (arith, c.loop-option.invariant.small);
    }
