use Rattle.std.proofs.Common.{◌≡◌, length, ap, arith, ◌∙◌}
use Rattle.std.proofs.lemmas.List.{take_rest}
use Rattle.npr_tc_qdiscs.specs.MqprioQopt.{mqprio_qopt}
use Rattle.npr_tc_qdiscs.specs.WordsField.{words_at, words-from}
use Rattle.npr_tc_qdiscs.proofs.mqprio_qopt.TcMqprioQopt.parse.Goals as goal

pub returns-clause-ok : goal.returns-clause-ok
returns-clause-ok c =
    let b = c.in_ok-b.b.now in
    let long : length b ≡ 82 = omega (arith, c.in_ok-b.ensures.len) in
    let counts : c.words.result ≡ words_at 16 b 18 = (rw take_rest at c.words.ensures) ∙ words-from 16 18 b (omega (arith, long)) in
    let offsets : c.words-2.result ≡ words_at 16 b 50 = (rw take_rest at c.words-2.ensures) ∙ words-from 16 50 b (omega (arith, long)) in
    rw (counts, offsets) (c.in_ok-b.ensures.ok.0, ap mqprio_qopt.decode c.in_ok-b.ensures.ok.1)
