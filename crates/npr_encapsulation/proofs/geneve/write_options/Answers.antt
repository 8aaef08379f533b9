use Rattle.std.proofs.Common.{◌∷◌, [], refl}
use Rattle.npr_encapsulation.specs.Geneve.{option_of, option_bytes}
use Rattle.npr_base.proofs.Writing.{room_for, wrote_next}
use Rattle.npr_encapsulation.proofs.Options.{bytes, bytes-both, unfit-none}
use Rattle.npr_encapsulation.proofs.geneve.write_options.Goals as goal

pub write_option-at-requires-clause-room : goal.write_option-at-requires-clause-room
write_option-at-requires-clause-room c =
    room_for (bytes option_of) (bytes-both option_of) c.args.options.now c.loop-option.option-index c.option-item.result c.loop-option-test.true c.option-item.is
    c.args.out.now c.requires.room c.loop-option.out c.loop-option.at c.loop-option.invariant.len c.loop-option.auto.out

pub loop-option-preserved : goal.loop-option-preserved
loop-option-preserved c =
    let x = c.option-item.result in
    let i = c.loop-option.option-index in
    let all = c.args.options.now in
    let past = c.loop-option.invariant in
    let wrote =
    wrote_next (bytes option_of) (bytes-both option_of) all i x c.loop-option-test.true c.option-item.is c.args.out.now c.requires.room c.loop-option.out
    c.loop-option.at past.len past.after c.write_option-at.new.out (option_bytes (option_of x ∷ [])) c.write_option-at.result refl
    c.write_option-at.ensures.len c.write_option-at.ensures.after in
    record {
      fits = (unfit-none option_of all i x c.loop-option-test.true c.option-item.is past.fits).1;
      len = wrote.len;
      after = wrote.after;
    }
