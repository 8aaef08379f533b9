use Rattle.std.proofs.Common.{rules, ◌^◌, ◌-◌, [], false}
use Rattle.std.proofs.Output.{has_written_of_eq}
use Rattle.std.specs.Fmt.{HasWritten, padded_integral, format_spec, digits}
use Rattle.npr_base.proofs.Texts.{six_wide}
use Rattle.npr_base.proofs.text.write_six_hex_digits.Goals as goal

pub returns : goal.returns
returns g c = λ plain ok.
    let ds = digits 16 false c.args.number in
    let wrote : HasWritten g.W.Write.write_str_gives c.args.f.now (padded_integral (format_spec 32 0 4 6 (2 ^ 64 - 1)) false [] ds) c.write.new.self = search rules in
    has_written_of_eq _ _ _ _ _ (six_wide ds) wrote
