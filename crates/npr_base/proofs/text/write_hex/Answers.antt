use Rattle.std.proofs.Common.{rules, arith, ap, ◌++◌, take, get_or, ◌^◌, ◌-◌, [], ◌∙◌, length, ◌<◌}
use Rattle.std.proofs.Output.{has_written_append, has_written_of_eq}
use Rattle.std.proofs.lemmas.Fmt.{hex_byte}
use Rattle.std.specs.Fmt.{HasWritten, padded_integral, format_spec, digits}
use Rattle.std.specs.Prelude.{false}
use Rattle.npr_base.specs.Text.{hex_text, hex_of_byte}
use Rattle.npr_base.proofs.Texts.{next_part}
use Rattle.npr_base.proofs.text.write_hex.Goals as goal

pub loop-byte-preserved : goal.loop-byte-preserved
loop-byte-preserved g c = λ plain.
    let i = c.loop-byte.byte-index in
    let bytes = c.args.bytes.now in
    let byte = get_or bytes i 0 in
    let inside : i < length bytes = omega arith in
    let two = hex_byte false byte (omega (arith, c.type_inv.bytes i)) in
    let wrote : HasWritten g.W.Write.write_str_gives c.loop-byte.f (padded_integral (format_spec 32 0 4 2 (2 ^ 64 - 1)) false [] (digits 16 false byte)) c.write.new.self = search rules in
    has_written_of_eq _ _ _ _ _ (ap (λ t. hex_text (take i bytes) ++ t) two ∙ next_part hex_of_byte bytes i 0 inside) (has_written_append _ _ _ _ _ _ (c.loop-byte.invariant plain) wrote)
