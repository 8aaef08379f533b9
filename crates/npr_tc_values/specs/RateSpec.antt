-- A rate, as tables of rates are made for it (linux/pkt_sched.h, struct tc_ratespec): two bytes, a number of 2, a signed one of 2, one
-- of 2, and one of 4.
use Rattle.std.proofs.Common.{refl}
use Rattle.npr_base.specs.Fields.{Field, Part, one_byte, le_two, le_four, ◌holding◌, ◌fills◌, ◌then◌, last, structure}
use Rattle.npr_base.specs.Layout.{Layout}
use Rattle.npr_base.specs.MoreFields.{signed_two}
use Rattle.npr_tc_values.specs.contracts.rate_spec.TcRateSpec.{struct}
use Rattle.npr_tc_values.specs.declared.rate_spec.TcRateSpec.{TcRateSpec}
use denote.Struct.Values.{Values}

-- in this order, little endian
abbrev pub parts : Part TcRateSpec (Values struct.parts)
parts =
    TcRateSpec.cell_log fills one_byte then TcRateSpec.linklayer fills one_byte then TcRateSpec.overhead fills le_two
    then TcRateSpec.cell_align fills signed_two then TcRateSpec.mpu fills le_two then last (TcRateSpec.rate fills le_four)

abbrev pub rate_spec : Layout TcRateSpec
rate_spec = structure struct parts refl (λ v. tt)

-- where it stands among other fields
abbrev pub rate_field : Field TcRateSpec
rate_field = parts.field holding (record { of = λ v. struct.make v tt; number = struct.as_values; back = λ v. struct.beta v tt })
