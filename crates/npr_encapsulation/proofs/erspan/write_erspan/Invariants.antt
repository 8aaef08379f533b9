use Rattle.std.proofs.Common.{◌≡◌, map, take}
use Rattle.npr_encapsulation.specs.ErspanOptions.{family, last_of, version_of, index_of, direction_of, hardware_id_of}
use Rattle.npr_encapsulation.proofs.erspan.write_erspan.Given as goal

abbrev pub invariant-loop-option : goal.invariant-loop-option
invariant-loop-option g l =
    let seen = map family.meaning (take l.option-index l.options) in
    record {
      version : l.version ≡ last_of version_of seen;
      index : l.index ≡ last_of index_of seen;
      direction : l.direction ≡ last_of direction_of seen;
      hardware_id : l.hardware_id ≡ last_of hardware_id_of seen;
    }
