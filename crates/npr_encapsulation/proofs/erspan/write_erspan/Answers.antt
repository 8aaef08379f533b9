use Rattle.std.proofs.Common.{◌<◌, length, sym, ap, ◌∙◌, arith}
use Rattle.npr_encapsulation.specs.ErspanOptions.{family, option}
use Rattle.npr_encapsulation.specs.ErspanOptions.{version_of, index_of, direction_of, hardware_id_of}
use Rattle.npr_encapsulation.specs.declared.erspan.RouteErspanOpt.TheVariants.{Other}
use Rattle.npr_encapsulation.proofs.Texts.{last_of-more}
use Rattle.npr_encapsulation.proofs.erspan.write_erspan.Goals as goal
use Rattle.npr_encapsulation.proofs.erspan.write_erspan.Goals.{in-Ver, in-Index, in-Dir, in-Hwid, in-Other}

pub loop-option-preserved : goal.loop-option-preserved
loop-option-preserved g c =
    let before = c.loop-option.invariant in
    let inside : c.loop-option.option-index < length c.args.options.now = omega arith in
    let more = last_of-more c.args.options.now c.loop-option.option-index c.option-item.result inside c.option-item.is in
    elim c.match-option.branch [
      | in-Ver w ↦
          let last = more (option 1 w.in-Ver.x) (ap family.meaning w.in-Ver.is) in
          record {
            version = w.version-is ∙ sym (last version_of);
            index = w.index-is ∙ before.index ∙ sym (last index_of);
            direction = w.direction-is ∙ before.direction ∙ sym (last direction_of);
            hardware_id = w.hardware_id-is ∙ before.hardware_id ∙ sym (last hardware_id_of);
          }
      | in-Index w ↦
          let last = more (option 2 w.in-Index.x) (ap family.meaning w.in-Index.is) in
          record {
            version = w.version-is ∙ before.version ∙ sym (last version_of);
            index = w.index-is ∙ sym (last index_of);
            direction = w.direction-is ∙ before.direction ∙ sym (last direction_of);
            hardware_id = w.hardware_id-is ∙ before.hardware_id ∙ sym (last hardware_id_of);
          }
      | in-Dir w ↦
          let last = more (option 3 w.in-Dir.x) (ap family.meaning w.in-Dir.is) in
          record {
            version = w.version-is ∙ before.version ∙ sym (last version_of);
            index = w.index-is ∙ before.index ∙ sym (last index_of);
            direction = w.direction-is ∙ sym (last direction_of);
            hardware_id = w.hardware_id-is ∙ before.hardware_id ∙ sym (last hardware_id_of);
          }
      | in-Hwid w ↦
          let last = more (option 4 w.in-Hwid.x) (ap family.meaning w.in-Hwid.is) in
          record {
            version = w.version-is ∙ before.version ∙ sym (last version_of);
            index = w.index-is ∙ before.index ∙ sym (last index_of);
            direction = w.direction-is ∙ before.direction ∙ sym (last direction_of);
            hardware_id = w.hardware_id-is ∙ sym (last hardware_id_of);
          }
      | in-Other w ↦
          let last = more (family.meaning (Other w.in-Other.field-0)) (ap family.meaning w.in-Other.is) in
          record {
            version = w.version-is ∙ before.version ∙ sym (last version_of);
            index = w.index-is ∙ before.index ∙ sym (last index_of);
            direction = w.direction-is ∙ before.direction ∙ sym (last direction_of);
            hardware_id = w.hardware_id-is ∙ before.hardware_id ∙ sym (last hardware_id_of);
          }
    ]
