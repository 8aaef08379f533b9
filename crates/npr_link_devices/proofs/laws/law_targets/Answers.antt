use Rattle.npr_link_devices.specs.Targets.{targets-numbered}
use Rattle.npr_link_devices.proofs.laws.law_targets.Goals as goal

pub returns : goal.returns
returns c = record {
  numbered = targets-numbered;
}
