use Rattle.npr_srh.specs.Seg6Mode.{first_modes}
use Rattle.npr_route.proofs.NormalizedLaws.{message-bytes, message-unfit, message-again, message-coherent, message-read}
use Rattle.npr_route.proofs.laws.law_newer.Goals as goal

pub returns : goal.returns
returns c = record {
  bytes = message-bytes;
  fits = message-unfit;
  again = message-again;
  coherent = message-coherent first_modes;
  read = message-read first_modes;
}
