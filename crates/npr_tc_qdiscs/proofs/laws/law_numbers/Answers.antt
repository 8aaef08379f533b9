use Rattle.npr_tc_qdiscs.specs.CakeAckFilter.{cake_ack_filters}
use Rattle.npr_tc_qdiscs.specs.CakeAtm.{cake_atms}
use Rattle.npr_tc_qdiscs.specs.CakeDiffservMode.{cake_diffserv_modes}
use Rattle.npr_tc_qdiscs.specs.CakeFlowMode.{cake_flow_modes}
use Rattle.npr_tc_qdiscs.proofs.laws.law_numbers.Goals as goal

pub returns : goal.returns
returns c = record {
  diffserv = cake_diffserv_modes.back;
  atm = cake_atms.back;
  flow = cake_flow_modes.back;
  ack_filter = cake_ack_filters.back;
}
