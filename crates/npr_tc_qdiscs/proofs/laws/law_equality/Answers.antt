use Rattle.npr_tc_qdiscs.proofs.EqualityLaws.{size_spec_equality, htb_opt_equality, htb_glob_equality, tbf_qopt_equality, red_qopt_equality}
use Rattle.npr_tc_qdiscs.proofs.EqualityLaws.{prio_qopt_equality, fifo_qopt_equality, netem_qopt_equality, netem_corr_equality, netem_reorder_equality}
use Rattle.npr_tc_qdiscs.proofs.EqualityLaws.{netem_corrupt_equality, netem_rate_equality, netem_slot_equality, netem_gi_model_equality, netem_ge_model_equality}
use Rattle.npr_tc_qdiscs.proofs.EqualityLaws.{mqprio_qopt_equality, cake_diffserv_mode_equality, cake_atm_equality, cake_flow_mode_equality, cake_ack_filter_equality}
use Rattle.npr_tc_qdiscs.proofs.laws.law_equality.Goals as goal

pub returns : goal.returns
returns c = record {
  size_spec = size_spec_equality;
  htb_opt = htb_opt_equality;
  htb_glob = htb_glob_equality;
  tbf_qopt = tbf_qopt_equality;
  red_qopt = red_qopt_equality;
  prio_qopt = prio_qopt_equality;
  fifo_qopt = fifo_qopt_equality;
  netem_qopt = netem_qopt_equality;
  netem_corr = netem_corr_equality;
  netem_reorder = netem_reorder_equality;
  netem_corrupt = netem_corrupt_equality;
  netem_rate = netem_rate_equality;
  netem_slot = netem_slot_equality;
  netem_gi_model = netem_gi_model_equality;
  netem_ge_model = netem_ge_model_equality;
  mqprio_qopt = mqprio_qopt_equality;
  cake_diffserv_mode = cake_diffserv_mode_equality;
  cake_atm = cake_atm_equality;
  cake_flow_mode = cake_flow_mode_equality;
  cake_ack_filter = cake_ack_filter_equality;
}
