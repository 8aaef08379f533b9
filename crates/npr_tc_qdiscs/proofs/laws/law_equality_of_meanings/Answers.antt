use Rattle.npr_tc_qdiscs.proofs.EqualityLaws.{stab_data_equality, fq_codel_equality, ingress_equality, stab_equality, htb_equality}
use Rattle.npr_tc_qdiscs.proofs.EqualityLaws.{tbf_equality, red_equality, fq_equality, netem_loss_equality, netem_option_equality}
use Rattle.npr_tc_qdiscs.proofs.EqualityLaws.{sfq_qopt_equality, fq_weights_equality, netem_equality, cake_equality, mqprio_entry_equality}
use Rattle.npr_tc_qdiscs.proofs.EqualityLaws.{mqprio_option_equality, mqprio_equality}
use Rattle.npr_tc_qdiscs.proofs.laws.law_equality_of_meanings.Goals as goal

pub returns : goal.returns
returns c = record {
  stab_data = stab_data_equality;
  fq_codel = fq_codel_equality;
  ingress = ingress_equality;
  stab = stab_equality;
  htb = htb_equality;
  tbf = tbf_equality;
  red = red_equality;
  fq = fq_equality;
  netem_loss = netem_loss_equality;
  netem_option = netem_option_equality;
  sfq_qopt = sfq_qopt_equality;
  fq_weights = fq_weights_equality;
  netem = netem_equality;
  cake = cake_equality;
  mqprio_entry = mqprio_entry_equality;
  mqprio_option = mqprio_option_equality;
  mqprio = mqprio_equality;
}
