use Rattle.npr_tc_values.proofs.EqualityLaws.{handle_equality, bitfield_equality, form_equality, stats_equality, stats_basic_equality}
use Rattle.npr_tc_values.proofs.EqualityLaws.{stats_queue_equality, stats_rate_est_equality, stats_rate_est64_equality, estimator_equality, rate_spec_equality}
use Rattle.npr_tc_values.proofs.laws.law_equality.Goals as goal

pub returns : goal.returns
returns c = record {
  handle = handle_equality;
  bitfield = bitfield_equality;
  form = form_equality;
  stats = stats_equality;
  basic = stats_basic_equality;
  queue = stats_queue_equality;
  rate_est = stats_rate_est_equality;
  rate_est64 = stats_rate_est64_equality;
  estimator = estimator_equality;
  rate_spec = rate_spec_equality;
}
