use Rattle.npr_tc_values.proofs.EqualityLaws.{qd_stats_equality, cl_stats_equality, fq_codel_xstats_equality, xstats_equality, htb_xstats_equality}
use Rattle.npr_tc_values.proofs.EqualityLaws.{fq_qd_stats_equality, red_xstats_equality, netem_xstats_equality, sfq_xstats_equality, cake_tin_stat_equality}
use Rattle.npr_tc_values.proofs.EqualityLaws.{cake_tin_equality, cake_stat_equality, stats2_equality}
use Rattle.npr_tc_values.proofs.laws.law_equality_of_meanings.Goals as goal

pub returns : goal.returns
returns c = record {
  qd_stats = qd_stats_equality;
  cl_stats = cl_stats_equality;
  fq_codel_xstats = fq_codel_xstats_equality;
  xstats = xstats_equality;
  htb_xstats = htb_xstats_equality;
  fq_qd_stats = fq_qd_stats_equality;
  red_xstats = red_xstats_equality;
  netem_xstats = netem_xstats_equality;
  sfq_xstats = sfq_xstats_equality;
  cake_tin_stat = cake_tin_stat_equality;
  cake_tin = cake_tin_equality;
  cake_stat = cake_stat_equality;
  stats2 = stats2_equality;
}
