use Rattle.std.proofs.Common.{rules}
use Rattle.npr_srh.proofs.EqualityLaws.{mode_equality, action_equality, ioam6_mode_equality, trace_equality}
use Rattle.npr_srh.proofs.EqualityLaws.{seg6_header_equality, local_header_equality, rpl_header_equality}
use Rattle.npr_srh.proofs.EqualityLaws.{seg6_equality, local_equality, rpl_equality, ioam6_equality}
use Rattle.npr_srh.proofs.laws.law_equality.Goals as goal

pub returns : goal.returns
returns c = record {
  seg6_mode = mode_equality;
  message_buffer = search rules;
  action = action_equality;
  ioam6_mode = ioam6_mode_equality;
  trace = trace_equality;
  seg6_header = seg6_header_equality;
  local_header = local_header_equality;
  rpl_header = rpl_header_equality;
  seg6 = seg6_equality;
  local = local_equality;
  rpl = rpl_equality;
  ioam6 = ioam6_equality;
}
