use Rattle.npr_namespace.proofs.EqualityLaws.{nsid_header_equality, nsid_buffer_equality, netconf_header_equality, netconf_buffer_equality}
use Rattle.npr_namespace.proofs.laws.law_equality.Goals as goal

pub returns : goal.returns
returns c = record {
  nsid_header = nsid_header_equality;
  nsid_buffer = nsid_buffer_equality;
  netconf_header = netconf_header_equality;
  netconf_buffer = netconf_buffer_equality;
}
