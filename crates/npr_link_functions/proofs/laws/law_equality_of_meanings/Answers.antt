use Rattle.npr_link_functions.proofs.EqualityLaws.{stats_equality, vlan_list_equality, info_equality, link_info_equality, link_port_equality, port_equality}
use Rattle.npr_link_functions.proofs.laws.law_equality_of_meanings.Goals as goal

pub returns : goal.returns
returns c = record {
  stats = stats_equality;
  vlan_list = vlan_list_equality;
  info = info_equality;
  link_info = link_info_equality;
  port = port_equality;
  link_port = link_port_equality;
}
