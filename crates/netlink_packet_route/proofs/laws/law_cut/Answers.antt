use Rattle.netlink_packet_route.proofs.laws.law_cut.Goals as goal

pub returns-clause-address : goal.returns-clause-address
returns-clause-address c = c.law_cut.ensures tt

pub returns-clause-rule : goal.returns-clause-rule
returns-clause-rule c = c.law_cut-3.ensures tt

pub returns-clause-nsid : goal.returns-clause-nsid
returns-clause-nsid c = c.law_cut-7.ensures tt

pub returns-clause-netconf : goal.returns-clause-netconf
returns-clause-netconf c = c.law_cut-8.ensures tt

pub returns-clause-address_label : goal.returns-clause-address_label
returns-clause-address_label c = c.law_cut-9.ensures tt

pub returns-clause-neighbour_table : goal.returns-clause-neighbour_table
returns-clause-neighbour_table c = c.law_cut-10.ensures tt

pub returns-clause-prefix : goal.returns-clause-prefix
returns-clause-prefix c = c.law_cut-11.ensures tt

pub returns-clause-tc_action : goal.returns-clause-tc_action
returns-clause-tc_action c = c.law_cut-13.ensures tt

pub returns-clause-stats : goal.returns-clause-stats
returns-clause-stats c = c.law_cut-14.ensures tt
