use Rattle.netlink_report.proofs.running.place_of.Goals as goal

pub returns-in-Refused-clause-refused : goal.returns-in-Refused-clause-refused
returns-in-Refused-clause-refused c = λ e same. c.fault_in.ensures e (c.requires e same)
