use Rattle.std.proofs.Common.{rules}
use Rattle.npr_tc_actions.proofs.OptionReads.{options_read}
use Rattle.npr_tc_actions.proofs.action_option.TcActionOption.read.Goals as goal

pub returns-in_Continue-data_read-data_read-clause-ok : goal.returns-in_Continue-data_read-data_read-clause-ok
returns-in_Continue-data_read-data_read-clause-ok c = search (rules, options_read)

pub returns-in_Continue-data_read-data_read-2-clause-ok : goal.returns-in_Continue-data_read-data_read-2-clause-ok
returns-in_Continue-data_read-data_read-2-clause-ok c = search (rules, options_read)

pub returns-in_Continue-data_read-data_read-3-clause-ok : goal.returns-in_Continue-data_read-data_read-3-clause-ok
returns-in_Continue-data_read-data_read-3-clause-ok c = search (rules, options_read)

pub returns-in_Continue-data_read-data_read-4-clause-ok : goal.returns-in_Continue-data_read-data_read-4-clause-ok
returns-in_Continue-data_read-data_read-4-clause-ok c = search (rules, options_read)

pub returns-in_Continue-data_read-data_read-5-clause-ok : goal.returns-in_Continue-data_read-data_read-5-clause-ok
returns-in_Continue-data_read-data_read-5-clause-ok c = search (rules, options_read)

pub returns-in_Continue-data_read-data_read-6-clause-ok : goal.returns-in_Continue-data_read-data_read-6-clause-ok
returns-in_Continue-data_read-data_read-6-clause-ok c = search (rules, options_read)

pub returns-in_Continue-data_read-data_read-7-clause-ok : goal.returns-in_Continue-data_read-data_read-7-clause-ok
returns-in_Continue-data_read-data_read-7-clause-ok c = search (rules, options_read)

pub returns-in_Continue-data_read-data_read-8-clause-ok : goal.returns-in_Continue-data_read-data_read-8-clause-ok
returns-in_Continue-data_read-data_read-8-clause-ok c = search (rules, options_read)

pub returns-in_Continue-data_read-data_read-9-clause-ok : goal.returns-in_Continue-data_read-data_read-9-clause-ok
returns-in_Continue-data_read-data_read-9-clause-ok c = search (rules, options_read)

pub returns-in_Continue-data_read-data_read-10-clause-ok : goal.returns-in_Continue-data_read-data_read-10-clause-ok
returns-in_Continue-data_read-data_read-10-clause-ok c = search (rules, options_read)

pub returns-in_Continue-data_read-data_read-11-clause-ok : goal.returns-in_Continue-data_read-data_read-11-clause-ok
returns-in_Continue-data_read-data_read-11-clause-ok c = search (rules, options_read)

pub returns-in_Continue-data_read-data_read-12-clause-ok : goal.returns-in_Continue-data_read-data_read-12-clause-ok
returns-in_Continue-data_read-data_read-12-clause-ok c = search (rules, options_read)

pub returns-in_ok-read_bytes-in-Kept-clause-ok : goal.returns-in_ok-read_bytes-in-Kept-clause-ok
returns-in_ok-read_bytes-in-Kept-clause-ok c = search (rules, options_read)
