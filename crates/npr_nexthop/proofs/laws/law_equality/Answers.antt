use Rattle.npr_nexthop.proofs.EqualityLaws.{group_entry_equality, group_type_equality, header_equality, op_flags_equality}
use Rattle.npr_nexthop.proofs.laws.law_equality.Goals as goal

pub returns-clause-group_type : goal.returns-clause-group_type
returns-clause-group_type c = group_type_equality

pub returns-clause-op_flags : goal.returns-clause-op_flags
returns-clause-op_flags c = op_flags_equality

pub returns-clause-group_entry : goal.returns-clause-group_entry
returns-clause-group_entry c = group_entry_equality

pub returns-clause-header : goal.returns-clause-header
returns-clause-header c = header_equality
