use Rattle.npr_tc.proofs.EqualityLaws.{flags_equality, with_selector_equality, header_equality, header_buffer_equality, action_header_equality}
use Rattle.npr_tc.proofs.laws.law_equality.Goals as goal

pub returns-clause-flags : goal.returns-clause-flags
returns-clause-flags c = flags_equality

pub returns-clause-with_selector : goal.returns-clause-with_selector
returns-clause-with_selector c = with_selector_equality

pub returns-clause-header : goal.returns-clause-header
returns-clause-header c = header_equality

pub returns-clause-header_buffer : goal.returns-clause-header_buffer
returns-clause-header_buffer c = header_buffer_equality

pub returns-clause-action_header : goal.returns-clause-action_header
returns-clause-action_header c = action_header_equality
