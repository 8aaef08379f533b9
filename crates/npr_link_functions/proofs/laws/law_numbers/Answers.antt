use Rattle.npr_link_functions.specs.LinkState.{vf_link_states}
use Rattle.npr_link_functions.proofs.laws.law_numbers.Goals as goal

pub returns : goal.returns
returns c = record { states = vf_link_states.back }
