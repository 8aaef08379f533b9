-- How a program takes a final zero off.
use Rattle.npr_base.specs.lemmas.Name.{unterminated-nil, unterminated-zero, unterminated-other}

pub ruleset unterminated = (unterminated-nil, unterminated-zero, unterminated-other)
