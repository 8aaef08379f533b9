use Rattle.std.proofs.Common.{arith}
use Rattle.npr_base.specs.Message.{view}
use Rattle.npr_base.proofs.Messages.{ok_one, ok_coherent, ok_again, ok_grows, ok_deep, refused_no_message}
use Rattle.npr_base.proofs.message.«Message+H+H+Attribute».parse_counted.Goals as goal

pub returns-clause-one : goal.returns-clause-one
returns-clause-one g c = ok_one g.H.Header.grammar (view g.H.Header.grammar) c.args.bytes.now c.parse_counted_body.result c.parse_counted_body.ensures.ok

pub returns-clause-coherent : goal.returns-clause-coherent
returns-clause-coherent g c = ok_coherent g.H.Header.grammar (view g.H.Header.grammar) c.args.bytes.now (λ i. omega (arith, c.type_inv.bytes i)) c.parse_counted_body.result c.parse_counted_body.ensures.ok

pub returns-clause-none : goal.returns-clause-none
returns-clause-none g c = refused_no_message g.H.Header.grammar c.args.bytes.now c.parse_counted_body.result c.parse_counted_body.ensures.refused

pub returns-clause-again : goal.returns-clause-again
returns-clause-again g c = ok_again g.H.Header.grammar (view g.H.Header.grammar) c.args.bytes.now c.parse_counted_body.result c.parse_counted_body.ensures.ok

pub returns-clause-growth : goal.returns-clause-growth
returns-clause-growth g c = ok_grows g.H.Header.grammar (view g.H.Header.grammar) c.args.bytes.now (λ i. omega (arith, c.type_inv.bytes i)) c.parse_counted_body.result c.parse_counted_body.ensures.ok

pub returns-clause-depth : goal.returns-clause-depth
returns-clause-depth g c = ok_deep g.H.Header.grammar (view g.H.Header.grammar) c.args.bytes.now c.parse_counted_body.result c.parse_counted_body.ensures.ok
