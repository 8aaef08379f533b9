use Rattle.std.proofs.Common.{arith}
use Rattle.npr_encapsulation.specs.Encapsulation.{meaning_of as member_of, normalized as normalized_member}
use Rattle.npr_route.proofs.Normalizing.{normalized_none, normalized_more, normalized_all}
use Rattle.npr_route.proofs.modes.normalize_members.Goals as goal

pub loop-member-init : goal.loop-member-init
loop-member-init c = normalized_none member_of normalized_member c.args.members.now

pub loop-member-preserved : goal.loop-member-preserved
loop-member-preserved c =
    normalized_more member_of normalized_member c.args.members.now c.loop-member.members c.loop-member.member-index c.member-item.result c.normalize.new.self (omega arith)
    c.normalize.ensures c.loop-member.invariant

pub returns : goal.returns
returns c = normalized_all member_of normalized_member c.args.members.now c.loop-member.members c.loop-member.member-index (omega arith) (omega arith) c.loop-member.invariant
