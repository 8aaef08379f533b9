use Rattle.netlink_packet_core.proofs.Conversations.{Talks-over, over-nothing}
use Rattle.netlink_packet_core.proofs.WholeWalks.{Stand-one}
use Rattle.netlink_packet_core.specs.Conversation.{after}
use Rattle.netlink_packet_core.proofs.laws.law_conversation.Goals as goal

pub returns : goal.returns
returns c = record {
  stand = Stand-one;
  answers = λ t datagrams steps given u stand talks. Talks-over datagrams t steps given u stand talks;
  end = λ t s steps e. over-nothing (after t s) steps e;
}
