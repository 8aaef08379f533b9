-- What is left of a list of attributes, and next hops in it: the walk that takes no memory goes from one to the next.
--     Pending                what is left: the next hops of the attribute in hand, and the attributes behind it
--     AreLeft, LeftWrong     all of it is well formed, and its first fault
--     LeftLeads              what is left decides what all is
--     HopLeads               the attributes of the next hop and what is left behind it do
use Rattle.std.specs.Prelude.{ℕ, ◌+◌, ◌<◌, ◌≤◌, ◌⊎◌, List, length}
use Rattle.npr_base.specs.declared.refusal.DecodeError.{DecodeError}
use Rattle.netlink_packet_route.specs.NestLists.{IsListAt, ListFaultAt, AreHopsAt, HopsWrongAt}
use Rattle.netlink_packet_route.specs.declared.nests.Nest.{Nest}

-- in a list
pub record Pending : Type 0 where
  pub nest : Nest
  pub hops : List ℕ
  pub rest : List ℕ

abbrev pub AreLeft : Pending → Type 0
AreLeft p = AreHopsAt p.nest p.hops × IsListAt p.nest p.rest

abbrev pub LeftWrong : Pending → DecodeError → Type 0
LeftWrong p e = ((0 < length p.hops) × HopsWrongAt p.nest p.hops e) ⊎ (AreHopsAt p.nest p.hops × ListFaultAt p.nest p.rest e)

-- in bytes
abbrev pub size_of : Pending → ℕ
size_of p = length p.hops + length p.rest

pub record LeftLeads (all left : Pending) : Type 0 where
  pub within : size_of left ≤ size_of all
  pub is : AreLeft left → AreLeft all
  pub wrong : (e : DecodeError) → LeftWrong left e → LeftWrong all e

pub record HopLeads (all left inner : Pending) : Type 0 where
  pub fewer : size_of left < size_of all
  pub inside : size_of inner < size_of all
  pub is : AreLeft inner → AreLeft left → AreLeft all
  pub wrong : (e : DecodeError) → LeftWrong inner e → LeftWrong all e
  pub later : (e : DecodeError) → AreLeft inner → LeftWrong left e → LeftWrong all e
