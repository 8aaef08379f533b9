-- A search for the name of a link passes attributes of other numbers one by one.
use Rattle.std.proofs.Common.{◌≡◌, ◌≢◌, List, [], ◌∷◌, ◌++◌, ℕ, Some, None, refl, inr, arith}
use Rattle.std.proofs.lemmas.Bool.{ne_eqb}
use Rattle.std.proofs.lemmas.List.Elements.{All-push}
use Rattle.netlink_packet_route.specs.Codec.{leading}
use Rattle.netlink_packet_route.specs.Framing.{Item, Front, number_of}
use Rattle.netlink_packet_route.specs.FrontLaws.{Passes-more}
use Rattle.netlink_packet_route.specs.MessageKind.{Begins}
use Rattle.netlink_packet_route.specs.LinkHeader.{header_buffer}
use Rattle.netlink_packet_route.specs.declared.kind.MessageKind.TheVariants as Kind
use Rattle.netlink_packet_route.specs.declared.nests.Nest.{Nest}
use Rattle.netlink_packet_route.specs.declared.link.LinkMessageBuffer.{LinkMessageBuffer}
use Rattle.netlink_show.specs.Interfaces.{LearnsName, LearnsNew, Nameless, TellsName, ifname, is_up}
use Rattle.netlink_show.specs.declared.interfaces.Interfaces.{Interfaces}

-- nothing is passed before the first
pub none-passed : (bytes : List ℕ) → Nameless bytes bytes
none-passed bytes = record { passed = []; passes = refl; others = λ k d inside. absurd (omega (arith, inside)) }

-- an attribute of another number is one more that was passed
pub one-more : (bytes rest more : List ℕ) (x : Item) → Nameless bytes rest → Front rest x more → number_of x.kind ≢ ifname → Nameless bytes more
one-more bytes rest more x before front other = record {
  passed = before.passed ++ x ∷ [];
  passes = Passes-more before.passed x bytes rest more before.passes front;
  others = All-push (λ (y : Item). number_of y.kind ≢ ifname) before.passed x before.others other;
}

-- a link that is there and has a number and a name is learned
pub learns : (old new : Interfaces) (bytes rest name : List ℕ) (nest : Nest) (header : LinkMessageBuffer) → (leading header_buffer).Reads bytes header
    → Begins Kind.Link bytes nest rest → TellsName nest rest (Some name) → header.link_index ≢ 0
    → LearnsName old header.link_index name (is_up header) new → LearnsNew old bytes new
learns old new bytes rest name nest header reads begins tells some learned =
    inr (header, reads, (nest, rest, begins, Some name, tells, (rw (ne_eqb header.link_index 0 some) learned)))

-- one without a number teaches nothing
pub learns-no-number : (old : Interfaces) (bytes rest name : List ℕ) (nest : Nest) (header : LinkMessageBuffer)
    → (leading header_buffer).Reads bytes header → Begins Kind.Link bytes nest rest → TellsName nest rest (Some name) → header.link_index ≡ 0
    → LearnsNew old bytes old
learns-no-number old bytes rest name nest header reads begins tells none =
    inr (header, reads, (nest, rest, begins, Some name, tells, (rw none refl)))

-- nor does one without a name
pub learns-no-name : (old : Interfaces) (bytes rest : List ℕ) (nest : Nest) (header : LinkMessageBuffer) → (leading header_buffer).Reads bytes header
    → Begins Kind.Link bytes nest rest → TellsName nest rest None → LearnsNew old bytes old
learns-no-name old bytes rest nest header reads begins tells = inr (header, reads, (nest, rest, begins, None, tells, refl))
