use Rattle.std.proofs.Common.{refl, sym, subst, ◌∙◌}
use Rattle.std.proofs.lemmas.Result.{IfOk-weaker}
use Rattle.npr_base.specs.Message.{view}
use Rattle.npr_link.specs.Message.{links}
use Rattle.npr_neighbour.specs.NeighbourTableMessage.{neighbour_tables}
use Rattle.npr_address.specs.PrefixMessage.{prefixes}
use Rattle.npr_stats.specs.Message.{stats_messages}
use Rattle.netlink_packet_route.specs.RouteNetlinkMessage.{Meaning, ReadsUnder, message, meaning_of}
use Rattle.netlink_packet_route.specs.declared.message_type.MessageType.{MessageType}
use Rattle.netlink_packet_route.specs.declared.message_type.MessageType.TheVariants.{SetLink, NewPrefix, NewStats}
use Rattle.netlink_packet_route.specs.declared.message_type.MessageType.TheVariants.{NewNeighbourTable, GetNeighbourTable, SetNeighbourTable}
use Rattle.netlink_packet_route.proofs.message.read_under.Goals as goal

pub returns-in-Of-clause-ok : goal.returns-in-Of-clause-ok
returns-in-Of-clause-ok c =
    let bytes = c.args.payload.now in
    let same = sym (sym c.of.ensures ∙ c.in-Of.is) in
    IfOk-weaker c.read_on.result _ _
    (λ m reads. subst (λ (t : MessageType). ReadsUnder t c.args.message_type bytes (meaning_of m)) same reads) c.read_on.ensures.ok

pub returns-in_ok-parse-in-SetLink-clause-ok : goal.returns-in_ok-parse-in-SetLink-clause-ok
returns-in_ok-parse-in-SetLink-clause-ok c =
    let read = c.in_ok-parse-in-SetLink in
    let x : Meaning = message SetLink (view links read.field-0) in
    let same = sym (sym c.of.ensures ∙ c.in-SetLink.is) in
    subst (λ (t : MessageType). ReadsUnder t c.args.message_type c.args.payload.now x) same (view links read.field-0, read.ensures.ok, refl)

pub returns-in_ok-parse-in-NewPrefix-clause-ok : goal.returns-in_ok-parse-in-NewPrefix-clause-ok
returns-in_ok-parse-in-NewPrefix-clause-ok c =
    let read = c.in_ok-parse-in-NewPrefix in
    let x : Meaning = message NewPrefix (view prefixes read.field-0) in
    let same = sym (sym c.of.ensures ∙ c.in-NewPrefix.is) in
    subst (λ (t : MessageType). ReadsUnder t c.args.message_type c.args.payload.now x) same (view prefixes read.field-0, read.ensures.ok, refl)

pub returns-in_ok-parse-in-NewStats-clause-ok : goal.returns-in_ok-parse-in-NewStats-clause-ok
returns-in_ok-parse-in-NewStats-clause-ok c =
    let read = c.in_ok-parse-in-NewStats in
    let x : Meaning = message NewStats (view stats_messages read.field-0) in
    let same = sym (sym c.of.ensures ∙ c.in-NewStats.is) in
    subst (λ (t : MessageType). ReadsUnder t c.args.message_type c.args.payload.now x) same (view stats_messages read.field-0, read.ensures.ok, refl)

pub returns-in_ok-parse-in-NewNeighbourTable-clause-ok : goal.returns-in_ok-parse-in-NewNeighbourTable-clause-ok
returns-in_ok-parse-in-NewNeighbourTable-clause-ok c =
    let read = c.in_ok-parse-in-NewNeighbourTable in
    let x : Meaning = message NewNeighbourTable (view neighbour_tables read.field-0) in
    let same = sym (sym c.of.ensures ∙ c.in-NewNeighbourTable.is) in
    subst (λ (t : MessageType). ReadsUnder t c.args.message_type c.args.payload.now x) same (view neighbour_tables read.field-0, read.ensures.ok, refl)

pub returns-in_ok-parse-in-GetNeighbourTable-clause-ok : goal.returns-in_ok-parse-in-GetNeighbourTable-clause-ok
returns-in_ok-parse-in-GetNeighbourTable-clause-ok c =
    let read = c.in_ok-parse-in-GetNeighbourTable in
    let x : Meaning = message GetNeighbourTable (view neighbour_tables read.field-0) in
    let same = sym (sym c.of.ensures ∙ c.in-GetNeighbourTable.is) in
    subst (λ (t : MessageType). ReadsUnder t c.args.message_type c.args.payload.now x) same (view neighbour_tables read.field-0, read.ensures.ok, refl)

pub returns-in_ok-parse-in-SetNeighbourTable-clause-ok : goal.returns-in_ok-parse-in-SetNeighbourTable-clause-ok
returns-in_ok-parse-in-SetNeighbourTable-clause-ok c =
    let read = c.in_ok-parse-in-SetNeighbourTable in
    let x : Meaning = message SetNeighbourTable (view neighbour_tables read.field-0) in
    let same = sym (sym c.of.ensures ∙ c.in-SetNeighbourTable.is) in
    subst (λ (t : MessageType). ReadsUnder t c.args.message_type c.args.payload.now x) same (view neighbour_tables read.field-0, read.ensures.ok, refl)
