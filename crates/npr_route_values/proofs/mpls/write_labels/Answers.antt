use Rattle.std.proofs.Common.{false, get_or, [], ap, ◌∙◌, arith, length-append}
use Rattle.std.proofs.lemmas.List.{append-nil, get_or_default}
use Rattle.std.specs.Int.{w32, to_be_bytes}
use Rattle.npr_base.specs.Blocks.{block_bytes}
use Rattle.npr_base.proofs.Joined.{joined-append}
use Rattle.npr_base.proofs.Writing.{room_for, wrote_next}
use Rattle.npr_route_values.specs.declared.mpls.MplsLabel.{MplsLabel}
use Rattle.npr_route_values.specs.MplsCodec.{mpls_label}
use Rattle.npr_route_values.proofs.mpls.write_labels.Goals as goal

-- what an index past the end answers
abbrev none : MplsLabel
none = record { label = 0; traffic_class = 0; bottom_of_stack = false; ttl = 0 }

pub write_array-at-requires : goal.write_array-at-requires
write_array-at-requires c =
    let i = c.loop-entry.entry-index in
    let all = c.args.labels.now in
    let x = get_or all i none in
    let room =
    room_for (block_bytes mpls_label) (joined-append mpls_label.encode) all i x c.loop-entry-test.true (get_or_default all i none x c.loop-entry-test.true)
    c.args.out.now c.requires c.loop-entry.out c.loop-entry.at c.loop-entry.invariant.len c.loop-entry.auto.out in
    omega (arith, room, length-append (mpls_label.encode x) [])

pub loop-entry-preserved : goal.loop-entry-preserved
loop-entry-preserved c =
    let i = c.loop-entry.entry-index in
    let all = c.args.labels.now in
    let x = get_or all i none in
    let past = c.loop-entry.invariant in
    let is = c.to_be_bytes.ensures ∙ ap (to_be_bytes w32) c.from.ensures in
    let wrote =
    wrote_next (block_bytes mpls_label) (joined-append mpls_label.encode) all i x c.loop-entry-test.true (get_or_default all i none x c.loop-entry-test.true)
    c.args.out.now c.requires c.loop-entry.out c.loop-entry.at past.len past.after c.write_array-at.new.out (mpls_label.encode x) c.write_array-at.result
    (append-nil (mpls_label.encode x)) (omega (arith, c.write_array-at.ensures.len)) (rw is at c.write_array-at.ensures.after) in
    record { len = wrote.len; after = wrote.after }
