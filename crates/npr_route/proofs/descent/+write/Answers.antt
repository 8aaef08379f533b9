use Rattle.std.specs.Int.{w16, w32, to_le_bytes}
use Rattle.std.proofs.lemmas.List.{append-nil}
use Rattle.std.proofs.Common.{rules, ◌≡◌, [], ◌∷◌, ◌++◌, ℕ, ◌+◌, ◌-◌, ◌≤◌, ap, sym, ◌∙◌, subst, refl, arith, length, take, drop, length-append, length-take, length-drop}
use borrow.Rule.Slice.PartMut.{put_mid}
use Rattle.npr_base.specs.Framing.{Item, Writes, encoding, marked}
use Rattle.npr_base.specs.Lists.{encodings, joined}
use Rattle.npr_base.proofs.Checking.{first-none}
use Rattle.npr_base.proofs.Joined.{joined-append}
use Rattle.npr_base.proofs.Writing.{Writes-encoding, Writes-before, room_for, wrote_next}
use Rattle.npr_base.specs.lemmas.List.{length-encoding}
use Rattle.npr_route.specs.Attribute.{shape_of}
use Rattle.npr_route.specs.AttributeView.{meaning_of, attribute_item, attribute_unfit, next_hop_bytes, next_hop_unfit}
use Rattle.npr_route.specs.declared.attribute.RouteAttribute.TheViews.{the_lemmas}
use Rattle.npr_route.proofs.Views.{head_of, hop_bytes-length}
use Rattle.npr_route.proofs.HopWriting.{next_hop_bytes-is, hop_fits, multi_path_fits, multi_path_value}
use Rattle.npr_route.proofs.descent.+write.Goals as goal

pub write_attribute-returns-clause-after : goal.write_attribute-returns-clause-after
write_attribute-returns-clause-after t c =
    let m = meaning_of c.args.attribute.now in
    let x : Item = (shape_of m).item in
    let out = c.args.out.now in
    let body = c.write_inside-len.new.out in
    let len = c.write_inside-len.result in
    let mid = put_mid 4 (length out - 4) out body in
    let kind : c.marked_kind-kind.result ≡ marked (shape_of m).nested x.kind = rw (c.marked_kind-kind.ensures, c.is_nested.ensures, c.kind.ensures) refl in
    let framed = subst (λ (k : ℕ). Writes mid c.frame.new.out (encoding (record { kind = k; value = take len (drop 4 mid) }))) kind c.frame.ensures.after in
    Writes-encoding out body c.frame.new.out x.value (marked (shape_of m).nested x.kind) len c.write_inside-len.ensures.len c.requires.room c.write_inside-len.ensures.after framed

pub write_attributes-write_attribute-at-requires : goal.write_attributes-write_attribute-at-requires
write_attributes-write_attribute-at-requires t c =
    let x = c.attribute-item.result in
    let i = c.loop-attribute.attribute-index in
    let all = c.args.list.now in
    let past = c.loop-attribute.invariant in
    let room =
    room_for (encodings attribute_item) (joined-append (λ y. encoding (attribute_item y))) all i x c.loop-attribute-test.true c.attribute-item.is
    c.args.out.now c.requires.room c.loop-attribute.out c.loop-attribute.at past.len c.loop-attribute.auto.out in (
      search (rules, the_lemmas),
      (
        (first-none attribute_unfit all i x c.loop-attribute-test.true c.attribute-item.is past.fits).0,
        omega (arith, room, length-append (encoding (attribute_item x)) [], length-encoding (attribute_item x)),
      ),
    )

pub write_attributes-loop-attribute-preserved : goal.write_attributes-loop-attribute-preserved
write_attributes-loop-attribute-preserved t c =
    let x = c.attribute-item.result in
    let i = c.loop-attribute.attribute-index in
    let all = c.args.list.now in
    let past = c.loop-attribute.invariant in
    let wrote =
    wrote_next (encodings attribute_item) (joined-append (λ y. encoding (attribute_item y))) all i x c.loop-attribute-test.true c.attribute-item.is
    c.args.out.now c.requires.room c.loop-attribute.out c.loop-attribute.at past.len past.after c.write_attribute-at.new.out (encoding (attribute_item x))
    c.write_attribute-at.result (append-nil (encoding (attribute_item x)))
    (c.write_attribute-at.ensures.len ∙ sym (length-encoding (attribute_item x))) c.write_attribute-at.ensures.after in
    record {
      fits = (first-none attribute_unfit all i x c.loop-attribute-test.true c.attribute-item.is past.fits).1;
      len = wrote.len;
      after = wrote.after;
    }

pub write_hop-write_attributes-len-requires : goal.write_hop-write_attributes-len-requires
write_hop-write_attributes-len-requires t c =
    let h = c.args.hop.now in
    let out = c.args.out.now in
    let fits = hop_fits h c.requires.fits in (
      search (rules, the_lemmas),
      (rw c.as_slice.ensures.value fits.0, rw c.as_slice.ensures.value (omega (arith, c.requires.room, hop_bytes-length h, length-take (length out - 8) (drop 8 out), length-drop 8 out))),
    )

pub write_hop-overflow_cast-header : goal.write_hop-overflow_cast-header
write_hop-overflow_cast-header t c =
    let fits = hop_fits c.args.hop.now c.requires.fits in
    omega (arith, fits.1, c.write_attributes-len.ensures.len, ap (λ xs. length (encodings attribute_item xs)) c.as_slice.ensures.value)

pub write_hop-returns-clause-len : goal.write_hop-returns-clause-len
write_hop-returns-clause-len t c =
    omega (arith, hop_bytes-length c.args.hop.now, c.write_attributes-len.ensures.len, ap (λ xs. length (encodings attribute_item xs)) c.as_slice.ensures.value)

pub write_hop-returns-clause-after : goal.write_hop-returns-clause-after
write_hop-returns-clause-after t c =
    let h = c.args.hop.now in
    let out = c.args.out.now in
    let mid = put_mid 8 (length out - 8) out c.write_attributes-len.new.out in
    let text = encodings attribute_item h.attributes.items in
    let head = head_of h in
    let header = to_le_bytes w16 (8 + length text) ++ (head.flags ∷ head.hops ∷ to_le_bytes w32 head.interface_index) in
    let room : 8 + length text ≤ length out = omega (arith, c.requires.room, hop_bytes-length h) in
    let inside = subst (λ xs. Writes (take (length out - 8) (drop 8 out)) c.write_attributes-len.new.out (encodings attribute_item xs)) c.as_slice.ensures.value c.write_attributes-len.ensures.after in
    let len : 8 + c.write_attributes-len.result ≡ 8 + length text = ap (λ n. 8 + n) (c.write_attributes-len.ensures.len ∙ ap (λ xs. length (encodings attribute_item xs)) c.as_slice.ensures.value) in
    let first : c.to_bytes.result ≡ to_le_bytes w16 (8 + c.write_attributes-len.result) ++ (c.bits.result ∷ head.hops ∷ to_le_bytes w32 head.interface_index) = c.to_bytes.ensures in
    let flags : c.bits.result ≡ head.flags = c.bits.ensures tt in
    let is : c.to_bytes.result ≡ header = first ∙ ap (λ n. to_le_bytes w16 n ++ (c.bits.result ∷ head.hops ∷ to_le_bytes w32 head.interface_index)) len ∙ ap (λ f. to_le_bytes w16 (8 + length text) ++ (f ∷ head.hops ∷ to_le_bytes w32 head.interface_index)) flags in
    let p = subst (λ w. Writes mid c.write_array.new.out w) is c.write_array.ensures.after in
    subst (λ w. Writes out c.write_array.new.out w) (sym (next_hop_bytes-is h)) (Writes-before out c.write_attributes-len.new.out c.write_array.new.out header text 8 refl (omega (arith, room)) inside p)

pub write_hops-write_hop-at-requires : goal.write_hops-write_hop-at-requires
write_hops-write_hop-at-requires t c =
    let x = c.hop-item.result in
    let i = c.loop-hop.hop-index in
    let all = c.args.hops.now in
    let past = c.loop-hop.invariant in
    let room =
    room_for (joined next_hop_bytes) (joined-append next_hop_bytes) all i x c.loop-hop-test.true c.hop-item.is c.args.out.now c.requires.room c.loop-hop.out
    c.loop-hop.at past.len c.loop-hop.auto.out in (
      search (rules, the_lemmas),
      ((first-none next_hop_unfit all i x c.loop-hop-test.true c.hop-item.is past.fits).0, omega (arith, room, length-append (next_hop_bytes x) [])),
    )

pub write_hops-loop-hop-preserved : goal.write_hops-loop-hop-preserved
write_hops-loop-hop-preserved t c =
    let x = c.hop-item.result in
    let i = c.loop-hop.hop-index in
    let all = c.args.hops.now in
    let past = c.loop-hop.invariant in
    let wrote =
    wrote_next (joined next_hop_bytes) (joined-append next_hop_bytes) all i x c.loop-hop-test.true c.hop-item.is c.args.out.now c.requires.room c.loop-hop.out
    c.loop-hop.at past.len past.after c.write_hop-at.new.out (next_hop_bytes x) c.write_hop-at.result (append-nil (next_hop_bytes x))
    c.write_hop-at.ensures.len c.write_hop-at.ensures.after in
    record { fits = (first-none next_hop_unfit all i x c.loop-hop-test.true c.hop-item.is past.fits).1; len = wrote.len; after = wrote.after }

pub write_value-write_hops-requires : goal.write_value-write_hops-requires
write_value-write_hops-requires t c =
    let v = c.in-MultiPath.hops in
    let fits = rw c.in-MultiPath.is at c.requires.fits in
    let room = rw c.in-MultiPath.is at c.requires.room in (
      search (rules, the_lemmas),
      (rw c.as_slice-in-MultiPath.ensures.value (multi_path_fits v fits), rw c.as_slice-in-MultiPath.ensures.value (rw multi_path_value at room)),
    )

pub write_value-returns-in-MultiPath-clause-len : goal.write_value-returns-in-MultiPath-clause-len
write_value-returns-in-MultiPath-clause-len t c =
    let v = c.in-MultiPath.hops in
    rw c.in-MultiPath.is (c.write_hops.ensures.len ∙ ap (λ xs. length (joined next_hop_bytes xs)) c.as_slice-in-MultiPath.ensures.value ∙ ap length (sym (multi_path_value v)))

pub write_value-returns-in-MultiPath-clause-after : goal.write_value-returns-in-MultiPath-clause-after
write_value-returns-in-MultiPath-clause-after t c =
    let v = c.in-MultiPath.hops in
    let is = ap (λ xs. joined next_hop_bytes xs) c.as_slice-in-MultiPath.ensures.value ∙ sym (multi_path_value v) in
    rw c.in-MultiPath.is (subst (λ w. Writes c.args.out.now c.write_hops.new.out w) is c.write_hops.ensures.after)
