use Rattle.std.proofs.Common.{◌≡◌, ◌<◌, true, false, [], ◌∷◌, ◌++◌, map, length, ap, sym, subst, ◌∙◌, arith}
use Rattle.std.proofs.lemmas.Bool.Decides.{nat_tests}
use Rattle.std.proofs.lemmas.List.{map_push}
use Rattle.std.proofs.lemmas.Result.{err_from_is_err_and}
use Rattle.npr_base.specs.Counts.{Counts, hit, miss}
use Rattle.npr_base.specs.Framing.{Front, Fault, number_of}
use Rattle.npr_base.specs.lemmas.Front.{Front-takes}
use Rattle.npr_base.proofs.Lists.{ReadsTo-more}
use Rattle.npr_base.proofs.Looking.{AddsAtMost-none}
use Rattle.npr_route.specs.Attribute.{Reads, none_in_front, first_wrong, hops_wrong, value_wrong, HopFault, no_hop_in_front}
use Rattle.npr_route.specs.AttributeLooks.{AttributeLooks, hops_inside, none_in_hop, faulty_in_hop, passed_in_hop, no_hop_stands}
use Rattle.npr_route.specs.AttributeView.{meaning_of}
use Rattle.npr_route.specs.Governing.{Searches}
use Rattle.npr_route.specs.Reader.{IsAt, Waits, Opens, context_inside, weight_of}
use Rattle.npr_route.specs.Ahead.{SoughtIn}
use Rattle.npr_route.specs.lemmas.LookBounds.{attributes-saw}
use Rattle.npr_route.specs.ReaderLooks.{WaitsAt}
use Rattle.npr_route.specs.lemmas.NextHopFront.{HopFront-length}
use Rattle.npr_route.specs.NextHopHeader.{head_in}
use Rattle.npr_route.specs.declared.reader.Level.{Level}
use Rattle.npr_route.specs.lemmas.Ahead.{room_front, stopped_front}
use Rattle.npr_route.proofs.ReaderLaws.{wrong_at, chain_wrong, chain_push, weight_push, account_push, opened_first, room_open, Added-inner, Added-read, Ended-inside, Ended-hit-miss, Ended-inner}
use Rattle.npr_route.proofs.ReadingLooks.{chain_at_stops, chain_at_push, goes_first}
use Rattle.npr_route.proofs.reader.advance.Goals as goal

pub returns-in_err-item-clause-refused : goal.returns-in_err-item-clause-refused
returns-in_err-item-clause-refused c =
    let r = c.args.reader.now in
    let l = r.level in
    let p = err_from_is_err_and c.from_residual.result c.from_residual.ensures.1 in
    let e = c.in_err-item.field-0.0 in
    let step : (0 < length l.walk) × Fault l.walk e × (c.next_counted.new.self ≡ []) = rw c.in_err-item.was at c.in-Some.ensures.step in
    rw (p.1, p.2) (λ other d bytes t. chain_wrong d bytes r.stack.items l.context t.0 e t.2 (wrong_at t.0 l l.walk e t.1 (none_in_front step.0 step.1)))

pub returns-in_err-inner-clause-refused : goal.returns-in_err-inner-clause-refused
returns-in_err-inner-clause-refused c =
    let r = c.args.reader.now in
    let l = r.level in
    let item = c.in_ok-item.item in
    let rest = c.next_counted.new.self in
    let p = err_from_is_err_and c.from_residual-in_err-inner.result c.from_residual-in_err-inner.ensures.1 in
    let e = c.in_err-inner.field-0.0 in
    let f : Front l.walk item rest = rw c.in_ok-item.was at c.in-Some.ensures.step in
    let nine : number_of item.kind ≡ 9 = omega arith in
    let inside : HopFault item.value e = rw c.value-then-not-is_empty.ensures at c.in_err-inner.ensures.refused.1 in
    let left : 0 < length item.value = grind (arith, nat_tests) in
    rw (p.1, p.2)
    (λ other d bytes t. chain_wrong d bytes r.stack.items l.context t.0 e t.2 (wrong_at t.0 l l.walk e t.1 (first_wrong item rest f (hops_wrong nine (no_hop_in_front left inside)))))

pub returns-in_err-push_flat-clause-refused : goal.returns-in_err-push_flat-clause-refused
returns-in_err-push_flat-clause-refused c =
    let r = c.args.reader.now in
    let l = r.level in
    let item = c.in_ok-item.item in
    let rest = c.next_counted.new.self in
    let p = err_from_is_err_and c.from_residual-in_err-push_flat.result c.from_residual-in_err-push_flat.ensures.1 in
    let e = c.in_err-push_flat.field-0.0 in
    let f : Front l.walk item rest = rw c.in_ok-item.was at c.in-Some.ensures.step in
    rw (p.1, p.2)
    (λ other d bytes t.
    let wrong = c.in_err-push_flat.ensures.refused other in
    chain_wrong d bytes r.stack.items l.context t.0 e t.2 (wrong_at t.0 l l.walk e t.1 (first_wrong item rest f (value_wrong wrong.0 wrong.1))))

pub returns-in_err-make_room-clause-ended : goal.returns-in_err-make_room-clause-ended
returns-in_err-make_room-clause-ended c =
    let l = c.args.reader.now.level in
    let item = c.in_ok-item.item in
    let rest = c.next_counted.new.self in
    let f : Front l.walk item rest = rw c.in_ok-item.was at c.in-Some.ensures.step in
    let look : c.next_counted.new.looks ≡ hit c.args.looks.now = rw c.in_ok-item.was at c.in-Some.ensures.counted in
    let p = err_from_is_err_and c.from_residual-in_err-make_room.result c.from_residual-in_err-make_room.ensures.1 in
    rw p.1 (Ended-inside c.args.looks.now c.next_counted.new.looks c.next_counted.new.looks (length item.value) _ _ look (AddsAtMost-none c.next_counted.new.looks (length item.value))
    (omega (arith, room_front l.walk item rest f)) (omega (arith, Front-takes l.walk item rest f)))

pub returns-in_err-push_flat-clause-ended : goal.returns-in_err-push_flat-clause-ended
returns-in_err-push_flat-clause-ended c =
    let l = c.args.reader.now.level in
    let item = c.in_ok-item.item in
    let rest = c.next_counted.new.self in
    let f : Front l.walk item rest = rw c.in_ok-item.was at c.in-Some.ensures.step in
    let look : c.next_counted.new.looks ≡ hit c.args.looks.now = rw c.in_ok-item.was at c.in-Some.ensures.counted in
    let p = err_from_is_err_and c.from_residual-in_err-push_flat.result c.from_residual-in_err-push_flat.ensures.1 in
    rw p.1 (Ended-inside c.args.looks.now c.next_counted.new.looks c.push_flat.new.looks (length item.value) _ _ look c.push_flat.ensures.bounded
    (omega (arith, room_front l.walk item rest f)) (omega (arith, Front-takes l.walk item rest f)))

pub returns-then-not-is_empty-clause-ok : goal.returns-then-not-is_empty-clause-ok
returns-then-not-is_empty-clause-ok c =
    let l = c.args.reader.now.level in
    let fs = c.args.reader.now.stack.items in
    let item = c.in_ok-item.item in
    let rest = c.next_counted.new.self in
    let value = c.value-then-not-is_empty.result.now in
    let value_is : value ≡ item.value = c.value-then-not-is_empty.ensures in
    let inner = c.enter.new.reader.level in
    let entered = c.in_ok-enter.ensures.ok in
    let same : c.in_ok-inner.inner ≡ inner = sym entered.0 in
    let outer : Level =
    record { context = l.context; next_hops = l.next_hops; header = l.header; encap_type = l.encap_type; attributes = l.attributes; walk = rest; hops_rest = l.hops_rest } in
    let f : Front l.walk item rest = rw c.in_ok-item.was at c.in-Some.ensures.step in
    let look : c.next_counted.new.looks ≡ hit c.args.looks.now = rw c.in_ok-item.was at c.in-Some.ensures.counted in
    let nine : number_of item.kind ≡ 9 = omega arith in
    let items : c.enter.new.reader.stack.items ≡ fs ++ outer ∷ [] = entered.1 in
    let opens = subst (λ (k : Level). Opens (context_inside l) value [] k) same c.in_ok-inner.ensures.ok in
    let sought = subst (λ (k : Level). SoughtIn k.walk c.next_counted.new.looks c.open.new.looks) same c.in_ok-inner.ensures.sought in
    let front = HopFront-length value (head_in inner.header) inner.walk inner.hops_rest.now opens.front in
    let size : length value ≡ length item.value = ap length value_is in
    let took = Front-takes l.walk item rest f in
    let pushed = account_push fs outer in (
      λ d bytes t.
          let at : IsAt t.0 outer l.walk = record { front = t.1.front; inside = t.1.inside; done = t.1.done; is_open = t.1.is_open; governs = t.1.governs; read = t.1.read } in
          let waits : Waits t.0 outer value = record { left = l.walk; item = item; at = at; begins = f; is_nine = nine; value_is = sym value_is } in
          (value, opened_first (context_inside l) value inner opens, rw (items, opens.context) (chain_push d bytes fs outer t.0 value t.2 waits)),
      omega (arith, ap weight_of items, weight_push fs outer, took, size, front),
      Added-inner inner.walk c.args.looks.now c.next_counted.new.looks c.open.new.looks _ _ look sought
          (rw items (omega (arith, pushed.room, room_open (context_inside l) value [] inner opens, room_front l.walk item rest f, size)))
          (rw items (omega (arith, pushed.stops, stopped_front l.walk item rest f))),
    )

pub returns-in_err-inner-clause-ended : goal.returns-in_err-inner-clause-ended
returns-in_err-inner-clause-ended c =
    let l = c.args.reader.now.level in
    let item = c.in_ok-item.item in
    let rest = c.next_counted.new.self in
    let f : Front l.walk item rest = rw c.in_ok-item.was at c.in-Some.ensures.step in
    let look : c.next_counted.new.looks ≡ hit c.args.looks.now = rw c.in_ok-item.was at c.in-Some.ensures.counted in
    let p = err_from_is_err_and c.from_residual-in_err-inner.result c.from_residual-in_err-inner.ensures.1 in
    rw p.1 (Ended-hit-miss c.args.looks.now c.next_counted.new.looks c.open.new.looks _ _ look c.in_err-inner.ensures.misses (omega (arith, room_front l.walk item rest f)))

pub returns-in_err-enter-clause-ended : goal.returns-in_err-enter-clause-ended
returns-in_err-enter-clause-ended c =
    let l = c.args.reader.now.level in
    let item = c.in_ok-item.item in
    let rest = c.next_counted.new.self in
    let value = c.value-then-not-is_empty.result.now in
    let inner = c.in_ok-inner.inner in
    let f : Front l.walk item rest = rw c.in_ok-item.was at c.in-Some.ensures.step in
    let look : c.next_counted.new.looks ≡ hit c.args.looks.now = rw c.in_ok-item.was at c.in-Some.ensures.counted in
    let opens : Opens (context_inside l) value [] inner = c.in_ok-inner.ensures.ok in
    let p = err_from_is_err_and c.from_residual-in_err-enter.result c.from_residual-in_err-enter.ensures.1 in
    rw p.1 (Ended-inner inner.walk c.args.looks.now c.next_counted.new.looks c.open.new.looks _ _ look c.in_ok-inner.ensures.sought
    (omega (arith, room_open (context_inside l) value [] inner opens, room_front l.walk item rest f, ap length c.value-then-not-is_empty.ensures)))

pub returns-clause-ok : goal.returns-clause-ok
returns-clause-ok c =
    let l = c.args.reader.now.level in
    let item = c.in_ok-item.item in
    let rest = c.next_counted.new.self in
    let (a, pushed, reads) = c.in_ok-push_flat.ensures.ok in
    let f : Front l.walk item rest = rw c.in_ok-item.was at c.in-Some.ensures.step in
    let look : c.next_counted.new.looks ≡ hit c.args.looks.now = rw c.in_ok-item.was at c.in-Some.ensures.counted in
    let took = Front-takes l.walk item rest f in
    let saw = attributes-saw (context_inside l) item (meaning_of a) c.next_counted.new.looks c.push_flat.new.looks reads (true, c.in_ok-push_flat.ensures.read) in
    let more : map meaning_of c.push_flat.new.list.items ≡ map meaning_of l.attributes.items ++ meaning_of a ∷ [] = ap (map meaning_of) (rw c.make_room.ensures.items at pushed) ∙ map_push meaning_of l.attributes.items a in (
      λ d bytes t.
          let read = ReadsTo-more (Reads (context_inside l)) t.1.inside (map meaning_of l.attributes.items) l.walk item (meaning_of a) rest t.1.read f reads in
          (t.0, record { front = t.1.front; inside = t.1.inside; done = t.1.done; is_open = t.1.is_open; governs = t.1.governs; read = rw more read }, t.2),
      omega (arith, took),
      Added-read c.args.looks.now c.next_counted.new.looks c.push_flat.new.looks (length item.value) _ _ look c.push_flat.ensures.bounded saw.failed
          (omega (arith, room_front l.walk item rest f))
          (omega (arith, stopped_front l.walk item rest f)),
    )

-- ---- the looks of the whole

pub returns-in_err-item-clause-stops : goal.returns-in_err-item-clause-stops
returns-in_err-item-clause-stops c =
    let r = c.args.reader.now in
    let l = r.level in
    let p = err_from_is_err_and c.from_residual.result c.from_residual.ensures.1 in
    let e = c.in_err-item.field-0.0 in
    let step : (0 < length l.walk) × Fault l.walk e × (c.next_counted.new.self ≡ []) = rw c.in_err-item.was at c.in-Some.ensures.step in
    let look : c.next_counted.new.looks ≡ miss c.args.looks.now = rw c.in_err-item.was at c.in-Some.ensures.counted in
    rw (p.1, p.2) (λ other d bytes start t. chain_at_stops d bytes start r.stack.items l.context t.0 t.1 c.next_counted.new.looks t.3 (t.2 false c.next_counted.new.looks (none_in_hop e step.0 step.1 look)))

pub returns-in_err-inner-clause-stops : goal.returns-in_err-inner-clause-stops
returns-in_err-inner-clause-stops c =
    let r = c.args.reader.now in
    let l = r.level in
    let item = c.in_ok-item.item in
    let rest = c.next_counted.new.self in
    let p = err_from_is_err_and c.from_residual-in_err-inner.result c.from_residual-in_err-inner.ensures.1 in
    let e = c.in_err-inner.field-0.0 in
    let new = c.open.new.looks in
    let f : Front l.walk item rest = rw c.in_ok-item.was at c.in-Some.ensures.step in
    let look : c.next_counted.new.looks ≡ hit c.args.looks.now = rw c.in_ok-item.was at c.in-Some.ensures.counted in
    let nine : number_of item.kind ≡ 9 = omega arith in
    let inside : HopFault item.value e = rw c.value-then-not-is_empty.ensures at c.in_err-inner.ensures.refused.1 in
    let left : 0 < length item.value = grind (arith, nat_tests) in
    let misses : new ≡ miss (hit c.args.looks.now) = c.in_err-inner.ensures.misses ∙ ap miss look in
    rw (p.1, p.2) (λ other d bytes start t. chain_at_stops d bytes start r.stack.items l.context t.0 t.1 new t.3
    (t.2 false new (faulty_in_hop item rest f (hops_inside nine (no_hop_stands e left inside misses)))))

pub returns-in_err-push_flat-clause-stops : goal.returns-in_err-push_flat-clause-stops
returns-in_err-push_flat-clause-stops c =
    let r = c.args.reader.now in
    let l = r.level in
    let item = c.in_ok-item.item in
    let rest = c.next_counted.new.self in
    let new = c.push_flat.new.looks in
    let p = err_from_is_err_and c.from_residual-in_err-push_flat.result c.from_residual-in_err-push_flat.ensures.1 in
    let f : Front l.walk item rest = rw c.in_ok-item.was at c.in-Some.ensures.step in
    let look : c.next_counted.new.looks ≡ hit c.args.looks.now = rw c.in_ok-item.was at c.in-Some.ensures.counted in
    rw (p.1, p.2) (λ other d bytes start t.
    let faulty = subst (λ (k : Counts). AttributeLooks (context_inside l) item false k new) look (c.in_err-push_flat.ensures.faulty other) in
    chain_at_stops d bytes start r.stack.items l.context t.0 t.1 new t.3 (t.2 false new (faulty_in_hop item rest f faulty)))

pub returns-then-not-is_empty-clause-follows : goal.returns-then-not-is_empty-clause-follows
returns-then-not-is_empty-clause-follows c =
    let l = c.args.reader.now.level in
    let fs = c.args.reader.now.stack.items in
    let item = c.in_ok-item.item in
    let rest = c.next_counted.new.self in
    let now = c.args.looks.now in
    let mid = c.next_counted.new.looks in
    let new = c.open.new.looks in
    let value = c.value-then-not-is_empty.result.now in
    let value_is : value ≡ item.value = c.value-then-not-is_empty.ensures in
    let inner = c.enter.new.reader.level in
    let entered = c.in_ok-enter.ensures.ok in
    let same : c.in_ok-inner.inner ≡ inner = sym entered.0 in
    let outer : Level =
    record { context = l.context; next_hops = l.next_hops; header = l.header; encap_type = l.encap_type; attributes = l.attributes; walk = rest; hops_rest = l.hops_rest } in
    let f : Front l.walk item rest = rw c.in_ok-item.was at c.in-Some.ensures.step in
    let look : mid ≡ hit now = rw c.in_ok-item.was at c.in-Some.ensures.counted in
    let nine : number_of item.kind ≡ 9 = omega arith in
    let items : c.enter.new.reader.stack.items ≡ fs ++ outer ∷ [] = entered.1 in
    let opens = subst (λ (k : Level). Opens (context_inside l) value [] k) same c.in_ok-inner.ensures.ok in
    let searched = subst (λ (k : Level). Searches l.encap_type k.walk k.encap_type (hit mid) new) same c.in_ok-inner.ensures.searched in
    λ d bytes start t.
    let waits : WaitsAt t.0 t.1 outer value mid = record { left = l.walk; item = item; before = now; goes = t.2; begins = f; is_nine = nine; value_is = sym value_is; look = look } in
    (value, mid, goes_first (context_inside l) value [] inner mid new opens searched, rw (items, opens.context) (chain_at_push d bytes start fs outer t.0 value t.1 mid t.3 waits))

pub returns-clause-follows : goal.returns-clause-follows
returns-clause-follows c =
    let l = c.args.reader.now.level in
    let item = c.in_ok-item.item in
    let rest = c.next_counted.new.self in
    let new = c.push_flat.new.looks in
    let f : Front l.walk item rest = rw c.in_ok-item.was at c.in-Some.ensures.step in
    let look : c.next_counted.new.looks ≡ hit c.args.looks.now = rw c.in_ok-item.was at c.in-Some.ensures.counted in
    let passed = subst (λ (k : Counts). AttributeLooks (context_inside l) item true k new) look c.in_ok-push_flat.ensures.read in
    λ d bytes start t. (t.0, t.1, (λ read end later. t.2 read end (passed_in_hop item rest new f passed later)), t.3)
