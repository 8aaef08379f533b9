use Rattle.std.proofs.Common.{◌≡◌, ◌<◌, true, false, refl, [], ◌∷◌, ◌++◌, map, length, ap, ◌∙◌, subst, arith}
use Rattle.std.proofs.lemmas.Bool.Decides.{nat_tests}
use Rattle.std.proofs.lemmas.List.{map_push, nil_from_length}
use Rattle.std.proofs.lemmas.Result.{err_from_is_err_and}
use Rattle.npr_base.proofs.Lists.{ReadsTo-more}
use Rattle.npr_route.specs.Attribute.{Meaning, Reads, AreHops, multi_path, no_hop_in_front}
use Rattle.npr_route.specs.AttributeLooks.{HopsLooks, hop_ends, hops_end, no_hop_stands}
use Rattle.npr_route.specs.AttributeView.{meaning_of, hop_of, hops_of}
use Rattle.npr_route.specs.lemmas.NextHopFront.{HopFront-length}
use Rattle.npr_route.specs.NextHopHeader.{head_in}
use Rattle.npr_route.specs.Reader.{IsAt, Chain, Opens, context_inside, account_of, weight_of}
use Rattle.npr_route.specs.Ahead.{stopped}
use Rattle.npr_route.specs.ReaderLooks.{Goes, ChainAt}
use Rattle.npr_route.specs.declared.attribute.RouteAttribute.TheVariants.{MultiPath}
use Rattle.npr_route.proofs.Views.{view_multi_path}
use Rattle.npr_route.proofs.ReaderLaws.{closes, closed_hop, hops_closed, whole, chain_none, chain_pop, chain_wrong, hops_wrong_behind, weight_push, account_push, opened_at, room_open, Added-none, Added-open}
use Rattle.npr_route.proofs.ReadingLooks.{chain_at_stops, chain_at_none, chain_at_pop, goes_behind, goes_next}
use Rattle.npr_route.proofs.reader.close.Goals as goal

pub returns-then-not-leave-clause-ok : goal.returns-then-not-leave-clause-ok
returns-then-not-leave-clause-ok c =
    let l = c.args.reader.now.level in
    let fs = c.args.reader.now.stack.items in
    let hops : map hop_of c.replace-next_hops.result.items ≡ map hop_of l.next_hops.items ++ closed_hop l ∷ [] = rw c.replace-next_hops.ensures.value (hops_closed l c.from_bits_retain.result c.push.new.self.items (c.from_bits_retain.ensures tt) (rw (c.replace-attributes.ensures.value, c.make_room.ensures.items) at c.in_ok-push.ensures.items)) in
    let nil : l.hops_rest.now ≡ [] = nil_from_length _ (grind (arith, nat_tests)) in
    let empty : fs ≡ [] = c.leave.ensures.none (grind (arith, nat_tests)) in
    let none : length fs ≡ 0 = ap length empty in (
      λ d bytes t.
          let done = closes t.0 l (subst (λ w. IsAt t.0 l w) c.requires t.1) in
          let all = whole l.context t.0 l.hops_rest.now _ nil done in
          let here = chain_none d bytes fs l.context t.0 none t.2 in
          rw (hops, here.0, here.1) all,
      Added-none c.args.looks.now _ _ (omega arith) (omega (arith, ap stopped c.requires, ap (λ z. (account_of z).stops) empty)),
    )

pub returns-clause-ok : goal.returns-clause-ok
returns-clause-ok c =
    let l = c.args.reader.now.level in
    let f = c.leave.new.reader.level in
    let fs = c.leave.new.reader.stack.items in
    let v = c.replace-next_hops.result in
    let hops : map hop_of v.items ≡ map hop_of l.next_hops.items ++ closed_hop l ∷ [] = rw c.replace-next_hops.ensures.value (hops_closed l c.from_bits_retain.result c.push.new.self.items (c.from_bits_retain.ensures tt) (rw (c.replace-attributes.ensures.value, c.make_room.ensures.items) at c.in_ok-push.ensures.items)) in
    let nil : l.hops_rest.now ≡ [] = nil_from_length _ (grind (arith, nat_tests)) in
    let more : map meaning_of c.push-2.new.self.items ≡ map meaning_of f.attributes.items ++ multi_path (hops_of (map hop_of v.items)) ∷ [] =
    ap (map meaning_of) c.in_ok-push-2.ensures.items ∙ map_push meaning_of f.attributes.items (MultiPath v) ∙ ap (λ (m : Meaning). map meaning_of f.attributes.items ++ m ∷ []) (view_multi_path v) in
    let pushed = account_push fs f in
    let popped = c.leave.ensures.waits (grind (arith, nat_tests)) in (
      λ d bytes t.
          let p = chain_pop d bytes fs f l.context t.0 (subst (λ z. Chain d bytes z l.context t.0) popped t.2) in
          let done = closes t.0 l (subst (λ w. IsAt t.0 l w) c.requires t.1) in
          let all : AreHops l.context t.0 (hops_of (map hop_of v.items)) = rw hops (whole l.context t.0 l.hops_rest.now _ nil done) in
          let w = p.2 in
          let inner : AreHops (context_inside f) w.item.value (hops_of (map hop_of v.items)) = rw (w.value_is, p.3) all in
          let read = ReadsTo-more (Reads (context_inside f)) w.at.inside (map meaning_of f.attributes.items) w.left w.item (multi_path (hops_of (map hop_of v.items))) f.walk w.at.read w.begins (w.is_nine, inner) in
          (p.0, record { front = w.at.front; inside = w.at.inside; done = w.at.done; is_open = w.at.is_open; governs = w.at.governs; read = rw more read }, p.1),
      omega (arith, ap weight_of popped, weight_push fs f),
      rw popped (Added-none c.args.looks.now _ _ (omega (arith, pushed.room)) (omega (arith, pushed.stops, ap stopped c.requires))),
    )

pub returns-in_err-open_next-clause-refused : goal.returns-in_err-open_next-clause-refused
returns-in_err-open_next-clause-refused c =
    let l = c.args.reader.now.level in
    let p = err_from_is_err_and c.from_residual-in_err-open_next.result c.from_residual-in_err-open_next.ensures.1 in
    let left : 0 < length l.hops_rest.now = grind (arith, nat_tests) in
    rw (p.1, p.2) (λ other d bytes t.
    let done = closes t.0 l (subst (λ w. IsAt t.0 l w) c.requires t.1) in
    chain_wrong d bytes c.args.reader.now.stack.items l.context t.0 _ t.2
    (hops_wrong_behind l.context t.0 l.hops_rest.now (map hop_of l.next_hops.items ++ closed_hop l ∷ []) _ done (no_hop_in_front left c.in_err-open_next.ensures.refused.1)))

pub returns-then-not-is_empty-clause-ok : goal.returns-then-not-is_empty-clause-ok
returns-then-not-is_empty-clause-ok c =
    let l = c.args.reader.now.level in
    let o = c.in_ok-open_next in
    let next = c.open_next.new.level in
    let hops = hops_closed l c.from_bits_retain.result c.push.new.self.items (c.from_bits_retain.ensures tt) (rw (c.replace-attributes.ensures.value, c.make_room.ensures.items) at c.in_ok-push.ensures.items) in
    let opens : Opens l.context l.hops_rest.now c.push.new.self.items next = o.ensures.ok in
    let front = HopFront-length l.hops_rest.now (head_in next.header) next.walk next.hops_rest.now opens.front in
    let none : length l.walk ≡ 0 = ap length c.requires in (
      λ d bytes t.
          let done = closes t.0 l (subst (λ w. IsAt t.0 l w) c.requires t.1) in
          (t.0, opened_at l.context t.0 l.hops_rest.now next c.push.new.self.items opens (rw hops done), rw opens.context t.2),
      omega (arith, front, none),
      Added-open next.walk c.args.looks.now c.open_next.new.looks _ _ o.ensures.sought
          (omega (arith, room_open l.context l.hops_rest.now c.push.new.self.items next opens))
          (omega (arith, ap stopped c.requires)),
    )

-- ---- the looks of the whole

pub returns-then-not-leave-clause-follows : goal.returns-then-not-leave-clause-follows
returns-then-not-leave-clause-follows c =
    let l = c.args.reader.now.level in
    let now = c.args.looks.now in
    let nil : l.hops_rest.now ≡ [] = nil_from_length _ (grind (arith, nat_tests)) in
    let empty : c.args.reader.now.stack.items ≡ [] = c.leave.ensures.none (grind (arith, nat_tests)) in
    λ d bytes start t.
    let goes = subst (λ w. Goes t.0 t.1 l w now) c.requires t.2 in
    chain_at_none d bytes start c.args.reader.now.stack.items l.context t.0 t.1 now empty t.3 (goes true now (hop_ends refl (hops_end nil refl)))

pub returns-clause-follows : goal.returns-clause-follows
returns-clause-follows c =
    let l = c.args.reader.now.level in
    let f = c.leave.new.reader.level in
    let fs = c.leave.new.reader.stack.items in
    let now = c.args.looks.now in
    let nil : l.hops_rest.now ≡ [] = nil_from_length _ (grind (arith, nat_tests)) in
    let popped = c.leave.ensures.waits (grind (arith, nat_tests)) in
    λ d bytes start t.
    let goes = subst (λ w. Goes t.0 t.1 l w now) c.requires t.2 in
    let all : HopsLooks l.context t.0 true t.1 now = goes true now (hop_ends refl (hops_end nil refl)) in
    let p = chain_at_pop d bytes start fs f l.context t.0 t.1 (subst (λ z. ChainAt d bytes start z l.context t.0 t.1) popped t.3) in
    (p.value, p.at, goes_behind p.value p.at f t.0 t.1 now p.waits (rw p.context all), p.chain)

pub returns-in_err-open_next-clause-stops : goal.returns-in_err-open_next-clause-stops
returns-in_err-open_next-clause-stops c =
    let r = c.args.reader.now in
    let l = r.level in
    let new = c.open_next.new.looks in
    let p = err_from_is_err_and c.from_residual-in_err-open_next.result c.from_residual-in_err-open_next.ensures.1 in
    let left : 0 < length l.hops_rest.now = grind (arith, nat_tests) in
    rw (p.1, p.2) (λ other d bytes start t.
    let goes = subst (λ w. Goes t.0 t.1 l w c.args.looks.now) c.requires t.2 in
    chain_at_stops d bytes start r.stack.items l.context t.0 t.1 new t.3
    (goes false new (hop_ends refl (no_hop_stands _ left c.in_err-open_next.ensures.refused.1 c.in_err-open_next.ensures.misses))))

pub returns-then-not-is_empty-clause-follows : goal.returns-then-not-is_empty-clause-follows
returns-then-not-is_empty-clause-follows c =
    let l = c.args.reader.now.level in
    let next = c.open_next.new.level in
    let new = c.open_next.new.looks in
    let opens : Opens l.context l.hops_rest.now c.push.new.self.items next = c.in_ok-open_next.ensures.ok in
    λ d bytes start t.
    let goes = subst (λ w. Goes t.0 t.1 l w c.args.looks.now) c.requires t.2 in
    (t.0, t.1, goes_next t.0 t.1 l c.push.new.self.items next c.args.looks.now new goes opens c.in_ok-open_next.ensures.searched, rw opens.context t.3)
