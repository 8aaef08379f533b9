use Rattle.std.proofs.Common.{◌≡◌, ◌<◌, true, false, [], refl, sym, length, map, arith}
use Rattle.std.proofs.lemmas.Bool.Decides.{nat_tests}
use Rattle.std.proofs.lemmas.List.{nil_from_length}
use Rattle.std.proofs.lemmas.Result.{err_from_is_err_and}
use Rattle.npr_route.specs.Attribute.{no_hop_in_front}
use Rattle.npr_route.specs.AttributeLooks.{hops_end, no_hop_stands}
use Rattle.npr_route.specs.AttributeView.{hop_of, hops_of}
use Rattle.npr_route.specs.lemmas.LookBounds.{hops-saw}
use Rattle.npr_route.specs.NextHopHeader.{head_in}
use Rattle.npr_route.specs.Reader.{Opens, account, unread}
use Rattle.npr_route.proofs.ReaderLaws.{opened_first, room_open, Added-open, Added-more, Ended-bounds}
use Rattle.npr_route.proofs.ReadingLooks.{goes_first}
use Rattle.npr_route.proofs.reader.read_next_hops_body.Goals as goal

pub loop-reader-preserved : goal.loop-reader-preserved
loop-reader-preserved c =
    let past = c.loop-reader.invariant in
    let r = c.loop-reader.reader in
    let next = c.advance.new.reader in
    let step = rw c.in_default.is at c.in_ok-next_hops.ensures.ok in
    record {
      tied = step.0 c.args.context c.args.bytes.now past.tied;
      follows = (rw c.in_default.is at c.in_ok-next_hops.ensures.follows) c.args.context c.args.bytes.now c.args.looks.now past.follows;
      looks = Added-more c.args.looks.now c.loop-reader.looks c.advance.new.looks (unread (length c.args.bytes.now)) (account r) (account next) past.looks step.2;
      begun = past.begun;
    }

pub loop-reader-init : goal.loop-reader-init
loop-reader-init c =
    let k = c.args.context in
    let bytes = c.args.bytes.now in
    let l = c.in_ok-level.level in
    let opens : Opens k bytes [] l = c.in_ok-level.ensures.ok in
    record {
      tied = (bytes, opened_first k bytes l opens, rw c.new-2.ensures.items (sym opens.context, refl));
      follows = (bytes, c.args.looks.now, goes_first k bytes [] l c.args.looks.now c.open.new.looks opens c.in_ok-level.ensures.searched, rw c.new-2.ensures.items (sym opens.context, refl, refl));
      looks = rw c.new-2.ensures.items
          (Added-open l.walk c.args.looks.now c.open.new.looks _ _ c.in_ok-level.ensures.sought (omega (arith, room_open k bytes [] l opens)) (omega arith));
      begun = (head_in l.header, l.walk, l.hops_rest.now, opens.front);
    }

pub returns-in_err-level-clause-refused : goal.returns-in_err-level-clause-refused
returns-in_err-level-clause-refused c =
    let p = err_from_is_err_and c.from_residual.result c.from_residual.ensures.1 in
    let left : 0 < length c.args.bytes.now = grind (arith, nat_tests) in
    rw (p.1, p.2) (λ other. no_hop_in_front left c.in_err-level.ensures.refused.1)

pub returns-in_err-next_hops-clause-refused : goal.returns-in_err-next_hops-clause-refused
returns-in_err-next_hops-clause-refused c =
    let p = err_from_is_err_and c.from_residual-in_err-next_hops.result c.from_residual-in_err-next_hops.ensures.1 in
    rw (p.1, p.2) (λ other. c.in_err-next_hops.ensures.refused other c.args.context c.args.bytes.now c.loop-reader.invariant.tied)

pub returns-in_err-next_hops-clause-bounded : goal.returns-in_err-next_hops-clause-bounded
returns-in_err-next_hops-clause-bounded c =
    let past = c.loop-reader.invariant in
    Ended-bounds c.args.context c.args.bytes.now c.loop-reader.reader c.args.looks.now c.loop-reader.looks c.advance.new.looks past.tied past.looks c.in_err-next_hops.ensures.ended

-- ---- the looks

pub returns-then-is_empty-clause-exact : goal.returns-then-is_empty-clause-exact
returns-then-is_empty-clause-exact c = λ answered.
    let nil : c.args.bytes.now ≡ [] = nil_from_length _ (grind (arith, nat_tests)) in
    (true, hops_end nil refl)

pub returns-in_err-level-clause-exact : goal.returns-in_err-level-clause-exact
returns-in_err-level-clause-exact c =
    let p = err_from_is_err_and c.from_residual.result c.from_residual.ensures.1 in
    let left : 0 < length c.args.bytes.now = grind (arith, nat_tests) in
    rw (p.1, p.2) (λ other. (false, no_hop_stands _ left c.in_err-level.ensures.refused.1 c.in_err-level.ensures.misses))

pub returns-in_err-next_hops-clause-exact : goal.returns-in_err-next_hops-clause-exact
returns-in_err-next_hops-clause-exact c =
    let p = err_from_is_err_and c.from_residual-in_err-next_hops.result c.from_residual-in_err-next_hops.ensures.1 in
    rw (p.1, p.2) (λ other. (false, c.in_err-next_hops.ensures.stops other c.args.context c.args.bytes.now c.args.looks.now c.loop-reader.invariant.follows))

pub returns-in-Some-clause-exact : goal.returns-in-Some-clause-exact
returns-in-Some-clause-exact c = λ answered.
    (true, (rw c.in-Some.is at c.in_ok-next_hops.ensures.follows) c.args.context c.args.bytes.now c.args.looks.now c.loop-reader.invariant.follows)

pub returns-in-Some-clause-counted : goal.returns-in-Some-clause-counted
returns-in-Some-clause-counted c =
    let hops = map hop_of c.in-Some.next_hops.items in
    let step = rw c.in-Some.is at c.in_ok-next_hops.ensures.ok in
    let reads = step.0 c.args.context c.args.bytes.now c.loop-reader.invariant.tied in
    let exact = returns-in-Some-clause-exact c tt in
    hops-saw c.args.context c.args.bytes.now (hops_of hops) exact.0 c.args.looks.now c.advance.new.looks reads exact.1
