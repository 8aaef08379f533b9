use Rattle.std.proofs.Common.{◌≡◌, ◌+◌, ◌-◌, ◌*◌, ◌/◌, ◌%◌, ℕ, List, take, drop, subst, arith}
use Rattle.std.proofs.lemmas.List.{take_rest}
use Rattle.npr_base.specs.V6List.{IsV6List}
use Rattle.npr_srh.specs.Seg6.{seg6_of, IsKey}
use Rattle.npr_srh.proofs.Headers.{seg6_read}
use Rattle.npr_srh.proofs.seg6_header.Seg6Header.read.Goals as goal

pub returns-clause-ok : goal.returns-clause-ok
returns-clause-ok c =
    let bytes = c.args.value.now in
    let len = c.in_ok-front.len in
    let items = c.in_ok-segments.segments.items in
    let h = seg6_of record { mode = c.from.result; segments = c.reverse.new.self; hmac = c.read_key.result } in
    let span : 12 + len - 12 ≡ len = omega arith in
    let list = subst (λ (n : ℕ). IsV6List (take n (drop 12 bytes)) items) span c.in_ok-segments.ensures.ok in
    let key = subst (λ (r : List ℕ). IsKey (take (40 * (c.in_ok-front.front.flags / 8 % 2)) r) c.read_key.result) (take_rest bytes (12 + len)) c.read_key.ensures in
    seg6_read bytes c.in_ok-front.front len items h c.in_ok-front.ensures.ok list c.from.ensures c.reverse.ensures.items key
