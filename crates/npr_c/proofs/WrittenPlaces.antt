-- What was written at a place of a buffer stands there, and all else as it was.
use Rattle.std.proofs.Common.{◌≡◌, ℕ, ◌+◌, ◌-◌, ◌*◌, ◌^◌, ◌<◌, ◌≤◌, min, List, [], ◌∷◌, ◌++◌, length, take, drop, get_or, replicate, refl, sym, ap, subst, ◌∙◌}
use Rattle.std.proofs.Common.{append_assoc, arith, length-append, length-drop, length-take, Ok}
use Rattle.std.proofs.lemmas.List.{take_at, drop_at, drop-drop, length-replicate, take-append-drop}
use Rattle.std.specs.Int.{w16, to_le_bytes, from_le_bytes}
use borrow.Rule.Slice.PartMut.{put_mid}
use Rattle.npr_base.proofs.Fronts.{begins, steps}
use Rattle.npr_base.proofs.Writing.{Writes-behind}
use Rattle.netlink_packet_route.specs.Framing.{Item, Front, Begins, IsBytes, Writes, encoding, pad}
use Rattle.netlink_packet_route.specs.FrontLaws.{length_at, length_at-is, two_bytes}
use Rattle.netlink_packet_route.specs.ListLaws.{IsBytes-right, length-encoding}
use Rattle.npr_c.proofs.Places.{found, step_over}
use Rattle.npr_c.specs.Requests.{AttributeEnds, WritesAt, ended_step, put_step}
use Rattle.npr_c.specs.Steps.{FoundAt, item_of}
use Rattle.npr_c.specs.declared.steps.Step.{Step}

-- a place that is filled, between two others
filled : (old part bytes : List ℕ) (at end : ℕ) → end ≡ at + length bytes → part ≡ bytes → WritesAt old (put_mid at (end - at) old part) at bytes
filled old part bytes at end size same =
    let rest : drop (end - at) (drop at old) ≡ drop (at + length bytes) old = drop-drop (end - at) at old ∙ ap (λ (n : ℕ). drop n old) (omega arith) in
    λ i. take at old ++ (same i ++ rest i)

-- the front of all that is behind one
pub over : (old part bytes : List ℕ) (at : ℕ) → at + length bytes ≤ length old → Writes (take (length old - at) (drop at old)) part bytes
    → WritesAt old (put_mid at (length old - at) old part) at bytes
over old part bytes at room w =
    let size : length (take at old ++ bytes) ≡ at + length bytes = omega (arith, length-append (take at old) bytes, length-take at old, room) in
    Writes-behind old part bytes at (omega (arith, room)) w ∙ append_assoc (take at old) bytes (drop (length (take at old ++ bytes)) old)
    ∙ ap (λ (n : ℕ). take at old ++ (bytes ++ drop n old)) size

module _ (old new : List ℕ) (at : ℕ) (bytes : List ℕ) (room : at + length bytes ≤ length old) (w : WritesAt old new at bytes) where
  front_size : length (take at old) ≡ at
  front_size = omega (arith, length-take at old, room)

  pub from_there : drop at new ≡ bytes ++ drop (at + length bytes) old
  from_there = ap (drop at) w ∙ drop_at (take at old) (bytes ++ drop (at + length bytes) old) at front_size

  pub same_size : length new ≡ length old
  same_size =
      omega (
        arith,
        ap length w,
        length-append (take at old) (bytes ++ drop (at + length bytes) old),
        length-append bytes (drop (at + length bytes) old),
        length-drop (at + length bytes) old,
        front_size,
        room,
      )

  behind_all : drop (at + length bytes) new ≡ drop (at + length bytes) old
  behind_all =
      let size : at + length bytes ≡ length (take at old ++ bytes) = omega (arith, front_size, length-append (take at old) bytes) in
      ap (drop (at + length bytes)) (w ∙ sym (append_assoc (take at old) bytes (drop (at + length bytes) old)))
      ∙ drop_at (take at old ++ bytes) (drop (at + length bytes) old) (at + length bytes) (sym size)

  -- from any place behind what was written on
  pub behind : (place : ℕ) → at + length bytes ≤ place → drop place new ≡ drop place old
  behind place past =
      let more : place ≡ at + length bytes + (place - (at + length bytes)) = omega arith in
      let far : (xs : List ℕ) → drop place xs ≡ drop (place - (at + length bytes)) (drop (at + length bytes) xs) =
      λ xs. ap (λ (n : ℕ). drop n xs) more ∙ sym (drop-drop (place - (at + length bytes)) (at + length bytes) xs) in
      far new ∙ ap (drop (place - (at + length bytes))) behind_all ∙ sym (far old)

-- ---- an attribute that was put

module _ (old part : List ℕ) (at end : ℕ) (x : Item) (size : end ≡ at + length (encoding x)) (within : end ≤ length old) (is : part ≡ encoding x) where
  abbrev put : List ℕ
  put = put_mid at (end - at) old part

  has_room : at + length (encoding x) ≤ length old
  has_room = omega (arith, size, within)

  abbrev rest : List ℕ
  rest = drop (at + length (encoding x)) old

  abbrev padding : List ℕ
  padding = replicate (pad (length x.value)) 0

  stands : drop at put ≡ encoding x ++ rest
  stands = from_there old put at (encoding x) has_room (filled old part (encoding x) at end size is)

  pub put_found : x.kind < 2 ^ 16 → length x.value ≤ 65531 → (next : ℕ) → next ≡ end → FoundAt put at (put_step at x.kind (length x.value) next)
  put_found kind short next next_is =
      let long : length put ≡ length old = same_size old put at (encoding x) has_room (filled old part (encoding x) at end size is) in
      let front : Front (drop at put) x rest = record {
        padding = padding;
        is = stands;
        small = record { kind = kind; value = short };
        most = omega (arith, length-replicate {A = ℕ} (pad (length x.value)) 0);
        whole = λ some. length-replicate {A = ℕ} (pad (length x.value)) 0;
      } in
      let place : length put - length rest ≡ next = omega (arith, long, next_is, size, length-drop (at + length (encoding x)) old, has_room) in
      subst (λ (n : ℕ). FoundAt put at (put_step at x.kind (length x.value) n)) place
      (found put at x rest (omega (arith, long, has_room, length-encoding x)) front)

  -- with the value that was put
  pub put_inside : (next : ℕ) → item_of put (put_step at x.kind (length x.value) next) ≡ x
  put_inside next =
      let after : drop (at + 4) put ≡ x.value ++ (padding ++ rest) =
      sym (drop-drop 4 at put) ∙ ap (drop 4) stands ∙ append_assoc x.value padding rest in
      ap (λ (v : List ℕ). record { kind = x.kind; value = v }) (ap (take (length x.value)) after ∙ take_at x.value (padding ++ rest) (length x.value) refl)

-- ---- an attribute that ends

two_behind : (bs : List ℕ) → length_at (drop 2 bs) ≡ get_or bs 2 0 + get_or bs 3 0 * 256
two_behind [] = refl
two_behind (a ∷ []) = refl
two_behind (a ∷ b ∷ bs) = refl

-- where its header says so
there : (bytes : List ℕ) (start end : ℕ) → IsBytes bytes → AttributeEnds (length bytes) start end → length_at (drop start bytes) ≡ end - start
    → FoundAt bytes start (ended_step bytes start end)
there bytes start end is (least, within, whole) says =
    let bs : List ℕ = drop start bytes in
    let n : ℕ = end - start in
    let k : ℕ = from_le_bytes w16 (take 2 (drop (start + 2) bytes)) in
    let x : Item = record { kind = k; value = take (n - 4) (drop 4 bs) } in
    let proper : IsBytes bs = IsBytes-right (take start bytes) bs (subst IsBytes (sym (take-append-drop start bytes)) is) in
    let long : length bs ≡ length bytes - start = length-drop start bytes in
    let kind_is : k ≡ get_or bs 2 0 + get_or bs 3 0 * 256 =
    ap (λ (b : List ℕ). from_le_bytes w16 (take 2 b)) (sym (drop-drop 2 start bytes)) ∙ length_at-is (drop 2 bs) ∙ two_behind bs in
    let begun : Begins bs (Ok x) = begins bs n k proper (omega arith) (sym says) kind_is (omega arith) (omega arith) in
    let size : length x.value ≡ end - (start + 4) = omega (arith, length-take (n - 4) (drop 4 bs), length-drop 4 bs) in
    let all : n ≡ 4 + length x.value + pad (length x.value) = omega arith in
    let rest_is : drop (min n (length bs)) bs ≡ drop end bytes =
    ap (λ (m : ℕ). drop m bs) (omega arith) ∙ drop-drop n start bytes ∙ ap (λ (m : ℕ). drop m bytes) (omega arith) in
    let front : Front bs x (drop end bytes) = subst (Front bs x) rest_is (steps bs x n begun all) in
    let next_is : length bytes - length (drop end bytes) ≡ end = omega (arith, length-drop end bytes) in
    let same : step_over bytes start k x.value (drop end bytes) ≡ ended_step bytes start end =
    λ i. record { status = 0; number = 0; value = start + 4; length = size i; next = next_is i; kind = k } in
    subst (FoundAt bytes start) same (found bytes start x (drop end bytes) (omega arith) front)

module _ (old part : List ℕ) (start end : ℕ) (ends : AttributeEnds (length old) start end) (short : end - start ≤ 65535)
    (w : Writes (take (length old - start) (drop start old)) part (to_le_bytes w16 (end - start))) where
  abbrev new : List ℕ
  new = put_mid start (length old - start) old part

  abbrev step : List ℕ → Step
  step bytes = ended_step bytes start end

  room : start + 2 ≤ length old
  room = omega (arith, ends.0, ends.1)

  written : WritesAt old new start (to_le_bytes w16 (end - start))
  written = over old part (to_le_bytes w16 (end - start)) start room w

  still : (place : ℕ) → start + 2 ≤ place → drop place new ≡ drop place old
  still place past = behind old new start (to_le_bytes w16 (end - start)) room written place past

  length_said : length_at (drop start new) ≡ end - start
  length_said = ap length_at (from_there old new start (to_le_bytes w16 (end - start)) room written) ∙ two_bytes (end - start) (omega (arith, short))

  pub end_found : IsBytes new → FoundAt new start (step old)
  end_found is =
      let long : length new ≡ length old = same_size old new start (to_le_bytes w16 (end - start)) room written in
      let inside : AttributeEnds (length new) start end = (ends.0, omega (arith, long, ends.1), ends.2) in
      let same : step new ≡ step old = ap (λ (t : List ℕ). record (step old) { kind = from_le_bytes w16 (take 2 t) }) (still (start + 2) (omega arith)) in
      subst (FoundAt new start) same (there new start end is inside length_said)

  pub end_inside : item_of new (step old) ≡ item_of old (step old)
  end_inside = ap (λ (t : List ℕ). record (item_of old (step old)) { value = take (end - (start + 4)) t }) (still (start + 4) (omega arith))
