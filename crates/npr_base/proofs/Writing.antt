-- Writes at the front of a slice, one after the other.
use Rattle.std.proofs.Common.{◌≡◌, ℕ, ◌+◌, ◌-◌, ◌<◌, ◌≤◌, List, [], ◌∷◌, ◌++◌, length, get_or, take, drop, replicate, sym, ap, ◌∙◌, arith, subst, length-append, length-take, length-drop, append_assoc}
use Rattle.std.specs.Int.{w16, to_le_bytes}
use Rattle.std.proofs.lemmas.List.{take-append-drop, take_at, drop_at, take_all, drop-drop, append-nil, drop_all}
use Rattle.std.proofs.Math.Seq.{drop-append-add}
use borrow.Rule.Slice.PartMut.{put_mid}
use Rattle.npr_base.specs.Framing.{Writes, encoding, framed, pad}
use Rattle.npr_base.specs.lemmas.List.{length-encoding}
use Rattle.npr_base.proofs.Joined.{whole-next, whole-below}

-- bytes more, written behind those that stand
pub Writes-more : (old cur part done x : List ℕ) (at : ℕ) → at ≡ length done → length done ≤ length old → Writes old cur done → Writes (take (length cur - at) (drop at cur)) part x → Writes old (put_mid at (length cur - at) cur part) (done ++ x)
Writes-more old cur part done x at e le w p =
    let front : take at cur ≡ done = ap (take at) w ∙ take_at done (drop (length done) old) at (sym e) in
    let back : drop at cur ≡ drop at old = ap (drop at) w ∙ drop_at done (drop (length done) old) at (sym e) ∙ ap (λ (n : ℕ). drop n old) (sym e) in
    let n : length (drop at cur) ≤ length cur - at = omega (arith, length-drop at cur) in
    let whole : take (length cur - at) (drop at cur) ≡ drop at old = take_all (length cur - at) (drop at cur) n ∙ back in
    let none : drop (length cur - at) (drop at cur) ≡ [] = drop_all (length cur - at) (drop at cur) n in
    let len : length (done ++ x) ≡ at + length x = omega (arith, length-append done x) in
    let rest : drop (length x) (drop at old) ≡ drop (length (done ++ x)) old = drop-drop (length x) at old ∙ ap (λ (m : ℕ). drop m old) (sym len) in
    let written : part ≡ x ++ drop (length (done ++ x)) old = p ∙ ap (λ (z : List ℕ). x ++ drop (length x) z) whole ∙ ap (λ (z : List ℕ). x ++ z) rest in
    rw (front, none, append-nil, written) (sym (append_assoc done x (drop (length (done ++ x)) old)))

-- so far these bytes are written
pub record Wrote (old cur : List ℕ) (at : ℕ) (done : List ℕ) : Type 0 where
  pub len : at ≡ length done
  pub after : Writes old cur done

-- and x is next, of bytes that have room
module _ (old cur : List ℕ) (at : ℕ) (done next x : List ℕ) (len : at ≡ length done) (is : next ≡ done ++ x) (room : length next ≤ length old) where
  pub room_behind : length cur ≡ length old → length x ≤ length (take (length cur - at) (drop at cur))
  room_behind same = omega (arith, len, ap length is, length-append done x, room, same, length-take (length cur - at) (drop at cur), length-drop at cur)

  pub wrote_more : Writes old cur done → (part : List ℕ) (size : ℕ) → size ≡ length x → Writes (take (length cur - at) (drop at cur)) part x
      → Wrote old (put_mid at (length cur - at) cur part) (at + size) next
  wrote_more after part size same p = record {
    len = omega (arith, len, same, ap length is, length-append done x);
    after = rw is (Writes-more old cur part done x at len (omega (arith, ap length is, length-append done x, room)) after p);
  }

-- of a list whose text is made of those of its members, the next one
module _ {A : Type 0} (whole : List A → List ℕ) (append : (xs ys : List A) → whole (xs ++ ys) ≡ whole xs ++ whole ys) (all : List A) (i : ℕ) (x : A)
    (lt : i < length all) (is : x ≡ get_or all i x) (old : List ℕ) (room : length (whole all) ≤ length old) (cur : List ℕ) (at : ℕ)
    (len : at ≡ length (whole (take i all))) where
  member_next : whole (take (i + 1) all) ≡ whole (take i all) ++ whole (x ∷ [])
  member_next = whole-next whole append all i x lt is

  member_room : length (whole (take (i + 1) all)) ≤ length old
  member_room = omega (arith, room, whole-below whole append all (i + 1))

  pub room_for : length cur ≡ length old → length (whole (x ∷ [])) ≤ length (take (length cur - at) (drop at cur))
  room_for = room_behind old cur at (whole (take i all)) (whole (take (i + 1) all)) (whole (x ∷ [])) len member_next member_room

  pub wrote_next : Writes old cur (whole (take i all)) → (part text : List ℕ) (size : ℕ) → whole (x ∷ []) ≡ text → size ≡ length text
      → Writes (take (length cur - at) (drop at cur)) part text → Wrote old (put_mid at (length cur - at) cur part) (at + size) (whole (take (i + 1) all))
  wrote_next after part text size one same p =
      wrote_more old cur at (whole (take i all)) (whole (take (i + 1) all)) (whole (x ∷ [])) len member_next member_room after part size
      (same ∙ ap length (sym one)) (rw one p)

-- a header over what stands already, and padding after it
pub Writes-framed : (old cur new : List ℕ) (k len : ℕ) → framed len ≤ length old → Writes old cur (to_le_bytes w16 (4 + len) ++ to_le_bytes w16 k)
    → Writes (take (length cur - (4 + len)) (drop (4 + len) cur)) new (replicate (pad len) 0)
    → Writes old (put_mid (4 + len) (length cur - (4 + len)) cur new) (encoding (record { kind = k; value = take len (drop 4 old) }))
Writes-framed old cur new k len room w p =
    let v : List ℕ = take len (drop 4 old) in
    let h : List ℕ = to_le_bytes w16 (4 + len) ++ to_le_bytes w16 k in
    let n : length v ≡ len = omega (arith, length-take len (drop 4 old), length-drop 4 old) in
    let split : drop 4 old ≡ v ++ drop (4 + len) old = sym (ap (λ (z : List ℕ). v ++ z) (sym (drop-drop len 4 old)) ∙ take-append-drop len (drop 4 old)) in
    let size : 4 + len ≡ length (h ++ v) = omega (arith, n) in
    let front : Writes old cur (h ++ v) = w ∙ ap (λ (z : List ℕ). h ++ z) split ∙ ap (λ (m : ℕ). h ++ (v ++ drop m old)) size in
    let whole : Writes old (put_mid (4 + len) (length cur - (4 + len)) cur new) ((h ++ v) ++ replicate (pad len) 0) = Writes-more old cur new (h ++ v) (replicate (pad len) 0) (4 + len) (omega (arith, n)) (omega (arith, n)) front p in
    subst (λ (m : ℕ). Writes old (put_mid (4 + len) (length cur - (4 + len)) cur new) (((to_le_bytes w16 (4 + m) ++ to_le_bytes w16 k) ++ v) ++ replicate (pad m) 0)) (sym n) whole

Writes-past : (old cur done : List ℕ) (n : ℕ) → length done ≤ n → Writes old cur done → drop n cur ≡ drop n old
Writes-past old cur done n le w =
    let more : n ≡ length done + (n - length done) = omega arith in
    let far : drop (length done + (n - length done)) (done ++ drop (length done) old) ≡ drop (n - length done) (drop (length done) old) = drop-append-add done (drop (length done) old) (n - length done) in
    ap (drop n) w ∙ ap (λ (m : ℕ). drop m (done ++ drop (length done) old)) more ∙ far ∙ drop-drop (n - length done) (length done) old ∙ ap (λ (m : ℕ). drop m old) (sym more)

-- what was written behind so many bytes stands behind them, and the rest of the slice as it was
module _ (old part x : List ℕ) (at : ℕ) (room : at ≤ length old) (w : Writes (take (length old - at) (drop at old)) part x) where
  abbrev mid : List ℕ
  mid = put_mid at (length old - at) old part

  front_len : length (take at old) ≡ at
  front_len = omega (arith, length-take at old, room)

  pub Writes-behind : Writes old mid (take at old ++ x)
  Writes-behind =
      let start : Writes old old (take at old) = sym (take-append-drop at old) ∙ ap (λ (m : ℕ). take at old ++ drop m old) (sym front_len) in
      Writes-more old old part (take at old) x at (sym front_len) (omega (arith, front_len, room)) start w

  pub drop-behind : drop at mid ≡ x ++ drop (length (take at old ++ x)) old
  drop-behind =
      ap (drop at) (Writes-behind ∙ append_assoc (take at old) x (drop (length (take at old ++ x)) old))
      ∙ drop_at (take at old) (x ++ drop (length (take at old ++ x)) old) at front_len

-- a whole attribute, whose value was written first
pub Writes-encoding : (old body new v : List ℕ) (k len : ℕ) → len ≡ length v → framed (length v) ≤ length old → Writes (take (length old - 4) (drop 4 old)) body v
    → Writes (put_mid 4 (length old - 4) old body) new (encoding (record { kind = k; value = take len (drop 4 (put_mid 4 (length old - 4) old body)) }))
    → Writes old new (encoding (record { kind = k; value = v }))
Writes-encoding old body new v k len e room w p =
    let mid : List ℕ = put_mid 4 (length old - 4) old body in
    let some : 4 ≤ length old = omega arith in
    let x : List ℕ = take 4 old ++ v in
    let size : length x ≡ 4 + length v = omega (arith, length-take 4 old, length-append (take 4 old) v) in
    let value_is : take len (drop 4 mid) ≡ v = ap (take len) (drop-behind old body v 4 some w) ∙ take_at v (drop (length x) old) len (sym e) in
    let q : Writes mid new (encoding (record { kind = k; value = v })) = subst (λ (z : List ℕ). Writes mid new (encoding (record { kind = k; value = z }))) value_is p in
    let far : length x ≤ length (encoding (record { kind = k; value = v })) = omega (arith, size, length-encoding (record { kind = k; value = v })) in
    q ∙ ap (λ (z : List ℕ). encoding (record { kind = k; value = v }) ++ z) (Writes-past old mid x (length (encoding (record { kind = k; value = v }))) far (Writes-behind old body v 4 some w))

-- bytes in front of those that were written behind them
pub Writes-before : (old part new h x : List ℕ) (at : ℕ) → at ≡ length h → at ≤ length old → Writes (take (length old - at) (drop at old)) part x
    → Writes (put_mid at (length old - at) old part) new h → Writes old new (h ++ x)
Writes-before old part new h x at size room w p =
    let len : length (take at old ++ x) ≡ length (h ++ x) = omega (arith, size, length-take at old, length-append (take at old) x, length-append h x) in
    let behind : drop (length h) (put_mid at (length old - at) old part) ≡ x ++ drop (length (h ++ x)) old =
    ap (λ (m : ℕ). drop m (put_mid at (length old - at) old part)) (sym size) ∙ drop-behind old part x at room w ∙ ap (λ (m : ℕ). x ++ drop m old) len in
    p ∙ ap (λ (z : List ℕ). h ++ z) behind ∙ sym (append_assoc h x (drop (length (h ++ x)) old))
