-- A SEG6 header as a value, with its laws.
use Rattle.std.specs.List.{concat}
use Rattle.std.proofs.Common.{◌≡◌, ℕ, ◌+◌, ◌-◌, ◌*◌, ◌/◌, ◌%◌, ◌^◌, ◌<◌, ◌≤◌, List, [], ◌++◌, length, take, drop, reverse, Option, Some}
use Rattle.std.proofs.Common.{None, refl, sym, ap, subst, ◌∙◌, arith, length-append, length-take, length-drop}
use Rattle.std.proofs.lemmas.List.{append-nil, take_at, take-append-drop, reverse-reverse, length-reverse}
use Rattle.std.proofs.lemmas.Nat.{from_be_bytes-to_be_bytes_4}
use Rattle.npr_base.specs.declared.attribute_set.At.{At}
use Rattle.npr_base.specs.declared.refusal.DecodeError.{DecodeError}
use Rattle.npr_base.specs.declared.refusal.DecodeError.TheVariants.{Seg6Header as Refused}
use Rattle.npr_base.specs.declared.refusal.Seg6Fault.{Seg6Fault}
use Rattle.npr_base.specs.declared.refusal.Seg6Fault.TheVariants.{Short, Length, Hmac, Segments}
use Rattle.npr_base.specs.Framing.{IsBytes, framed}
use Rattle.npr_base.specs.Lists.{AllOf, too_long}
use Rattle.npr_base.specs.lemmas.Fit.{none_both}
use Rattle.npr_base.specs.lemmas.Codec.{framed-grows}
use Rattle.npr_base.specs.lemmas.Layout.{be32-holds}
use Rattle.npr_base.specs.lemmas.List.{IsBytes-left, IsBytes-right, IsBytes-take}
use Rattle.npr_base.proofs.V6ListLaws.{same_parts, AllOf-reverse, length-concat, v6_list-one, v6_list-bytes}
use Rattle.npr_base.specs.Numbering.{of_IsFormed}
use Rattle.npr_base.specs.Numbering.{IsFormed}
use Rattle.npr_base.specs.Codec.{Codec, no_members}
use Rattle.npr_base.specs.Showing.{shows_inside}
use Rattle.npr_srh.specs.Seg6Mode.{ModeTable, modes, modes_by, mode_number}
use Rattle.npr_srh.specs.declared.seg6_header.Seg6MessageBuffer.{Seg6MessageBuffer}
use Rattle.npr_srh.specs.Segments.{too_many, few}
use Rattle.npr_srh.specs.Seg6.{Seg6, IsSeg6By, IsKey, HasFront, Seg6Wrong, Seg6Faulty, HoldsSeg6By, HoldsKey, message, decode_message, encode_message}
use Rattle.npr_srh.specs.Seg6.{header_len, hmac_len, front_of, seg6_bytes, key_bytes, key_eights, key_flags, most_segments, seg6_unfit}

-- ---- one reading

key-one : (hmac : List ℕ) (a b : Option ℕ) → IsKey hmac a → IsKey hmac b → a ≡ b
key-one hmac None None p q = refl
key-one hmac None (Some k) p q = absurd (omega (arith, p, q.0))
key-one hmac (Some k) None p q = absurd (omega (arith, p.0, q))
key-one hmac (Some k) (Some l) p q = ap Some (p.1 ∙ sym q.1)

pub seg6-one : (table : ModeTable) (bytes : List ℕ) (h k : Seg6) → IsSeg6By table bytes h → IsSeg6By table bytes k → h ≡ k
seg6-one table bytes h k p q =
    let f = same_parts p.front (concat p.wire ++ (p.hmac ++ p.rest)) q.front (concat q.wire ++ (q.hmac ++ q.rest)) (p.size ∙ sym q.size) (sym p.is ∙ q.is) in
    let b : decode_message p.front ≡ decode_message q.front = ap decode_message f.0 in
    let size : header_len (decode_message p.front) ≡ header_len (decode_message q.front) = ap header_len b in
    let tail : length p.hmac ≡ length q.hmac = p.hmac_size ∙ ap hmac_len b ∙ sym q.hmac_size in
    let w = same_parts (concat p.wire) (p.hmac ++ p.rest) (concat q.wire) (q.hmac ++ q.rest) (omega (arith, p.len, q.len, size, tail)) f.1 in
    let t = same_parts p.hmac p.rest q.hmac q.rest tail w.1 in
    let wire : p.wire ≡ q.wire = v6_list-one p.wire q.wire p.whole q.whole w.0 in
    let key : h.hmac ≡ k.hmac = key-one q.hmac h.hmac k.hmac (subst (λ (b : List ℕ). IsKey b h.hmac) t.0 p.key) q.key in
    let mode : h.mode ≡ k.mode = p.mode ∙ ap (λ (b : Seg6MessageBuffer). (modes_by table).of b.mode) b ∙ sym q.mode in
    let segments : h.segments ≡ k.segments = p.segments ∙ ap reverse wire ∙ sym q.segments in
    λ i. record { mode = mode i; segments = segments i; hmac = key i }

-- ---- a fault is no reading

sizes : (table : ModeTable) (bytes : List ℕ) (h : Seg6) (p : IsSeg6By table bytes h)
    → HasFront bytes (decode_message (take 12 bytes)) (length (concat p.wire))
sizes table bytes h p =
    let tail : List ℕ = concat p.wire ++ (p.hmac ++ p.rest) in
    let same : decode_message (take 12 bytes) ≡ decode_message p.front = ap decode_message (ap (take 12) p.is ∙ take_at p.front tail 12 p.size) in
    let len : header_len (decode_message (take 12 bytes)) ≡ header_len (decode_message p.front) = ap header_len same in
    let hmac : hmac_len (decode_message (take 12 bytes)) ≡ hmac_len (decode_message p.front) = ap hmac_len same in
    let all = ap length p.is in
    let parts = length-append p.front tail in
    let more = length-append (concat p.wire) (p.hmac ++ p.rest) in
    let last = length-append p.hmac p.rest in
    record {
      long = omega (arith, all, parts, p.size);
      front = refl;
      room = omega (arith, all, parts, more, last, p.size, p.len, len);
      split = omega (arith, p.len, p.hmac_size, len, hmac);
      whole = omega (arith, length-concat p.wire p.whole);
    }

fault-sound : (bytes : List ℕ) (b : Seg6MessageBuffer) (len : ℕ) (fault : Seg6Fault) → HasFront bytes b len → Seg6Faulty bytes b fault → ⊥
fault-sound bytes b len Short s q = omega (arith, s.long, q)
fault-sound bytes b len Length s q = omega (arith, s.room, q.1)
fault-sound bytes b len Hmac s q = omega (arith, s.split, q.2, q.3)
fault-sound bytes b len Segments s q = q.3 (omega (arith, s.split, s.whole))

pub seg6-sound : (table : ModeTable) (at : At) (bytes : List ℕ) (h : Seg6) (e : DecodeError) → IsSeg6By table bytes h → Seg6Wrong bytes e → ⊥
seg6-sound table at bytes h (Refused fault) p q = fault-sound bytes (decode_message (take 12 bytes)) (length (concat p.wire)) fault (sizes table bytes h p) q
seg6-sound table at bytes h _ p q = q

-- ---- what is read can be held

key-holds : (hmac : List ℕ) (key : Option ℕ) → IsBytes hmac → IsKey hmac key → HoldsKey key
key-holds hmac None is p = tt
key-holds hmac (Some k) is p =
    let four = IsBytes-take 4 (drop 4 hmac) (IsBytes-right (take 4 hmac) (drop 4 hmac) (subst IsBytes (sym (take-append-drop 4 hmac)) is)) in
    subst (λ (n : ℕ). n < 2 ^ 32) (sym p.1) (be32-holds (take 4 (drop 4 hmac)) four (omega (arith, p.0, length-take 4 (drop 4 hmac), length-drop 4 hmac)))

pub seg6-holds : (table : ModeTable) (bytes : List ℕ) (h : Seg6) → IsBytes bytes → IsSeg6By table bytes h → HoldsSeg6By table h
seg6-holds table bytes h is p =
    let all : IsBytes (p.front ++ (concat p.wire ++ (p.hmac ++ p.rest))) = subst IsBytes p.is is in
    let tail = IsBytes-right p.front (concat p.wire ++ (p.hmac ++ p.rest)) all in
    let front = message.Holds-decode p.front (IsBytes-left p.front (concat p.wire ++ (p.hmac ++ p.rest)) all) p.size in
    let wire = v6_list-bytes p.wire (IsBytes-left (concat p.wire) (p.hmac ++ p.rest) tail) in
    let hmac = IsBytes-left p.hmac p.rest (IsBytes-right (concat p.wire) (p.hmac ++ p.rest) tail) in
    record {
      mode = subst (λ (n : ℕ). n < 2 ^ 32) (sym (ap mode_number p.mode ∙ (modes_by table).back (decode_message p.front).mode)) front.0.0;
      formed = subst (IsFormed (modes_by table)) (sym p.mode)
          (of_IsFormed (modes_by table) (decode_message p.front).mode);
      whole = subst (AllOf (λ (a : List ℕ). length a ≡ 16)) (sym p.segments) (AllOf-reverse (λ (a : List ℕ). length a ≡ 16) p.wire p.whole);
      segments = subst (AllOf IsBytes) (sym p.segments) (AllOf-reverse IsBytes p.wire wire);
      key = key-holds p.hmac h.hmac hmac p.key;
    }

-- ---- what is written is read again

key-len : (key : Option ℕ) → length (key_bytes key) ≡ 8 * key_eights key
key-len None = refl
key-len (Some k) = refl

key-flag : (key : Option ℕ) → length (key_bytes key) ≡ 40 * (key_flags key / 8 % 2)
key-flag None = refl
key-flag (Some k) = refl

key-back : (key : Option ℕ) → HoldsKey key → IsKey (key_bytes key) key
key-back None h = refl
key-back (Some k) h = (refl, sym (from_be_bytes-to_be_bytes_4 k h))

key-room : (key : Option ℕ) (count : ℕ) → count ≤ most_segments key → (2 * count + key_eights key < 2 ^ 8) × (key_flags key < 2 ^ 8)
key-room None count le = (omega arith, omega arith)
key-room (Some k) count le = (omega arith, omega arith)

pub seg6-back : (table : ModeTable) (kind : ℕ) (h : Seg6) → HoldsSeg6By table h → seg6_unfit kind h ≡ None → IsSeg6By table (seg6_bytes h) h
seg6-back table kind h holds fits =
    let count = few (most_segments h.hmac) (length h.segments)
    (none_both (too_long kind (length (seg6_bytes h))) (too_many (most_segments h.hmac) (length h.segments)) fits).1 in
    let room = key-room h.hmac (length h.segments) count in
    let wire = AllOf-reverse (λ (a : List ℕ). length a ≡ 16) h.segments holds.whole in
    let low : length h.segments - 1 < 2 ^ 8 = omega (arith, room.0) in
    let front : message.Holds (front_of h) = ((holds.mode, (omega arith, (room.0, (omega arith, (low, (low, (room.1, omega arith))))))), refl) in
    let back : decode_message (encode_message (front_of h)) ≡ front_of h = message.decode-encode (front_of h) front in
    record {
      front = encode_message (front_of h);
      wire = reverse h.segments;
      hmac = key_bytes h.hmac;
      rest = [];
      is = ap (λ (b : List ℕ). encode_message (front_of h) ++ (concat (reverse h.segments) ++ b)) (sym (append-nil (key_bytes h.hmac)));
      size = refl;
      whole = wire;
      len = omega (arith, length-concat (reverse h.segments) wire, length-reverse h.segments, key-len h.hmac);
      hmac_size = key-flag h.hmac;
      mode = holds.formed ∙ ap (λ (b : Seg6MessageBuffer). (modes_by table).of b.mode) (sym back);
      segments = sym (reverse-reverse h.segments);
      key = key-back h.hmac holds.key;
    }

-- ---- lengths

pub seg6-len : (h : Seg6) → AllOf (λ a. length a ≡ 16) h.segments → length (seg6_bytes h) ≡ 12 + 16 * length h.segments + 8 * key_eights h.hmac
seg6-len h whole =
    let wire = AllOf-reverse (λ (a : List ℕ). length a ≡ 16) h.segments whole in
    let parts = length-append (concat (reverse h.segments)) (key_bytes h.hmac) in
    omega (arith, parts, length-concat (reverse h.segments) wire, length-reverse h.segments, key-len h.hmac)

key-as-long : (hmac : List ℕ) (key : Option ℕ) → IsKey hmac key → length hmac ≡ 8 * key_eights key
key-as-long hmac None p = p
key-as-long hmac (Some k) p = p.0

pub seg6-grows : (table : ModeTable) (bytes : List ℕ) (h : Seg6) → IsBytes bytes → IsSeg6By table bytes h
    → 2 * framed (length (seg6_bytes h)) ≤ 5 * (4 + length bytes)
seg6-grows table bytes h is p =
    let holds = seg6-holds table bytes h is p in
    let count : length h.segments ≡ length p.wire = ap length p.segments ∙ length-reverse p.wire in
    let tail : List ℕ = concat p.wire ++ (p.hmac ++ p.rest) in
    let parts = length-append p.front tail in
    let more = length-append (concat p.wire) (p.hmac ++ p.rest) in
    let last = length-append p.hmac p.rest in
    let key = key-as-long p.hmac h.hmac p.key in
    let wire = length-concat p.wire p.whole in
    let all = ap length p.is in
    framed-grows (length (seg6_bytes h)) (length bytes) (omega (arith, seg6-len h holds.whole, count, parts, more, last, key, wire, all, p.size))

abbrev pub seg6_by : ModeTable → Codec Seg6
seg6_by table = record {
  Reads = IsSeg6By table;
  Wrong = λ at bytes e. Seg6Wrong bytes e;
  encode = seg6_bytes;
  unfit = seg6_unfit;
  Holds = HoldsSeg6By table;
  members = no_members;
  one_reading = seg6-one table;
  no_fault = seg6-sound table;
  reads_holds = seg6-holds table;
  reads_back = seg6-back table;
  grows = seg6-grows table;
  showing = shows_inside;
}

abbrev pub seg6 : Codec Seg6
seg6 = seg6_by modes
