-- A header of eight bytes, the second of which counts the eights behind it, and addresses to the end of the value in
-- the order of the wire: the form that SEG6 local and RPL share.
--     Fixed          what the eight bytes hold
--     front_layout   how they are read and written
--     IsParted       the parts of a value
--     IsHeaded       what it means
--     headed         the values, with their laws
use Rattle.std.specs.List.{concat}
use Rattle.std.proofs.Common.{◌≡◌, ℕ, ◌+◌, ◌-◌, ◌*◌, ◌%◌, ◌≤◌, List, ◌++◌, length, slice_index, Option}
use Rattle.std.proofs.Common.{refl, sym, ap, subst, ◌∙◌, arith, length-append}
use Rattle.std.proofs.lemmas.List.{get_or_append_left}
use Rattle.npr_base.specs.declared.refusal.DecodeError.TheVariants.{Unsupported}
use Rattle.npr_base.specs.declared.refusal.EmitError.{EmitError}
use Rattle.npr_base.specs.Framing.{IsBytes, framed}
use Rattle.npr_base.specs.Lists.{AllOf, option_or, too_long}
use Rattle.npr_base.specs.lemmas.Codec.{framed-grows}
use Rattle.npr_base.specs.Fields.{Field, one_byte, standing, ◌and◌, ◌before◌, fields}
use Rattle.npr_base.specs.Layout.{Layout, formed}
use Rattle.npr_base.specs.Numbering.{Numbering}
use Rattle.npr_base.specs.lemmas.List.{IsBytes-left, IsBytes-right}
use Rattle.npr_base.proofs.V6ListLaws.{same_parts, length-concat, v6_list-one, v6_list-bytes}
use Rattle.npr_base.specs.Codec.{Codec, no_members}
use Rattle.npr_base.specs.Showing.{shows_inside}
use Rattle.npr_srh.specs.Keeping.{IsUnread}
use Rattle.npr_srh.specs.Segments.{too_many}

-- the eight bytes: a number, the byte that counts, and six bytes of fields; what all are together, and which of it can be read
pub record Fixed (F : Type 0) : Type 1 where
  pub Later : Type 0
  pub later : Field Later
  pub seen : Numbering (ℕ × Later) F
  pub Readable : F → Type 0
  pub six : later.width ≡ 6

-- their layout, in front of so many eights
abbrev pub front_fields : {F : Type 0} (L : Fixed F) → ℕ → Field (ℕ × L.Later)
front_fields L eights = one_byte and (standing eights before L.later)

abbrev pub front_layout : {F : Type 0} → Fixed F → ℕ → Layout F
front_layout L eights = formed (fields (front_fields L eights)) L.seen

-- the fields and the addresses
pub record Headed (F : Type 0) : Type 0 where
  pub front : F
  pub segments : List (List ℕ)

-- eight bytes in front, as many eights behind them as the second says, and these are whole addresses
pub record IsParted (bytes : List ℕ) (p : Headed (List ℕ)) : Type 0 where
  pub is : bytes ≡ p.front ++ concat p.segments
  pub size : length p.front ≡ 8
  pub whole : AllOf (λ a. length a ≡ 16) p.segments
  pub len : length bytes ≡ 8 * (slice_index p.front 1 + 1)

pub record IsHeaded {F : Type 0} (L : Fixed F) (bytes : List ℕ) (h : Headed F) : Type 0 where
  pub head : List ℕ
  pub parts : IsParted bytes (record { front = head; segments = h.segments })
  pub front : h.front ≡ (front_layout L 0).decode head
  pub readable : L.Readable h.front

-- two eights for each address
abbrev pub headed_bytes : {F : Type 0} → Fixed F → Headed F → List ℕ
headed_bytes L h = (front_layout L (2 * length h.segments)).encode h.front ++ concat h.segments

abbrev pub headed_unfit : {F : Type 0} → Fixed F → ℕ → Headed F → Option EmitError
headed_unfit L kind h = option_or (too_long kind (length (headed_bytes L h))) (too_many 127 (length h.segments))

-- what can be read
pub record HoldsHeaded {F : Type 0} (L : Fixed F) (h : Headed F) : Type 0 where
  pub range : (front_layout L 0).Holds h.front
  pub readable : L.Readable h.front
  pub whole : AllOf (λ a. length a ≡ 16) h.segments
  pub segments : AllOf IsBytes h.segments

-- what parts has the lengths
pub parted_sizes : (bytes : List ℕ) (p : Headed (List ℕ)) → IsParted bytes p
    → (8 ≤ length bytes) × (length bytes ≡ 8 * (slice_index bytes 1 + 1)) × ((length bytes - 8) % 16 ≡ 0)
parted_sizes bytes p is =
    let one = ap (λ (b : List ℕ). slice_index b 1) is.is ∙ get_or_append_left p.front (concat p.segments) 0 1 (omega (arith, is.size)) in
    let all = ap length is.is in
    let parts = length-append p.front (concat p.segments) in
    let whole = length-concat p.segments is.whole in
    (omega (arith, all, parts, is.size), omega (arith, is.len, one), omega (arith, all, parts, is.size, whole))

module _ {F : Type 0} (L : Fixed F) where
  pub front-size : 1 + (1 + L.later.width) ≡ 8
  front-size = omega (arith, L.six)

  pub front-len : (eights : ℕ) (f : F) → length ((front_layout L eights).encode f) ≡ 8
  front-len eights f = (front_fields L eights).length-encode (L.seen.number f) ∙ front-size

  -- what does not part means nothing
  pub unread_headed : (bytes : List ℕ) → IsUnread IsParted bytes → IsUnread (IsHeaded L) bytes
  unread_headed bytes unread = record { no = λ h is. unread.no (record { front = is.head; segments = h.segments }) is.parts }

  pub headed-one : (bytes : List ℕ) (h k : Headed F) → IsHeaded L bytes h → IsHeaded L bytes k → h ≡ k
  headed-one bytes h k p q =
      let s = same_parts p.head (concat h.segments) q.head (concat k.segments) (p.parts.size ∙ sym q.parts.size) (sym p.parts.is ∙ q.parts.is) in
      let front : h.front ≡ k.front = p.front ∙ ap (front_layout L 0).decode s.0 ∙ sym q.front in
      let segments : h.segments ≡ k.segments = v6_list-one h.segments k.segments p.parts.whole q.parts.whole s.1 in
      λ i. record { front = front i; segments = segments i }

  pub headed-holds : (bytes : List ℕ) (h : Headed F) → IsBytes bytes → IsHeaded L bytes h → HoldsHeaded L h
  headed-holds bytes h is p =
      let all : IsBytes (p.head ++ concat h.segments) = subst IsBytes p.parts.is is in
      record {
        range =
            let size = p.parts.size ∙ sym front-size in
            subst (front_layout L 0).Holds (sym p.front) ((front_layout L 0).Holds-decode p.head (IsBytes-left p.head (concat h.segments) all) size);
        readable = p.readable;
        whole = p.parts.whole;
        segments = v6_list-bytes h.segments (IsBytes-right p.head (concat h.segments) all);
      }

  pub headed-len : (h : Headed F) → AllOf (λ a. length a ≡ 16) h.segments → length (headed_bytes L h) ≡ 8 + 16 * length h.segments
  headed-len h whole =
      let eights = 2 * length h.segments in
      omega (arith, length-append ((front_layout L eights).encode h.front) (concat h.segments), front-len eights h.front, length-concat h.segments whole)

  pub headed-back : (h : Headed F) → HoldsHeaded L h → IsHeaded L (headed_bytes L h) h
  headed-back h holds =
      let eights = 2 * length h.segments in
      record {
        head = (front_layout L eights).encode h.front;
        parts = record {
          is = refl;
          size = front-len eights h.front;
          whole = holds.whole;
          len = omega (arith, headed-len h holds.whole);
        };
        front = sym ((front_layout L eights).decode-encode h.front holds.range);
        readable = holds.readable;
      }

  pub headed-grows : (bytes : List ℕ) (h : Headed F) → IsBytes bytes → IsHeaded L bytes h → 2 * framed (length (headed_bytes L h)) ≤ 5 * (4 + length bytes)
  headed-grows bytes h is p =
      let whole = length-concat h.segments p.parts.whole in
      framed-grows (length (headed_bytes L h)) (length bytes)
      (omega (arith, headed-len h p.parts.whole, ap length p.parts.is, length-append p.head (concat h.segments), whole, p.parts.size))

abbrev pub headed : {F : Type 0} → Fixed F → Codec (Headed F)
headed L = record {
  Reads = IsHeaded L;
  Wrong = λ at bytes e. IsUnread (IsHeaded L) bytes × (e ≡ Unsupported at);
  encode = headed_bytes L;
  unfit = headed_unfit L;
  Holds = HoldsHeaded L;
  members = no_members;
  one_reading = headed-one L;
  no_fault = λ at bytes h e p q. q.0.no h p;
  reads_holds = headed-holds L;
  reads_back = λ kind h holds fits. headed-back L h holds;
  grows = headed-grows L;
  showing = shows_inside;
}
