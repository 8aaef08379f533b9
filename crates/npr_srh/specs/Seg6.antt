-- The value of a SEG6 attribute (linux/seg6_iptunnel.h, struct seg6_iptunnel_encap): a mode of four bytes, and then a
-- routing header of segments (RFC 8754, section 2; linux/seg6.h, struct ipv6_sr_hdr).
use Rattle.std.proofs.Common.{refl}
use Rattle.std.specs.Prelude.{◌≡◌, ◌≢◌, ℕ, ◌+◌, ◌-◌, ◌*◌, ◌/◌, ◌%◌, ◌^◌, ◌<◌, ◌≤◌, List, [], ◌∷◌, ◌++◌, length, take}
use Rattle.std.specs.Prelude.{drop, replicate, reverse, Option, Some, None}
use Rattle.std.specs.Int.{w32, to_be_bytes, from_be_bytes}
use Rattle.std.specs.List.{concat}
use Rattle.npr_base.specs.declared.refusal.DecodeError.{DecodeError}
use Rattle.npr_base.specs.declared.refusal.DecodeError.TheVariants.{Seg6Header as Refused}
use Rattle.npr_base.specs.declared.refusal.EmitError.{EmitError}
use Rattle.npr_base.specs.declared.refusal.Seg6Fault.{Seg6Fault}
use Rattle.npr_base.specs.declared.refusal.Seg6Fault.TheVariants.{Short, Length, Hmac, Segments}
use Rattle.npr_base.specs.Framing.{IsBytes}
use Rattle.npr_base.specs.Lists.{AllOf, option_or, too_long}
use Rattle.npr_base.specs.Fields.{one_byte, le_two, le_four, ◌fills◌, ◌then◌, last, structure}
use Rattle.npr_base.specs.Layout.{Layout}
use Rattle.npr_base.specs.Numbering.{IsFormed}
use Rattle.npr_srh.specs.Segments.{too_many}
use Rattle.npr_srh.specs.Seg6Mode.{ModeTable, modes, modes_by, seg6_modes, mode_number}
use Rattle.npr_srh.specs.contracts.seg6_header.Seg6MessageBuffer.{struct}
use Rattle.npr_srh.specs.declared.seg6_mode.Seg6Mode.{Seg6Mode}
use Rattle.npr_srh.specs.declared.seg6_header.Seg6MessageBuffer.{Seg6MessageBuffer}
use Rattle.npr_srh.specs.declared.seg6_header.Seg6Header.{Seg6Header}

-- ---- the first twelve bytes

-- in this order, little endian
abbrev pub message : Layout Seg6MessageBuffer
message =
    structure struct
    (Seg6MessageBuffer.mode fills le_four then Seg6MessageBuffer.nexthdr fills one_byte then Seg6MessageBuffer.hdrlen fills one_byte
    then Seg6MessageBuffer.seg_type fills one_byte then Seg6MessageBuffer.segments_left fills one_byte
    then Seg6MessageBuffer.first_segment fills one_byte then Seg6MessageBuffer.flags fills one_byte
    then last (Seg6MessageBuffer.tag fills le_two)) refl (λ v. tt)

abbrev pub decode_message : List ℕ → Seg6MessageBuffer
decode_message = message.decode

abbrev pub encode_message : Seg6MessageBuffer → List ℕ
encode_message = message.encode

-- ---- what the value means

-- a header without where it lies in memory
pub record Seg6 : Type 0 where
  pub mode : Seg6Mode
  pub segments : List (List ℕ)
  pub hmac : Option ℕ

abbrev pub seg6_of : Seg6Header → Seg6
seg6_of h = record { mode = h.mode; segments = h.segments.items; hmac = h.hmac }

-- the header with the mode that its number has in the table of today
abbrev pub normalized : Seg6 → Seg6
normalized h = record { mode = seg6_modes.of (mode_number h.mode); segments = h.segments; hmac = h.hmac }

-- the bytes of the routing header: its length byte counts eights, the first one left out
abbrev pub header_len : Seg6MessageBuffer → ℕ
header_len b = 8 * (b.hdrlen + 1)

-- the bytes of the HMAC at its end (RFC 8754, section 2.1.2), where bit 3 of the flags says that there is one (linux/seg6.h, SR6_FLAG1_HMAC)
abbrev pub hmac_len : Seg6MessageBuffer → ℕ
hmac_len b = 40 * (b.flags / 8 % 2)

-- the number of the key is big endian behind type, length and four flags and reserved bits
abbrev pub IsKey : List ℕ → Option ℕ → Type 0
IsKey hmac None = length hmac ≡ 0
IsKey hmac (Some key) = (length hmac ≡ 40) × (key ≡ from_be_bytes w32 (take 4 (drop 4 hmac)))

-- twelve bytes, the addresses on the wire, the HMAC, and bytes that are not looked at; the segments are the reverse of the
-- wire, and the mode is that of a table
pub record IsSeg6By (table : ModeTable) (bytes : List ℕ) (h : Seg6) : Type 0 where
  pub front : List ℕ
  pub wire : List (List ℕ)
  pub hmac : List ℕ
  pub rest : List ℕ
  pub is : bytes ≡ front ++ (concat wire ++ (hmac ++ rest))
  pub size : length front ≡ 12
  pub whole : AllOf (λ a. length a ≡ 16) wire
  pub len : 8 + (length (concat wire) + length hmac) ≡ header_len (decode_message front)
  pub hmac_size : length hmac ≡ hmac_len (decode_message front)
  pub mode : h.mode ≡ (modes_by table).of (decode_message front).mode
  pub segments : h.segments ≡ reverse wire
  pub key : IsKey hmac h.hmac

-- by the table of today
abbrev pub IsSeg6 : List ℕ → Seg6 → Type 0
IsSeg6 bytes h = IsSeg6By modes bytes h

-- the layout in front, behind which so many bytes of addresses have room, and then the HMAC
pub record HasFront (bytes : List ℕ) (b : Seg6MessageBuffer) (len : ℕ) : Type 0 where
  pub long : 12 ≤ length bytes
  pub front : b ≡ decode_message (take 12 bytes)
  pub room : 4 + header_len b ≤ length bytes
  pub split : 8 + (len + hmac_len b) ≡ header_len b
  pub whole : len % 16 ≡ 0

-- why a value means nothing: each fault, where none before it stands
abbrev pub Seg6Faulty : List ℕ → Seg6MessageBuffer → Seg6Fault → Type 0
Seg6Faulty bytes b Short = length bytes < 12
Seg6Faulty bytes b Length = (12 ≤ length bytes) × (length bytes < 4 + header_len b)
Seg6Faulty bytes b Hmac = (12 ≤ length bytes) × (4 + header_len b ≤ length bytes) × (hmac_len b ≡ 40) × (header_len b < 48)
Seg6Faulty bytes b Segments =
    (12 ≤ length bytes) × (4 + header_len b ≤ length bytes) × (8 + hmac_len b ≤ header_len b) × ((header_len b - (8 + hmac_len b)) % 16 ≢ 0)

abbrev pub Seg6Wrong : List ℕ → DecodeError → Type 0
Seg6Wrong bytes (Refused fault) = Seg6Faulty bytes (decode_message (take 12 bytes)) fault
Seg6Wrong bytes _ = ⊥

-- ---- how it is written

-- the flags, and the eights that the HMAC takes
abbrev pub key_flags : Option ℕ → ℕ
key_flags None = 0
key_flags (Some key) = 8

abbrev pub key_eights : Option ℕ → ℕ
key_eights None = 0
key_eights (Some key) = 5

-- type 5, a length of 38, no flags, the key, and a code of zeros
abbrev pub key_bytes : Option ℕ → List ℕ
key_bytes None = []
key_bytes (Some key) = 5 ∷ 38 ∷ 0 ∷ 0 ∷ (to_be_bytes w32 key ++ replicate 32 0)

-- the routing type is 4; the last segment is the first on the wire
abbrev pub front_of : Seg6 → Seg6MessageBuffer
front_of h = record {
  mode = mode_number h.mode;
  nexthdr = 0;
  hdrlen = 2 * length h.segments + key_eights h.hmac;
  seg_type = 4;
  segments_left = length h.segments - 1;
  first_segment = length h.segments - 1;
  flags = key_flags h.hmac;
  tag = 0;
}

abbrev pub body_bytes : Seg6 → List ℕ
body_bytes h = concat (reverse h.segments) ++ key_bytes h.hmac

abbrev pub seg6_bytes : Seg6 → List ℕ
seg6_bytes h = encode_message (front_of h) ++ body_bytes h

-- so many segments can the length byte say
abbrev pub most_segments : Option ℕ → ℕ
most_segments None = 127
most_segments (Some key) = 125

abbrev pub seg6_unfit : ℕ → Seg6 → Option EmitError
seg6_unfit kind h = option_or (too_long kind (length (seg6_bytes h))) (too_many (most_segments h.hmac) (length h.segments))

-- what can be read
abbrev pub HoldsKey : Option ℕ → Type 0
HoldsKey None = Unit {0}
HoldsKey (Some key) = key < 2 ^ 32

pub record HoldsSeg6By (table : ModeTable) (h : Seg6) : Type 0 where
  pub mode : mode_number h.mode < 2 ^ 32
  pub formed : IsFormed (modes_by table) h.mode
  pub whole : AllOf (λ a. length a ≡ 16) h.segments
  pub segments : AllOf IsBytes h.segments
  pub key : HoldsKey h.hmac
