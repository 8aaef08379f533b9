-- The routing header of a SEG6 local tunnel (linux/seg6_local.h, SEG6_LOCAL_SRH): a segment routing header (RFC 8754, section 2), with its tag big endian.
use Rattle.std.specs.Prelude.{ℕ}
use Rattle.std.proofs.Common.{refl}
use Rattle.npr_base.specs.Codec.{Codec}
use Rattle.npr_base.specs.Fields.{one_byte, be_two, ◌and◌}
use Rattle.npr_srh.specs.Headed.{Fixed, Headed, headed}
use Rattle.npr_srh.specs.declared.seg6local_srh.Seg6LocalSrh.{Seg6LocalSrh}

-- the fields besides the length byte
pub record LocalFront : Type 0 where
  pub next_header : ℕ
  pub routing_type : ℕ
  pub segments_left : ℕ
  pub first_segment : ℕ
  pub flags : ℕ
  pub tag : ℕ

-- in this order, the length byte behind the first
abbrev pub local_front : Fixed LocalFront
local_front = record {
  Later = ℕ × (ℕ × (ℕ × (ℕ × ℕ)));
  later = one_byte and one_byte and one_byte and one_byte and be_two;
  seen = record {
    of = λ (next_header, (routing_type, (segments_left, (first_segment, (flags, tag))))). record {
      next_header = next_header;
      routing_type = routing_type;
      segments_left = segments_left;
      first_segment = first_segment;
      flags = flags;
      tag = tag;
    };
    number = λ f. (f.next_header, (f.routing_type, (f.segments_left, (f.first_segment, (f.flags, f.tag)))));
    back = λ p. refl;
  };
  Readable = λ f. Unit {0};
  six = refl;
}

-- a header without where it lies in memory
abbrev pub Local : Type 0
Local = Headed LocalFront

abbrev pub local_of : Seg6LocalSrh → Local
local_of h = record {
  front =
      record {
        next_header = h.next_header;
        routing_type = h.routing_type;
        segments_left = h.segments_left;
        first_segment = h.first_segment;
        flags = h.flags;
        tag = h.tag;
      };
  segments = h.segments.items;
}

abbrev pub local : Codec Local
local = headed local_front
