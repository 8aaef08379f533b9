-- The routing header of an RPL tunnel (RFC 6554, section 3; linux/rpl.h, struct ipv6_rpl_sr_hdr): only headers without compression can be read.
use Rattle.std.specs.Prelude.{◌≡◌, ℕ}
use Rattle.std.proofs.Common.{refl}
use Rattle.npr_base.specs.Bits.{Bits, bits, ◌above◌, over_spare, packed}
use Rattle.npr_base.specs.Codec.{Codec}
use Rattle.npr_base.specs.Fields.{one_byte, unused, ◌and◌}
use Rattle.npr_srh.specs.Headed.{Fixed, Headed, headed}
use Rattle.npr_srh.specs.declared.rpl.RplSrh.{RplSrh}

-- the fields besides the length byte
pub record RplFront : Type 0 where
  pub next_header : ℕ
  pub routing_type : ℕ
  pub segments_left : ℕ
  pub cmpri : ℕ
  pub cmpre : ℕ
  pub pad : ℕ

-- the fifth byte: how much of each address but the last is left out, and how much of the last
abbrev pub compression : Bits (ℕ × ℕ)
compression = bits 4 above bits 4

-- the sixth: the padding at the end
abbrev pub padding : Bits ℕ
padding = over_spare 4 (bits 4)

-- nothing of any address is left out
pub record RplReadable (f : RplFront) : Type 0 where
  pub cmpri : f.cmpri ≡ 0
  pub cmpre : f.cmpre ≡ 0

-- in this order, the length byte behind the first; fields of four bits are written modulo 16, and the bits and bytes behind
-- them are dropped, and written 0
abbrev pub rpl_front : Fixed RplFront
rpl_front = record {
  Later = ℕ × (ℕ × ((ℕ × ℕ) × (ℕ × (Unit {0} × Unit {0}))));
  later = one_byte and one_byte and packed one_byte compression (λ n. refl) and packed one_byte padding (λ n. refl) and unused and unused;
  seen = record {
    of = λ (next_header, (routing_type, (segments_left, ((cmpri, cmpre), (pad, rest))))). record {
      next_header = next_header;
      routing_type = routing_type;
      segments_left = segments_left;
      cmpri = cmpri;
      cmpre = cmpre;
      pad = pad;
    };
    number = λ f. (f.next_header, (f.routing_type, (f.segments_left, ((f.cmpri, f.cmpre), (f.pad, (tt, tt))))));
    back = λ p. refl;
  };
  Readable = RplReadable;
  six = refl;
}

-- a header without where it lies in memory
abbrev pub Rpl : Type 0
Rpl = Headed RplFront

abbrev pub rpl_of : RplSrh → Rpl
rpl_of h = record {
  front =
      record { next_header = h.next_header; routing_type = h.routing_type; segments_left = h.segments_left; cmpri = h.cmpri; cmpre = h.cmpre; pad = h.pad };
  segments = h.segments.items;
}

abbrev pub rpl : Codec Rpl
rpl = headed rpl_front
