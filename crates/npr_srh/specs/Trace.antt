-- The header of an IOAM trace (RFC 9197, section 4.4.1; linux/ioam6.h, struct ioam6_trace_hdr): eight bytes.
use Rattle.std.specs.Prelude.{◌≡◌, ℕ, ◌*◌, Bool, List, ◌++◌, length, codes, decimal, None}
use Rattle.std.proofs.Common.{refl}
use Rattle.npr_base.specs.declared.refusal.DecodeError.TheVariants.{Unsupported}
use Rattle.npr_base.specs.Bits.{Bits, bits, flag, ◌above◌, over_spare, under_spare, packed}
use Rattle.npr_base.specs.Fields.{one_byte, be_two, be_four, ◌fills◌, ◌then◌, spread, last, structure}
use Rattle.npr_base.specs.Layout.{Layout}
use Rattle.npr_base.specs.lemmas.Codec.{exactly-one, exactly-holds, exactly-back, exactly-grows}
use Rattle.npr_base.specs.Codec.{Codec, no_members}
use Rattle.npr_base.specs.Showing.{shows_inside}
use Rattle.npr_base.specs.Text.{padded_hex_text}
use Rattle.npr_srh.specs.Keeping.{IsUnread}
use Rattle.npr_srh.specs.contracts.ioam6.Ioam6TraceHdr.{struct}
use Rattle.npr_srh.specs.declared.ioam6.Ioam6TraceHdr.{Ioam6TraceHdr}

-- what a node writes: the length of its data, and whether one found no room for it
abbrev pub node : Bits (ℕ × Bool)
node = over_spare 2 (bits 5 above flag)

-- the room that is left
abbrev pub room : Bits ℕ
room = under_spare 1 (bits 7)

-- which data, a bit for each
abbrev pub trace_type : Bits ℕ
trace_type = over_spare 8 (bits 24)

-- big endian: the number of the namespace, and then these, each written modulo its bits
abbrev pub trace_layout : Layout Ioam6TraceHdr
trace_layout =
    structure struct
    (Ioam6TraceHdr.namespace_id fills be_two
    then spread ((λ t. (t.nodelen, t.overflow)) fills packed one_byte node (λ n. refl)
    then Ioam6TraceHdr.remlen fills packed one_byte room (λ n. refl) then last (Ioam6TraceHdr.trace_type fills packed be_four trace_type (λ n. refl))))
    refl (λ v. tt)

-- a value of exactly eight bytes
abbrev pub IsTrace : List ℕ → Ioam6TraceHdr → Type 0
IsTrace bytes t = (length bytes ≡ 8) × (t ≡ trace_layout.decode bytes)

abbrev pub trace : Codec Ioam6TraceHdr
trace = record {
  Reads = IsTrace;
  Wrong = λ at bytes e. IsUnread IsTrace bytes × (e ≡ Unsupported at);
  encode = trace_layout.encode;
  unfit = λ kind t. None;
  Holds = trace_layout.Holds;
  members = no_members;
  one_reading = exactly-one trace_layout;
  no_fault = λ at bytes t e p q. q.0.no t p;
  reads_holds = exactly-holds trace_layout;
  reads_back = λ kind t h fits. exactly-back trace_layout t h;
  grows = exactly-grows trace_layout;
  showing = shows_inside;
}

-- the text of a trace; its room is printed in bytes
abbrev pub trace_text : Ioam6TraceHdr → List ℕ
trace_text t =
    codes "trace prealloc type 0x" ++ padded_hex_text 6 t.trace_type ++ codes " ns " ++ decimal t.namespace_id
    ++ codes " size " ++ decimal (4 * t.remlen)
