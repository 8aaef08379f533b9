-- The members of an IOAM6 tunnel (linux/ioam6_iptunnel.h, IOAM6_IPTUNNEL_*), by their table.
use Rattle.std.specs.Prelude.{ℕ, List, ◌++◌, Option, Some, codes, decimal}
use Rattle.std.specs.Net.Addr.{segments_of}
use Rattle.std.specs.Net.Text.{ipv6_text}
use Rattle.npr_base.specs.declared.attribute_set.At.{At}
use Rattle.npr_base.specs.declared.attribute_set.AttributeSet.TheVariants.{Ioam6}
use Rattle.npr_base.specs.Refusal.{at_number}
use Rattle.npr_base.specs.Text.{nla_text}
use Rattle.npr_base.specs.Tables.{EnumTable, table_of, row, others, ◌or◌, ◌also◌, value, nothing, exactly, dropped, le32, octets16, refl, Reading}
use Rattle.npr_base.specs.Tables.{Family, writing_of, attributes_of, table-read, family_of_table, made_of}
use Rattle.npr_srh.specs.Keeping.{keeping_in, IsRowOf}
use Rattle.npr_srh.specs.Ioam6Mode.{ioam6_mode, ioam6_mode_text}
use Rattle.npr_srh.specs.Trace.{trace, trace_text}
use Rattle.npr_srh.specs.contracts.ioam6.RouteIoam6Tunnel.{enum}
use Rattle.npr_srh.specs.declared.ioam6.RouteIoam6Tunnel.{RouteIoam6Tunnel}

-- where the value stands that may be kept
abbrev pub trace_at : At
trace_at = at_number Ioam6 3

-- the table, in the order of the variants
abbrev pub table : EnumTable enum
table =
    table_of enum (
    row Ioam6 0 dropped (nothing RouteIoam6Tunnel.Unspecified)  -- IOAM6_IPTUNNEL_UNSPEC
    or row Ioam6 1 (exactly ioam6_mode) (value RouteIoam6Tunnel.Mode)  -- IOAM6_IPTUNNEL_MODE
    or row Ioam6 2 (exactly octets16) (value RouteIoam6Tunnel.Dst)  -- IOAM6_IPTUNNEL_DST
    or row Ioam6 3 trace (value RouteIoam6Tunnel.Trace)  -- IOAM6_IPTUNNEL_TRACE
    or row Ioam6 4 (exactly le32) (value RouteIoam6Tunnel.FreqK)  -- IOAM6_IPTUNNEL_FREQ_K
    or row Ioam6 5 (exactly le32) (value RouteIoam6Tunnel.FreqN)  -- IOAM6_IPTUNNEL_FREQ_N
    or row Ioam6 6 (exactly octets16) (value RouteIoam6Tunnel.Src)  -- IOAM6_IPTUNNEL_SRC
    or others (value RouteIoam6Tunnel.Other)) refl refl

-- at its number a value is read by its row
pub here : IsRowOf (attributes_of table) 3 trace
here x m e p = let r = table-read table x m p in let q = rw e at r in (q.0, q.1)

-- the family: where the trace can't be read, the attribute is kept
unfoldable pub attributes : Reading (writing_of table)
attributes = keeping_in table 3 trace here (λ x old new looks. looks)

abbrev pub family : Family RouteIoam6Tunnel (Unit {0})
family = family_of_table table (λ c. attributes)

-- the text of a member
abbrev pub ioam6_text : family.Meaning → Option (List ℕ)
ioam6_text =
    made_of table (
    (λ u. Some (codes "unspecified"))
    also (λ m. Some (codes "mode " ++ ioam6_mode_text m))
    also (λ a. Some (codes "tundst " ++ ipv6_text (segments_of a)))
    also (λ t. Some (trace_text t))
    also (λ n. Some (codes "freq " ++ decimal n))
    also (λ n. Some (codes "/" ++ decimal n))
    also (λ a. Some (codes "tunsrc " ++ ipv6_text (segments_of a)))
    also nla_text)
