-- The members of a SEG6 local tunnel (linux/seg6_local.h, SEG6_LOCAL_*), by their table.
use Rattle.std.specs.Prelude.{ℕ, List, ◌+◌, ◌++◌, Option, Some, codes, decimal}
use Rattle.std.specs.Net.Addr.{segments_of}
use Rattle.std.specs.Net.Text.{ipv4_text, ipv6_text}
use Rattle.npr_base.specs.declared.attribute_set.At.{At}
use Rattle.npr_base.specs.declared.attribute_set.AttributeSet.TheVariants.{Seg6Local}
use Rattle.npr_base.specs.Refusal.{at_number}
use Rattle.npr_base.specs.Text.{nla_text}
use Rattle.npr_base.specs.Tables.{EnumTable, table_of, row, others, ◌or◌, ◌also◌, value, seen, nothing, exactly, dropped, le32, octets4, octets16, refl}
use Rattle.npr_base.specs.Tables.{Reading, Family, writing_of, attributes_of, table-read, family_of_table, made_of}
use Rattle.npr_srh.specs.Keeping.{keeping_in, IsRowOf}
use Rattle.npr_srh.specs.Seg6LocalAction.{action, action_text}
use Rattle.npr_srh.specs.Seg6Local.{local, local_of}
use Rattle.npr_srh.specs.Segments.{header_text}
use Rattle.npr_srh.specs.contracts.seg6local.RouteSeg6LocalTunnel.{enum}
use Rattle.npr_srh.specs.declared.seg6local.RouteSeg6LocalTunnel.{RouteSeg6LocalTunnel}

-- where the value stands that may be kept
abbrev pub srh_at : At
srh_at = at_number Seg6Local 2

-- the table, in the order of the variants
abbrev pub table : EnumTable enum
table =
    table_of enum (
    row Seg6Local 0 dropped (nothing RouteSeg6LocalTunnel.Unspecified)  -- SEG6_LOCAL_UNSPEC
    or row Seg6Local 1 (exactly action) (value RouteSeg6LocalTunnel.Action)  -- SEG6_LOCAL_ACTION
    or row Seg6Local 2 local (seen local_of RouteSeg6LocalTunnel.Srh)  -- SEG6_LOCAL_SRH
    or row Seg6Local 3 (exactly le32) (value RouteSeg6LocalTunnel.Table)  -- SEG6_LOCAL_TABLE
    or row Seg6Local 4 (exactly octets4) (value RouteSeg6LocalTunnel.Nh4)  -- SEG6_LOCAL_NH4
    or row Seg6Local 5 (exactly octets16) (value RouteSeg6LocalTunnel.Nh6)  -- SEG6_LOCAL_NH6
    or row Seg6Local 6 (exactly le32) (value RouteSeg6LocalTunnel.Iif)  -- SEG6_LOCAL_IIF
    or row Seg6Local 7 (exactly le32) (value RouteSeg6LocalTunnel.Oif)  -- SEG6_LOCAL_OIF
    or row Seg6Local 9 (exactly le32) (value RouteSeg6LocalTunnel.VrfTable)  -- SEG6_LOCAL_VRFTABLE
    or others (value RouteSeg6LocalTunnel.Other)) refl refl

-- at its number a value is read by its row
pub here : IsRowOf (attributes_of table) 2 local
here x m e p = let r = table-read table x m p in let q = rw e at r in (q.0, q.1)

-- the family: where the routing header can't be read, the attribute is kept
unfoldable pub attributes : Reading (writing_of table)
attributes = keeping_in table 2 local here (λ x old new looks. looks)

abbrev pub family : Family RouteSeg6LocalTunnel (Unit {0})
family = family_of_table table (λ c. attributes)

-- the text of a member
abbrev pub local_text : family.Meaning → Option (List ℕ)
local_text =
    made_of table (
    (λ u. Some (codes "unspecified"))
    also (λ a. Some (codes "action " ++ action_text a))
    also (λ h. header_text (h.front.first_segment + 1) h.segments)
    also (λ n. Some (codes "table " ++ decimal n))
    also (λ a. Some (codes "nh4 " ++ ipv4_text a))
    also (λ a. Some (codes "nh6 " ++ ipv6_text (segments_of a)))
    also (λ n. Some (codes "iif " ++ decimal n))
    also (λ n. Some (codes "oif " ++ decimal n))
    also (λ n. Some (codes "vrftable " ++ decimal n))
    also nla_text)
