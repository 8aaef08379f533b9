-- The members of an RPL tunnel (linux/rpl_iptunnel.h, RPL_IPTUNNEL_*), by their table.
use Rattle.std.specs.Prelude.{ℕ, List, Option, Some, codes}
use Rattle.npr_base.specs.declared.attribute_set.At.{At}
use Rattle.npr_base.specs.declared.attribute_set.AttributeSet.TheVariants.{Rpl as OfRpl}
use Rattle.npr_base.specs.Refusal.{at_number}
use Rattle.npr_base.specs.Text.{nla_text}
use Rattle.npr_base.specs.Tables.{EnumTable, table_of, row, others, ◌or◌, ◌also◌, value, seen, nothing, dropped, refl, Reading, Family, writing_of}
use Rattle.npr_base.specs.Tables.{attributes_of, table-read, family_of_table, made_of}
use Rattle.npr_srh.specs.Keeping.{keeping_in, IsRowOf}
use Rattle.npr_srh.specs.Rpl.{rpl, rpl_of}
use Rattle.npr_srh.specs.Segments.{header_text}
use Rattle.npr_srh.specs.contracts.rpl.RouteRplIpTunnel.{enum}
use Rattle.npr_srh.specs.declared.rpl.RouteRplIpTunnel.{RouteRplIpTunnel}

-- where the value stands that may be kept
abbrev pub srh_at : At
srh_at = at_number OfRpl 1

-- the table, in the order of the variants
abbrev pub table : EnumTable enum
table =
    table_of enum (
    row OfRpl 0 dropped (nothing RouteRplIpTunnel.Unspecified)  -- RPL_IPTUNNEL_UNSPEC
    or row OfRpl 1 rpl (seen rpl_of RouteRplIpTunnel.Srh)  -- RPL_IPTUNNEL_SRH
    or others (value RouteRplIpTunnel.Other)) refl refl

-- at its number a value is read by its row
pub here : IsRowOf (attributes_of table) 1 rpl
here x m e p = let r = table-read table x m p in let q = rw e at r in (q.0, q.1)

-- the family: where the routing header can't be read, the attribute is kept
unfoldable pub attributes : Reading (writing_of table)
attributes = keeping_in table 1 rpl here (λ x old new looks. looks)

abbrev pub family : Family RouteRplIpTunnel (Unit {0})
family = family_of_table table (λ c. attributes)

-- the text of a member
abbrev pub rpl_text : family.Meaning → Option (List ℕ)
rpl_text =
    made_of table (
    (λ u. Some (codes "unspecified"))
    also (λ h. header_text h.front.segments_left h.segments)
    also nla_text)
