-- The members of an XFRM tunnel (linux/lwtunnel.h, LWT_XFRM_*), by their table.
use Rattle.std.specs.Prelude.{ℕ, List, ◌++◌, Option, Some, codes, decimal}
use Rattle.npr_base.specs.declared.attribute_set.AttributeSet.TheVariants.{Xfrm}
use Rattle.npr_base.specs.Text.{nla_text}
use Rattle.npr_base.specs.Tables.{EnumTable, table_of, row, others, ◌or◌, ◌also◌, value, nothing, exactly, dropped, le32, refl, Reading, Family}
use Rattle.npr_base.specs.Tables.{writing_of, attributes_of, family_of_table, made_of}
use Rattle.npr_encapsulation.specs.contracts.xfrm.RouteXfrmTunnel.{enum}
use Rattle.npr_encapsulation.specs.declared.xfrm.RouteXfrmTunnel.{RouteXfrmTunnel}

-- the table, in the order of the variants
abbrev pub table : EnumTable enum
table =
    table_of enum (
    row Xfrm 0 dropped (nothing RouteXfrmTunnel.Unspecified)  -- LWT_XFRM_UNSPEC
    or row Xfrm 1 (exactly le32) (value RouteXfrmTunnel.IfId)  -- LWT_XFRM_IF_ID
    or row Xfrm 2 (exactly le32) (value RouteXfrmTunnel.Link)  -- LWT_XFRM_LINK
    or others (value RouteXfrmTunnel.Other)) refl refl

-- the family
unfoldable pub attributes : Reading (writing_of table)
attributes = attributes_of table

abbrev pub family : Family RouteXfrmTunnel (Unit {0})
family = family_of_table table (λ c. attributes)

-- the text of a member
abbrev pub xfrm_text : family.Meaning → Option (List ℕ)
xfrm_text =
    made_of table (
    (λ u. Some (codes "unspecified"))
    also (λ n. Some (codes "if_id " ++ decimal n))
    also (λ n. Some (codes "link_dev " ++ decimal n))
    also nla_text)
