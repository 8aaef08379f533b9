-- The options of VXLAN (linux/lwtunnel.h, LWTUNNEL_IP_OPT_VXLAN_*), by their table.
use Rattle.std.specs.Prelude.{ℕ, List, ◌++◌, Option, Some, codes, decimal}
use Rattle.npr_base.specs.declared.attribute_set.AttributeSet.TheVariants.{Vxlan}
use Rattle.npr_base.specs.Text.{nla_text}
use Rattle.npr_base.specs.Tables.{EnumTable, table_of, row, others, ◌or◌, ◌also◌, value, exactly, le32, refl, Reading, Family, writing_of}
use Rattle.npr_base.specs.Tables.{attributes_of, family_of_table, made_of}
use Rattle.npr_encapsulation.specs.contracts.vxlan.RouteVxlanOpt.{enum}
use Rattle.npr_encapsulation.specs.declared.vxlan.RouteVxlanOpt.{RouteVxlanOpt}

-- the table, in the order of the variants
abbrev pub table : EnumTable enum
table =
    table_of enum (
    row Vxlan 1 (exactly le32) (value RouteVxlanOpt.Gbp)  -- LWTUNNEL_IP_OPT_VXLAN_GBP
    or others (value RouteVxlanOpt.Other)) refl refl

-- the family
unfoldable pub attributes : Reading (writing_of table)
attributes = attributes_of table

abbrev pub family : Family RouteVxlanOpt (Unit {0})
family = family_of_table table (λ c. attributes)

-- the text of an option
abbrev pub vxlan_text : family.Meaning → Option (List ℕ)
vxlan_text =
    made_of table (
    (λ n. Some (codes "vxlan_opts " ++ decimal n))
    also nla_text)
