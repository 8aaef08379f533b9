-- The options of a tunnel over IP (linux/lwtunnel.h, LWTUNNEL_IP_OPTS_*), by their table. Each is written with NESTED.
use Rattle.std.specs.Prelude.{ℕ, List, Option, Some, codes}
use Rattle.npr_base.specs.declared.attribute_set.AttributeSet.TheVariants.{Opt, Vxlan as AtVxlan, Erspan as AtErspan}
use Rattle.npr_base.specs.Text.{joined_by, nla_text}
use Rattle.npr_base.specs.Tables.{EnumTable, table_of, marked_row, others, ◌or◌, ◌also◌, value, listed, list_of, refl, Reading, Family, writing_of}
use Rattle.npr_base.specs.Tables.{attributes_of, family_of_table, made_of}
use Rattle.npr_encapsulation.specs.ErspanOptions as OfErspan
use Rattle.npr_encapsulation.specs.Geneve.{option_of, geneve_text}
use Rattle.npr_encapsulation.specs.GeneveOptions.{geneve_options}
use Rattle.npr_encapsulation.specs.VxlanOptions as OfVxlan
use Rattle.npr_encapsulation.specs.contracts.tunnel_opts.RouteLwTunnelOpt.{enum}
use Rattle.npr_encapsulation.specs.declared.tunnel_opts.RouteLwTunnelOpt.{RouteLwTunnelOpt}

-- the table, in the order of the variants
abbrev pub table : EnumTable enum
table =
    table_of enum (
    marked_row Opt 1 geneve_options (listed option_of RouteLwTunnelOpt.Geneve)  -- LWTUNNEL_IP_OPTS_GENEVE
    or marked_row Opt 2 (list_of AtVxlan OfVxlan.attributes) (listed OfVxlan.family.meaning RouteLwTunnelOpt.Vxlan)  -- LWTUNNEL_IP_OPTS_VXLAN
    or marked_row Opt 3 (list_of AtErspan OfErspan.attributes) (listed OfErspan.family.meaning RouteLwTunnelOpt.Erspan)  -- LWTUNNEL_IP_OPTS_ERSPAN
    or others (value RouteLwTunnelOpt.Other)) refl refl

-- the family
unfoldable pub attributes : Reading (writing_of table)
attributes = attributes_of table

abbrev pub family : Family RouteLwTunnelOpt (Unit {0})
family = family_of_table table (λ c. attributes)

-- the text of an option
abbrev pub tunnel_option_text : family.Meaning → Option (List ℕ)
tunnel_option_text =
    made_of table (
    joined_by (codes ",") (λ o. Some (geneve_text o))
    also joined_by (codes ",") OfVxlan.vxlan_text
    also (λ xs. Some (OfErspan.erspan_text xs))
    also nla_text)
