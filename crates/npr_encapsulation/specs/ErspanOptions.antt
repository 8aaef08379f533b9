-- The options of ERSPAN (linux/lwtunnel.h, LWTUNNEL_IP_OPT_ERSPAN_*), by their table.
use Rattle.std.specs.Prelude.{◌==◌, if◌then◌else◌, ℕ, List, ◌++◌, Option, None, codes, decimal}
use Rattle.std.specs.Prelude.{unwrap_or, filter_map}
use Rattle.std.specs.List.{last_or}
use Rattle.npr_base.specs.declared.attribute_set.AttributeSet.TheVariants.{Erspan}
use Rattle.npr_base.specs.Tables.{EnumTable, table_of, row, others, ◌or◌, value, exactly, byte, be32, refl, Reading, Family, ValueAt, value_at}
use Rattle.npr_base.specs.Tables.{found_at, writing_of, attributes_of, family_of_table}
use Rattle.npr_encapsulation.specs.contracts.erspan.RouteErspanOpt.{enum}
use Rattle.npr_encapsulation.specs.declared.erspan.RouteErspanOpt.{RouteErspanOpt}

-- the table, in the order of the variants
abbrev pub table : EnumTable enum
table =
    table_of enum (
    row Erspan 1 (exactly byte) (value RouteErspanOpt.Ver)  -- LWTUNNEL_IP_OPT_ERSPAN_VER
    or row Erspan 2 (exactly be32) (value RouteErspanOpt.Index)  -- LWTUNNEL_IP_OPT_ERSPAN_INDEX
    or row Erspan 3 (exactly byte) (value RouteErspanOpt.Dir)  -- LWTUNNEL_IP_OPT_ERSPAN_DIR
    or row Erspan 4 (exactly byte) (value RouteErspanOpt.Hwid)  -- LWTUNNEL_IP_OPT_ERSPAN_HWID
    or others (value RouteErspanOpt.Other)) refl refl

-- the family
unfoldable pub attributes : Reading (writing_of table)
attributes = attributes_of table

abbrev pub family : Family RouteErspanOpt (Unit {0})
family = family_of_table table (λ c. attributes)

-- by the number of its row: the option that has such a value
abbrev pub option : (number : ℕ) → ValueAt table number → family.Meaning
option number v = value_at table number v

-- the value of an option, where it is of one kind
abbrev pub version_of : family.Meaning → Option ℕ
version_of m = found_at table 1 m

abbrev pub index_of : family.Meaning → Option ℕ
index_of m = found_at table 2 m

abbrev pub direction_of : family.Meaning → Option ℕ
direction_of m = found_at table 3 m

abbrev pub hardware_id_of : family.Meaning → Option ℕ
hardware_id_of m = found_at table 4 m

-- the last value of a kind in a list, or 0 where there is none
abbrev pub last_of : (family.Meaning → Option ℕ) → List family.Meaning → ℕ
last_of value ms = unwrap_or (last_or None (filter_map value ms)) 0

-- the text of a list: version 1 has an index, and every other a direction and an id of the hardware
abbrev pub erspan_text : List family.Meaning → List ℕ
erspan_text ms =
    codes "erspan_opts " ++ (if last_of version_of ms == 1
    then codes "1:" ++ decimal (last_of index_of ms) ++ codes ":0:0"
    else decimal (last_of version_of ms) ++ codes ":0:" ++ decimal (last_of direction_of ms) ++ codes ":" ++ decimal (last_of hardware_id_of ms))
