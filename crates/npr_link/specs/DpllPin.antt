-- The pin of a digital phase-locked loop that a link is clocked by (linux/dpll.h, DPLL_A_PIN_*), by the table.
use Rattle.npr_base.specs.declared.attribute_set.AttributeSet.TheVariants.{LinkDpllPin as AtLinkDpllPin}
use Rattle.npr_base.specs.Tables.{EnumTable, table_of, row, others, ◌or◌, exactly, le32, value}
use Rattle.npr_base.specs.Tables.{refl, Reading, Family, writing_of, attributes_of, family_of_table}
use Rattle.npr_link.specs.contracts.dpll_pin.LinkDpllPin.{enum}
use Rattle.npr_link.specs.declared.dpll_pin.LinkDpllPin.{LinkDpllPin}

-- the table, in the order of the variants
abbrev pub table : EnumTable enum
table =
    table_of enum (
    row AtLinkDpllPin 1 (exactly le32) (value LinkDpllPin.Id)  -- DPLL_A_PIN_ID
    or others (value LinkDpllPin.Other)) refl refl

-- the family
unfoldable pub attributes : Reading (writing_of table)
attributes = attributes_of table

abbrev pub family : Family LinkDpllPin (Unit {0})
family = family_of_table table (λ c. attributes)
