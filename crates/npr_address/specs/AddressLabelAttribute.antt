-- The attributes of a message of address labels (linux/if_addrlabel.h, IFAL_*), by their table.
use Rattle.npr_base.specs.declared.attribute_set.AttributeSet.TheVariants.{AddressLabel as AtAddressLabelAttribute}
use Rattle.npr_base.specs.Tables.{EnumTable, table_of, row, others, ◌or◌, value, exactly, le32, octets16, refl, Reading, Family, writing_of, attributes_of}
use Rattle.npr_base.specs.Tables.{family_of_table}
use Rattle.npr_address.specs.contracts.address_label_attribute.AddressLabelAttribute.{enum}
use Rattle.npr_address.specs.declared.address_label_attribute.AddressLabelAttribute.{AddressLabelAttribute}

-- the table, in the order of the variants
abbrev pub table : EnumTable enum
table =
    table_of enum (
    row AtAddressLabelAttribute 1 (exactly octets16) (value AddressLabelAttribute.Address)  -- IFAL_ADDRESS
    or row AtAddressLabelAttribute 2 (exactly le32) (value AddressLabelAttribute.Label)  -- IFAL_LABEL
    or others (value AddressLabelAttribute.Other)) refl refl

-- the family
abbrev pub attributes : Reading (writing_of table)
attributes = attributes_of table

abbrev pub family : Family AddressLabelAttribute (Unit {0})
family = family_of_table table (λ c. attributes)
