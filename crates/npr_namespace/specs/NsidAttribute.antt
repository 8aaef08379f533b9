-- The attributes of a message of name spaces (linux/net_namespace.h, NETNSA_*), by their table.
use Rattle.npr_base.specs.declared.attribute_set.AttributeSet.TheVariants.{Nsid as AtNsidAttribute}
use Rattle.npr_base.specs.Tables.{EnumTable, table_of, row, others, ◌or◌, value, exactly, signed32, le32, refl, Reading, Family, writing_of, attributes_of}
use Rattle.npr_base.specs.Tables.{family_of_table}
use Rattle.npr_namespace.specs.contracts.nsid_attribute.NsidAttribute.{enum}
use Rattle.npr_namespace.specs.declared.nsid_attribute.NsidAttribute.{NsidAttribute}

-- the table, in the order of the variants
abbrev pub table : EnumTable enum
table =
    table_of enum (
    row AtNsidAttribute 1 (exactly signed32) (value NsidAttribute.Id)  -- NETNSA_NSID
    or row AtNsidAttribute 2 (exactly le32) (value NsidAttribute.Pid)  -- NETNSA_PID
    or row AtNsidAttribute 3 (exactly le32) (value NsidAttribute.Fd)  -- NETNSA_FD
    or row AtNsidAttribute 4 (exactly signed32) (value NsidAttribute.TargetNsid)  -- NETNSA_TARGET_NSID
    or row AtNsidAttribute 5 (exactly signed32) (value NsidAttribute.CurrentNsid)  -- NETNSA_CURRENT_NSID
    or others (value NsidAttribute.Other)) refl refl

-- the family
abbrev pub attributes : Reading (writing_of table)
attributes = attributes_of table

abbrev pub family : Family NsidAttribute (Unit {0})
family = family_of_table table (λ c. attributes)
