-- What a driver says of a link (linux/if_link.h, IFLA_INFO_*), by their table under what governs the list.
use Rattle.std.proofs.Common.{◌≡◌, inl, inr, refl}
use Rattle.npr_base.specs.declared.attribute_set.AttributeSet.TheVariants.{LinkInfo as AtInfo}
use Rattle.npr_base.specs.EnumFamily.{rewritten}
use Rattle.npr_base.specs.Family.{Writing, Reading, Family}
use Rattle.npr_base.specs.Tables.{EnumTable, table_of, row, others, ◌or◌, value, items, seen, raw, Meanings, writing_of, attributes_of, family_of_table}
use Rattle.npr_link.specs.Governing.{Forms, none_governs}
use Rattle.npr_link.specs.InfoData.{info_data, info_data_of}
use Rattle.npr_link.specs.InfoKind.{info_kind, info_kind_of}
use Rattle.npr_link.specs.PortData.{port_data, port_data_of}
use Rattle.npr_link.specs.PortKind.{port_kind, port_kind_of}
use Rattle.npr_link.specs.contracts.info.LinkInfo.{enum}
use Rattle.npr_link.specs.declared.info.LinkInfo.{LinkInfo}

-- the table, in the order of the variants
abbrev pub table : Forms → EnumTable enum
table forms =
    table_of enum (
    row AtInfo 1 info_kind (seen info_kind_of LinkInfo.Kind)  -- IFLA_INFO_KIND
    or row AtInfo 2 (info_data forms.0) (seen info_data_of LinkInfo.Data)  -- IFLA_INFO_DATA
    or row AtInfo 3 raw (items LinkInfo.Xstats)  -- IFLA_INFO_XSTATS
    or row AtInfo 4 port_kind (seen port_kind_of LinkInfo.PortKind)  -- IFLA_INFO_SLAVE_KIND
    or row AtInfo 5 (port_data forms.1) (seen port_data_of LinkInfo.PortData)  -- IFLA_INFO_SLAVE_DATA
    or others (value LinkInfo.Other)) refl refl

-- what an attribute is, without where it lies in memory
abbrev pub Meaning : Type 0
Meaning = Meanings (table none_governs)

-- how each is written, whatever governs the list
abbrev pub writing : Writing Meaning
writing = writing_of (table none_governs)

pub shapes : (forms : Forms) (m : Meaning) → writing.shape m ≡ (writing_of (table forms)).shape m
shapes forms (inl k) = refl
shapes forms (inr (inl d)) = refl
shapes forms (inr (inr (inl x))) = refl
shapes forms (inr (inr (inr (inl k)))) = refl
shapes forms (inr (inr (inr (inr (inl d))))) = refl
shapes forms (inr (inr (inr (inr (inr x))))) = refl

pub members : (forms : Forms) (m : Meaning) → writing.members m ≡ (writing_of (table forms)).members m
members forms (inl k) = refl
members forms (inr (inl d)) = refl
members forms (inr (inr (inl x))) = refl
members forms (inr (inr (inr (inl k)))) = refl
members forms (inr (inr (inr (inr (inl d))))) = refl
members forms (inr (inr (inr (inr (inr x))))) = refl

-- the family, under what governs the list
abbrev pub attributes : Forms → Reading writing
attributes forms = rewritten (attributes_of (table forms)) writing (shapes forms) (members forms)

abbrev pub family : Family LinkInfo Forms
family = family_of_table (table none_governs) attributes
