-- The attributes of an extended answer (linux/netlink.h, enum nlmsgerr_attrs), by their table, and where they stand.
use Rattle.std.specs.Prelude.{◌≢◌, ℕ, ◌+◌, ◌/◌, ◌%◌, ◌==◌, ◌||◌, ◌⊎◌, nat_lt, Bool, All, List, [], length, take, drop, max, Option, Some, None, if◌then◌else◌}
use Rattle.std.proofs.Common.{◌≡◌}
use Rattle.npr_base.specs.declared.attribute_set.AttributeSet.TheVariants.{Value}
use Rattle.npr_base.specs.declared.refusal.DecodeError.{DecodeError}
use Rattle.npr_base.specs.Framing.{Item, Front, Passes, Fault, number_of, pad}
use Rattle.npr_base.specs.NameText.{IsUnterminated}
use Rattle.npr_base.specs.Tables.{EnumTable, table_of, row, others, ◌or◌, value, text, items, exactly, raw, name, le32, refl, Reading, Family, writing_of}
use Rattle.npr_base.specs.Tables.{attributes_of, family_of_table}
use Rattle.netlink_packet_core.specs.Header.{header}
use Rattle.netlink_packet_core.specs.contracts.extended.ErrorAttribute.{enum}
use Rattle.netlink_packet_core.specs.declared.extended.ErrorAttribute.{ErrorAttribute}

-- the bit of this value is set
abbrev pub has_flag : ℕ → ℕ → Bool
has_flag flags bit = flags / bit % 2 == 1

-- how long the refused message is that stands behind the code of an error: as its header says, or a header alone under
-- NLM_F_CAPPED, and where there is none
abbrev pub refused_length : ℕ → List ℕ → ℕ
refused_length flags more = if has_flag flags 0x100 || nat_lt (length more) 16 then 16 else max 16 (header.decode (take 16 more)).length

-- the attributes behind an error's code, which begin at a multiple of four behind the refused message, under NLM_F_ACK_TLVS
abbrev pub error_attributes : ℕ → List ℕ → List ℕ
error_attributes flags more =
    if has_flag flags 0x200 then drop (refused_length flags more + pad (refused_length flags more)) more else []

-- and the refused message
abbrev pub refused_message : ℕ → List ℕ → List ℕ
refused_message flags more = if has_flag flags 0x200 then take (refused_length flags more) more else more

-- those behind the code of an end
abbrev pub done_attributes : ℕ → List ℕ → List ℕ
done_attributes flags more = if has_flag flags 0x200 then more else []

-- the table, in the order of the variants: a place that a refusal names is in no family
abbrev pub table : EnumTable enum
table =
    table_of enum (
    row Value 1 name (text ErrorAttribute.Message)  -- NLMSGERR_ATTR_MSG
    or row Value 2 (exactly le32) (value ErrorAttribute.Offset)  -- NLMSGERR_ATTR_OFFS
    or row Value 3 raw (items ErrorAttribute.Cookie)  -- NLMSGERR_ATTR_COOKIE
    or row Value 4 raw (items ErrorAttribute.Policy)  -- NLMSGERR_ATTR_POLICY
    or row Value 5 (exactly le32) (value ErrorAttribute.MissingType)  -- NLMSGERR_ATTR_MISS_TYPE
    or row Value 6 (exactly le32) (value ErrorAttribute.MissingNest)  -- NLMSGERR_ATTR_MISS_NEST
    or others (value ErrorAttribute.Other)) refl refl

-- the family
abbrev pub attributes : Reading (writing_of table)
attributes = attributes_of table

abbrev pub family : Family ErrorAttribute (Unit {0})
family = family_of_table table (λ c. attributes)

-- no text of the kernel
abbrev pub IsNoText : Item → Type 0
IsNoText x = number_of x.kind ≢ 1

-- attributes that are no texts, up to the rest
abbrev pub NoTexts : List ℕ → List ℕ → Type 0
NoTexts bytes rest = (xs : List Item) × Passes bytes xs rest × All IsNoText xs

-- the first text: that of the first attribute of number 1, without a final zero; none where there is none up to the end or a fault
abbrev pub IsFirstText : List ℕ → Option (List ℕ) → Type 0
IsFirstText bytes (Some text) =
    (x : Item) × (before : List ℕ) × (rest : List ℕ) × NoTexts bytes before × Front before x rest × (number_of x.kind ≡ 1) × IsUnterminated x.value text
IsFirstText bytes None = (rest : List ℕ) × NoTexts bytes rest × ((rest ≡ []) ⊎ ((e : DecodeError) × Fault rest e))
