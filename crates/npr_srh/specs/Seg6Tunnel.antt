-- The members of a SEG6 tunnel (linux/seg6_iptunnel.h, SEG6_IPTUNNEL_*), by their table.
use Rattle.std.proofs.Common.{◌≡◌, inl, inr, refl}
use Rattle.npr_base.specs.declared.attribute_set.AttributeSet.TheVariants.{Seg6}
use Rattle.npr_base.specs.EnumFamily.{rewritten}
use Rattle.npr_base.specs.Family.{Writing}
use Rattle.npr_base.specs.Tables.{EnumTable, table_of, row, others, ◌or◌, value, seen, exactly, le32, octets16, Reading, Family, Meanings, writing_of}
use Rattle.npr_base.specs.Tables.{attributes_of, family_of_table}
use Rattle.npr_srh.specs.Seg6.{seg6_of, normalized as normalized_header}
use Rattle.npr_srh.specs.Seg6Codec.{seg6_by}
use Rattle.npr_srh.specs.Seg6Mode.{ModeTable, modes}
use Rattle.npr_srh.specs.contracts.seg6.RouteSeg6IpTunnel.{enum}
use Rattle.npr_srh.specs.declared.seg6.RouteSeg6IpTunnel.{RouteSeg6IpTunnel}

-- the table, by a table of modes, in the order of the variants
abbrev pub table : ModeTable → EnumTable enum
table by =
    table_of enum (
    row Seg6 1 (seg6_by by) (seen seg6_of RouteSeg6IpTunnel.Seg6)  -- SEG6_IPTUNNEL_SRH
    or row Seg6 2 (exactly octets16) (value RouteSeg6IpTunnel.Src)  -- SEG6_IPTUNNEL_SRC
    or row Seg6 3 (exactly le32) (value RouteSeg6IpTunnel.Table)  -- SEG6_IPTUNNEL_TABLE
    or others (value RouteSeg6IpTunnel.Other)) refl refl

-- what a member is, without where it lies in memory
abbrev pub Meaning : Type 0
Meaning = Meanings (table modes)

-- the member with its header brought up to the table of today
abbrev pub normalized : Meaning → Meaning
normalized (inl h) = inl (normalized_header h)
normalized m = m

-- how each is written, whatever the table of modes
abbrev pub writing : Writing Meaning
writing = writing_of (table modes)

pub shapes : (by : ModeTable) (m : Meaning) → writing.shape m ≡ (writing_of (table by)).shape m
shapes by (inl h) = refl
shapes by (inr m) = refl

pub members : (by : ModeTable) (m : Meaning) → writing.members m ≡ (writing_of (table by)).members m
members by (inl h) = refl
members by (inr m) = refl

-- the family, by a table of modes and by that of today
unfoldable pub attributes_by : ModeTable → Reading writing
attributes_by by = rewritten (attributes_of (table by)) writing (shapes by) (members by)

abbrev pub attributes : Reading writing
attributes = attributes_by modes

abbrev pub family : Family RouteSeg6IpTunnel (Unit {0})
family = family_of_table (table modes) (λ c. attributes)
