-- The members of a group (linux/nexthop.h, struct nexthop_grp): eight bytes each, the last two of which are not looked at.
use Rattle.std.specs.Prelude.{List}
use Rattle.std.proofs.Common.{refl, lit<}
use Rattle.npr_base.specs.Blocks.{Width, blocks}
use Rattle.npr_base.specs.Codec.{Codec}
use Rattle.npr_base.specs.Fields.{le_two, le_four, unused, ◌fills◌, ◌then◌, last, structure}
use Rattle.npr_base.specs.Layout.{Layout}
use Rattle.npr_base.specs.MoreFields.{◌behind◌}
use Rattle.npr_nexthop.specs.contracts.group.NextHopGroupEntry.{struct}
use Rattle.npr_nexthop.specs.declared.group.NextHopGroupEntry.{NextHopGroupEntry}

-- in this order, little endian
abbrev pub group_entry : Layout NextHopGroupEntry
group_entry =
    structure struct
    (NextHopGroupEntry.id fills le_four then last (NextHopGroupEntry.weight fills le_two behind unused behind unused)) refl (λ v. tt)

-- always in eight bytes
abbrev pub group_entry_width : Width NextHopGroupEntry
group_entry_width = record { layout = group_entry; positive = lit< tt; long = λ x. refl; none = record { id = 0; weight = 0 } }

-- one behind the other; what is left at the end and too short for one is dropped
abbrev pub group_entries : Codec (List NextHopGroupEntry)
group_entries = blocks group_entry (lit< tt)
