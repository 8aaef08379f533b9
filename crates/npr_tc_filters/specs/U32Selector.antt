-- What a u32 filter looks for (linux/pkt_cls.h, struct tc_u32_sel): a structure, and its keys behind it.
use Rattle.std.specs.Prelude.{ℕ, List}
use Rattle.npr_base.specs.Codec.{Codec}
use Rattle.npr_base.specs.Fields.{one_byte, le_two, be_two, be_four, unused, ◌holding◌, ◌and◌, fields}
use Rattle.npr_base.specs.Layout.{Layout}
use Rattle.npr_base.specs.MoreFields.{◌behind◌}
use Rattle.npr_tc_actions.specs.Headed.{headed}
use Rattle.npr_tc_filters.specs.U32Key.{u32_key_width}
use Rattle.npr_tc_filters.specs.U32SelectorFlags.{u32_selector_flag_bits}
use Rattle.npr_tc_filters.specs.declared.u32_key.TcU32Key.{TcU32Key}
use Rattle.npr_tc_filters.specs.declared.u32_selector.TcU32Selector.{TcU32Selector}
use Rattle.npr_tc_filters.specs.declared.u32_selector_flags.TcU32SelectorFlags.{TcU32SelectorFlags}

-- flags, offshift, nkeys, offmask, off, offoff, hoff and hmask
abbrev pub U32Front : Type 0
U32Front = TcU32SelectorFlags × (ℕ × (ℕ × (ℕ × (ℕ × (ℕ × (ℕ × ℕ))))))

-- in this order: the masks are bytes of packets, the highest first
abbrev pub u32_front : Layout U32Front
u32_front =
    fields
    (one_byte holding u32_selector_flag_bits and one_byte and one_byte behind unused and be_two and le_two and le_two and le_two
    and be_four)

abbrev pub u32_selector : Codec (U32Front × List TcU32Key)
u32_selector = headed u32_front u32_key_width

-- what a selector is, without where its keys lie in memory
abbrev pub u32_parts : TcU32Selector → U32Front × List TcU32Key
u32_parts s = ((s.flags, (s.offshift, (s.nkeys, (s.offmask, (s.off, (s.offoff, (s.hoff, s.hmask))))))), s.keys.items)
