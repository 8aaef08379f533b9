-- What an answer is to say of a link besides: every bit is kept (RTEXT_FILTER_* of linux/rtnetlink.h).
use Rattle.std.specs.Prelude.{ℕ}
use Rattle.std.proofs.Common.{refl}
use Rattle.npr_base.specs.Layout.{Layout, le32, formed}
use Rattle.npr_base.specs.Numbering.{Numbering}
use Rattle.npr_link.specs.declared.extent_mask.LinkExtentMask.{LinkExtentMask}

-- the set of these bits, and the bits of a set
abbrev pub extent_mask_bits : Numbering ℕ LinkExtentMask
extent_mask_bits = record { of = λ bits. record { 0 = bits }; number = λ flags. flags.0; back = λ bits. refl }

-- how one is read and written
abbrev pub extent_mask : Layout LinkExtentMask
extent_mask = formed le32 extent_mask_bits
