-- Sets of flags of an address: every bit is kept.
use Rattle.std.specs.Prelude.{ℕ}
use Rattle.std.proofs.Common.{refl}
use Rattle.npr_base.specs.Layout.{Layout, le32, formed}
use Rattle.npr_base.specs.Numbering.{Numbering}
use Rattle.npr_address.specs.declared.addr_flags.AddressFlags.{AddressFlags}
use Rattle.npr_address.specs.declared.addr_flags.AddressHeaderFlags.{AddressHeaderFlags}

-- the set of these bits, and the bits of a set
abbrev pub address_flag_bits : Numbering ℕ AddressFlags
address_flag_bits = record { of = λ bits. record { 0 = bits }; number = λ flags. flags.0; back = λ bits. refl }

abbrev pub header_flag_bits : Numbering ℕ AddressHeaderFlags
header_flag_bits = record { of = λ bits. record { 0 = bits }; number = λ flags. flags.0; back = λ bits. refl }

-- how one is read and written
abbrev pub address_flags : Layout AddressFlags
address_flags = formed le32 address_flag_bits
