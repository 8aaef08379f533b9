-- The flags of a link: every bit is kept (IFF_* of linux/if.h).
use Rattle.std.specs.Prelude.{ℕ, Bool, true, false, ◌==◌, List, [], ◌∷◌, ◌++◌, Option, Some, bit_and, codes, if◌then◌else◌}
use Rattle.std.specs.Fmt.{digits}
use Rattle.std.proofs.Common.{refl}
use Rattle.npr_base.specs.Layout.{Layout, le32, formed}
use Rattle.npr_base.specs.Numbering.{Numbering}
use Rattle.npr_base.specs.Text.{is_set, joined_by}
use Rattle.npr_link.specs.declared.flags.LinkFlags.{LinkFlags}

-- the set of these bits, and the bits of a set
abbrev pub link_flag_bits : Numbering ℕ LinkFlags
link_flag_bits = record { of = λ bits. record { 0 = bits }; number = λ flags. flags.0; back = λ bits. refl }

-- how one is read and written
abbrev pub link_flags : Layout LinkFlags
link_flags = formed le32 link_flag_bits

-- the names of the flags in the order of the table, and whether each is set
abbrev pub link_flag_names : ℕ → List (Bool × List ℕ)
link_flag_names bits =
    (is_set bits 1, codes "Up") ∷ (is_set bits 2, codes "Broadcast") ∷ (is_set bits 4, codes "Debug")
    ∷ (is_set bits 8, codes "Loopback") ∷ (is_set bits 16, codes "Pointopoint") ∷ (is_set bits 32, codes "Notrailers")
    ∷ (is_set bits 64, codes "Running") ∷ (is_set bits 128, codes "Noarp") ∷ (is_set bits 256, codes "Promisc")
    ∷ (is_set bits 512, codes "Allmulti") ∷ (is_set bits 1024, codes "Controller") ∷ (is_set bits 2048, codes "Port")
    ∷ (is_set bits 4096, codes "Multicast") ∷ (is_set bits 8192, codes "Portsel") ∷ (is_set bits 16384, codes "Automedia")
    ∷ (is_set bits 32768, codes "Dynamic") ∷ (is_set bits 65536, codes "LowerUp") ∷ (is_set bits 131072, codes "Dormant")
    ∷ (is_set bits 262144, codes "Echo") ∷ []

-- those that are
abbrev pub names_set : List (Bool × List ℕ) → List (List ℕ)
names_set [] = []
names_set ((true, name) ∷ names) = name ∷ names_set names
names_set ((false, name) ∷ names) = names_set names

-- the bits without a name, if there are some
abbrev pub unnamed_text : ℕ → List (List ℕ)
unnamed_text bits = if bits == 0 then [] else (codes "0x" ++ digits 16 false bits) ∷ []

-- the text of a set: the names that are set, and last the bits from the nineteenth on, which have none
abbrev pub link_flags_text : LinkFlags → Option (List ℕ)
link_flags_text flags =
    joined_by (codes " | ") Some (names_set (link_flag_names (link_flag_bits.number flags)) ++ unnamed_text (bit_and (link_flag_bits.number flags) 4294443008))
