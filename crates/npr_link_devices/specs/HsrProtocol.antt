-- How a ring sends each frame twice, by the table: `HSR_PROTOCOL_*` of `linux/if_link.h`.
use Rattle.std.specs.Prelude.{ℕ, List, [], ◌∷◌}
use Rattle.std.proofs.Common.{refl}
use Rattle.npr_base.specs.Layout.{Layout, byte, formed}
use Rattle.npr_base.specs.Numbering.{Numbering}
use Rattle.npr_base.specs.Enumeration.{enumeration}
use Rattle.npr_link_devices.specs.declared.hsr_protocol.HsrProtocol.{HsrProtocol}
use Rattle.npr_link_devices.specs.declared.hsr_protocol.HsrProtocol.TheVariants.{Hsr, Prp, Other}
use Rattle.npr_link_devices.specs.contracts.hsr_protocol.HsrProtocol.{enum}

-- in the order of the variants
abbrev pub hsr_protocol_rows : List (ℕ × HsrProtocol)
hsr_protocol_rows =
    (0, Hsr) ∷ (1, Prp) ∷ []

-- the value that a number reads as, and the number that one is written as
abbrev pub hsr_protocols : Numbering ℕ HsrProtocol
hsr_protocols = enumeration enum hsr_protocol_rows Other (λ f. f.0) (λ d. refl) refl

-- how one is read and written
abbrev pub hsr_protocol : Layout HsrProtocol
hsr_protocol = formed byte hsr_protocols
