-- What made an address, by its table: `IFAPROT_*` of `linux/if_addr.h`.
use Rattle.std.specs.Prelude.{ℕ, List, [], ◌∷◌, codes, decimal}
use Rattle.std.proofs.Common.{refl}
use Rattle.npr_base.specs.Layout.{Layout, byte, formed}
use Rattle.npr_base.specs.Numbering.{Numbering}
use Rattle.npr_base.specs.Rows.{Named, numbered, text_in}
use Rattle.npr_base.specs.Enumeration.{enumeration}
use Rattle.npr_address.specs.declared.addr_protocol.AddressProtocol.{AddressProtocol}
use Rattle.npr_address.specs.declared.addr_protocol.AddressProtocol.TheVariants.{Loopback, RouterAnnouncement, LinkLocal, Other}
use Rattle.npr_address.specs.contracts.addr_protocol.AddressProtocol.{enum}

-- in the order of the variants
abbrev pub protocol_rows : List (Named AddressProtocol)
protocol_rows = (1, Loopback, codes "kernel_lo") ∷ (2, RouterAnnouncement, codes "kernel_ra") ∷ (3, LinkLocal, codes "kernel_ll") ∷ []

-- the protocol that a number reads as, and the number that one is written as
abbrev pub protocols : Numbering ℕ AddressProtocol
protocols = enumeration enum (numbered protocol_rows) Other (λ f. f.0) (λ d. refl) refl

-- how one is read and written
abbrev pub protocol : Layout AddressProtocol
protocol = formed byte protocols

-- the text of a protocol
abbrev pub protocol_text : AddressProtocol → List ℕ
protocol_text x = text_in enum protocol_rows (λ f. decimal f.0) x
