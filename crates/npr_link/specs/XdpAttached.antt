-- Where a program is attached, by the table: `XDP_ATTACHED_*` of `linux/if_link.h`.
use Rattle.std.specs.Prelude.{ℕ, List, [], ◌∷◌}
use Rattle.std.proofs.Common.{refl}
use Rattle.npr_base.specs.Layout.{Layout, byte, formed}
use Rattle.npr_base.specs.Numbering.{Numbering}
use Rattle.npr_base.specs.Enumeration.{enumeration}
use Rattle.npr_link.specs.declared.xdp_attached.XdpAttached.{XdpAttached}
use Rattle.npr_link.specs.declared.xdp_attached.XdpAttached.TheVariants.{None, Driver, SocketBuffer, Hardware, Multiple, Other}
use Rattle.npr_link.specs.contracts.xdp_attached.XdpAttached.{enum}

-- in the order of the variants
abbrev pub attachment_rows : List (ℕ × XdpAttached)
attachment_rows =
    (0, None) ∷ (1, Driver) ∷ (2, SocketBuffer) ∷ (3, Hardware) ∷ (4, Multiple) ∷ []

-- the value that a number reads as, and the number that one is written as
abbrev pub attachments : Numbering ℕ XdpAttached
attachments = enumeration enum attachment_rows Other (λ f. f.0) (λ d. refl) refl

-- how one is read and written
abbrev pub attachment : Layout XdpAttached
attachment = formed byte attachments
