-- How many peers a tunnel of OpenVPN has, by the table: `OVPN_MODE_*` of `linux/if_link.h`.
use Rattle.std.specs.Prelude.{ℕ, List, [], ◌∷◌}
use Rattle.std.proofs.Common.{refl}
use Rattle.npr_base.specs.Layout.{Layout, byte, formed}
use Rattle.npr_base.specs.Numbering.{Numbering}
use Rattle.npr_base.specs.Enumeration.{enumeration}
use Rattle.npr_link_tunnels.specs.declared.ovpn_mode.OvpnMode.{OvpnMode}
use Rattle.npr_link_tunnels.specs.declared.ovpn_mode.OvpnMode.TheVariants.{PointToPoint, MultiPeer, Other}
use Rattle.npr_link_tunnels.specs.contracts.ovpn_mode.OvpnMode.{enum}

-- in the order of the variants
abbrev pub ovpn_mode_rows : List (ℕ × OvpnMode)
ovpn_mode_rows =
    (0, PointToPoint) ∷ (1, MultiPeer) ∷ []

-- the value that a number reads as, and the number that one is written as
abbrev pub ovpn_modes : Numbering ℕ OvpnMode
ovpn_modes = enumeration enum ovpn_mode_rows Other (λ f. f.0) (λ d. refl) refl

-- how one is read and written
abbrev pub ovpn_mode : Layout OvpnMode
ovpn_mode = formed byte ovpn_modes
