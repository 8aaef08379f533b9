-- What stands between IP and a tunnel of IP, by the table: `TUNNEL_ENCAP_*` of `linux/if_tunnel.h`.
use Rattle.std.specs.Prelude.{ℕ, List, [], ◌∷◌, codes, decimal}
use Rattle.std.proofs.Common.{refl}
use Rattle.npr_base.specs.Layout.{Layout, le16, formed}
use Rattle.npr_base.specs.Numbering.{Numbering}
use Rattle.npr_base.specs.Rows.{Named, numbered, text_in}
use Rattle.npr_base.specs.Enumeration.{enumeration}
use Rattle.npr_link_tunnels.specs.declared.tunnel_encap_type.TunnelEncapType.{TunnelEncapType}
use Rattle.npr_link_tunnels.specs.declared.tunnel_encap_type.TunnelEncapType.TheVariants.{None, Fou, Gue, Mpls, Other}
use Rattle.npr_link_tunnels.specs.contracts.tunnel_encap_type.TunnelEncapType.{enum}

-- in the order of the variants
abbrev pub tunnel_encap_type_rows : List (Named TunnelEncapType)
tunnel_encap_type_rows =
    (0, None, codes "none") ∷ (1, Fou, codes "fou") ∷ (2, Gue, codes "gue") ∷ (3, Mpls, codes "mpls") ∷ []

-- the value that a number reads as, and the number that one is written as
abbrev pub tunnel_encap_types : Numbering ℕ TunnelEncapType
tunnel_encap_types = enumeration enum (numbered tunnel_encap_type_rows) Other (λ f. f.0) (λ d. refl) refl

-- how one is read and written
abbrev pub tunnel_encap_type : Layout TunnelEncapType
tunnel_encap_type = formed le16 tunnel_encap_types

-- the text of one: its name, and of any other its number
abbrev pub tunnel_encap_type_text : TunnelEncapType → List ℕ
tunnel_encap_type_text x = text_in enum tunnel_encap_type_rows (λ f. decimal f.0) x
