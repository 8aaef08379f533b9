-- What stands between IP and a tunnel of GRE, by the table: `TUNNEL_ENCAP_*` of `linux/if_tunnel.h`.
use Rattle.std.specs.Prelude.{ℕ, List, [], ◌∷◌, codes, decimal, ◌++◌}
use Rattle.std.proofs.Common.{refl}
use Rattle.npr_base.specs.Layout.{Layout, le16, formed}
use Rattle.npr_base.specs.Numbering.{Numbering}
use Rattle.npr_base.specs.Rows.{Named, numbered, text_in}
use Rattle.npr_base.specs.Enumeration.{enumeration}
use Rattle.npr_link_tunnels.specs.declared.gre_encap_type.GreEncapType.{GreEncapType}
use Rattle.npr_link_tunnels.specs.declared.gre_encap_type.GreEncapType.TheVariants.{None, Fou, Gue, Other}
use Rattle.npr_link_tunnels.specs.contracts.gre_encap_type.GreEncapType.{enum}

-- in the order of the variants
abbrev pub gre_encap_type_rows : List (Named GreEncapType)
gre_encap_type_rows =
    (0, None, codes "none") ∷ (1, Fou, codes "fou") ∷ (2, Gue, codes "gue") ∷ []

-- the value that a number reads as, and the number that one is written as
abbrev pub gre_encap_types : Numbering ℕ GreEncapType
gre_encap_types = enumeration enum (numbered gre_encap_type_rows) Other (λ f. f.0) (λ d. refl) refl

-- how one is read and written
abbrev pub gre_encap_type : Layout GreEncapType
gre_encap_type = formed le16 gre_encap_types

-- the text of one: its name, and of any other its number
abbrev pub gre_encap_type_text : GreEncapType → List ℕ
gre_encap_type_text x = text_in enum gre_encap_type_rows (λ f. codes "other(" ++ (decimal f.0 ++ codes ")")) x
