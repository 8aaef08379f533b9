-- Types of encapsulation, by the table: `LWTUNNEL_ENCAP_*` of `linux/lwtunnel.h`.
use Rattle.std.specs.Prelude.{ℕ, List, [], ◌∷◌, codes}
use Rattle.std.proofs.Common.{refl}
use Rattle.npr_base.specs.Layout.{Layout, le16, formed}
use Rattle.npr_base.specs.Numbering.{Numbering}
use Rattle.npr_base.specs.Rows.{Named, numbered, text_in}
use Rattle.npr_base.specs.Enumeration.{enumeration}
use Rattle.npr_base.specs.Text.{other_text}
use Rattle.npr_encapsulation.specs.declared.encap_type.RouteLwEnCapType.{RouteLwEnCapType}
use Rattle.npr_encapsulation.specs.declared.encap_type.RouteLwEnCapType.TheVariants.{None as NoEncap, Mpls, Ip, Ila, Ip6, Seg6, Bpf}
use Rattle.npr_encapsulation.specs.declared.encap_type.RouteLwEnCapType.TheVariants.{Seg6Local, Rpl, Ioam6, Xfrm, Other}
use Rattle.npr_encapsulation.specs.contracts.encap_type.RouteLwEnCapType.{enum}

-- in the order of the variants
abbrev pub encap_type_rows : List (Named RouteLwEnCapType)
encap_type_rows =
    (0, NoEncap, codes "none") ∷ (1, Mpls, codes "mpls") ∷ (2, Ip, codes "ip") ∷ (3, Ila, codes "ila") ∷ (4, Ip6, codes "ip6")
    ∷ (5, Seg6, codes "seg6") ∷ (6, Bpf, codes "bpf") ∷ (7, Seg6Local, codes "seg6local") ∷ (8, Rpl, codes "rpl")
    ∷ (9, Ioam6, codes "ioam6") ∷ (10, Xfrm, codes "xfrm") ∷ []

-- the type that a number reads as, and the number that one is written as
abbrev pub encap_types : Numbering ℕ RouteLwEnCapType
encap_types = enumeration enum (numbered encap_type_rows) Other (λ f. f.0) (λ d. refl) refl

-- how one is read and written
abbrev pub encap_type : Layout RouteLwEnCapType
encap_type = formed le16 encap_types

-- the text of a type: its name, and of any other its number
abbrev pub encap_type_text : RouteLwEnCapType → List ℕ
encap_type_text x = text_in enum encap_type_rows (λ f. other_text f.0) x
