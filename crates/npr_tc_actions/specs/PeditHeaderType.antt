-- Which header of a packet a key is of, by the table (linux/tc_act/tc_pedit.h, TCA_PEDIT_KEY_EX_HDR_TYPE_*).
use Rattle.std.specs.Prelude.{ℕ, List, [], ◌∷◌}
use Rattle.std.proofs.Common.{refl}
use Rattle.npr_base.specs.Enumeration.{enumeration}
use Rattle.npr_base.specs.Layout.{Layout, le16, formed}
use Rattle.npr_base.specs.Numbering.{Numbering}
use Rattle.npr_tc_actions.specs.contracts.pedit_header_type.TcPeditHeaderType.{enum}
use Rattle.npr_tc_actions.specs.declared.pedit_header_type.TcPeditHeaderType.{TcPeditHeaderType}
use Rattle.npr_tc_actions.specs.declared.pedit_header_type.TcPeditHeaderType.TheVariants.{Network, Eth, Ip4, Ip6, Tcp, Udp, Other}

-- in the order of the variants
abbrev pub pedit_header_type_rows : List (ℕ × TcPeditHeaderType)
pedit_header_type_rows = (0, Network) ∷ (1, Eth) ∷ (2, Ip4) ∷ (3, Ip6) ∷ (4, Tcp) ∷ (5, Udp) ∷ []

abbrev pub pedit_header_types : Numbering ℕ TcPeditHeaderType
pedit_header_types = enumeration enum pedit_header_type_rows Other (λ f. f.0) (λ d. refl) refl

-- two bytes, little endian
abbrev pub pedit_header_type : Layout TcPeditHeaderType
pedit_header_type = formed le16 pedit_header_types
