-- The kind of a link that controls a port, by its name (linux/if_link.h, IFLA_INFO_SLAVE_KIND).
use Rattle.std.specs.Prelude.{ℕ, List, [], ◌∷◌, map, codes, if◌then◌else◌}
use Rattle.std.specs.Str.{bytes_eq}
use Rattle.std.specs.String.{string_bytes}
use Rattle.npr_base.specs.Codec.{Codec}
use Rattle.npr_base.specs.Rows.{at_variant}
use Rattle.npr_link.specs.Kinds.{Kind, known, other, kind_codec}
use Rattle.npr_link.specs.declared.port_kind.InfoPortKind.{InfoPortKind}
use Rattle.npr_link.specs.declared.port_kind.InfoPortForm.{InfoPortForm}
use Rattle.npr_link.specs.declared.port_kind.InfoPortForm.TheVariants as InfoPortForm
use Rattle.npr_link.specs.contracts.port_kind.InfoPortKind.{enum}

-- in the order of the variants
abbrev pub port_kind_names : List (List ℕ)
port_kind_names =
    codes "bridge" ∷ codes "vrf" ∷ codes "bond" ∷ []

-- a kind, without where its name lies in memory
abbrev pub port_kind_of : InfoPortKind → Kind
port_kind_of x = at_variant enum (other []) (map known port_kind_names) (λ f. other (string_bytes f.0)) x

abbrev pub port_kind : Codec Kind
port_kind = kind_codec port_kind_names

-- what governs data under a kind of this name
abbrev pub form_named : List ℕ → InfoPortForm
form_named text =
    if bytes_eq text (codes "bridge") then InfoPortForm.Bridge
    else if bytes_eq text (codes "vrf") then InfoPortForm.Vrf
    else if bytes_eq text (codes "bond") then InfoPortForm.Bond
    else InfoPortForm.Kept
