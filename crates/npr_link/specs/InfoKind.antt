-- The kind of a link, by its name (linux/if_link.h, IFLA_INFO_KIND).
use Rattle.std.specs.Prelude.{ℕ, List, [], ◌∷◌, map, codes, if◌then◌else◌}
use Rattle.std.specs.Str.{bytes_eq}
use Rattle.std.specs.String.{string_bytes}
use Rattle.npr_base.specs.Codec.{Codec}
use Rattle.npr_base.specs.Rows.{at_variant}
use Rattle.npr_link.specs.Kinds.{Kind, known, other, kind_codec}
use Rattle.npr_link.specs.declared.info_kind.InfoKind.{InfoKind}
use Rattle.npr_link_tunnels.specs.declared.form.InfoForm.{InfoForm}
use Rattle.npr_link_tunnels.specs.declared.form.InfoForm.TheVariants as InfoForm
use Rattle.npr_link.specs.contracts.info_kind.InfoKind.{enum}

-- in the order of the variants
abbrev pub info_kind_names : List (List ℕ)
info_kind_names =
    codes "dummy" ∷ codes "ifb" ∷ codes "bridge" ∷ codes "tun" ∷ codes "nlmon" ∷ codes "vlan" ∷ codes "veth"
    ∷ codes "vxlan" ∷ codes "bond" ∷ codes "ipvlan" ∷ codes "ipvtap" ∷ codes "macvlan" ∷ codes "macvtap" ∷ codes "gretap"
    ∷ codes "ip6gretap" ∷ codes "ipip" ∷ codes "ip6tnl" ∷ codes "sit" ∷ codes "gre" ∷ codes "ip6gre" ∷ codes "vti"
    ∷ codes "vrf" ∷ codes "gtp" ∷ codes "ipoib" ∷ codes "wireguard" ∷ codes "xfrm" ∷ codes "macsec" ∷ codes "hsr"
    ∷ codes "geneve" ∷ codes "netkit" ∷ codes "vti6" ∷ codes "erspan" ∷ codes "ip6erspan" ∷ codes "vxcan" ∷ codes "ovpn" ∷ []

-- a kind, without where its name lies in memory
abbrev pub info_kind_of : InfoKind → Kind
info_kind_of x = at_variant enum (other []) (map known info_kind_names) (λ f. other (string_bytes f.0)) x

abbrev pub info_kind : Codec Kind
info_kind = kind_codec info_kind_names

-- what governs data under a kind of this name
abbrev pub form_named : List ℕ → InfoForm
form_named text =
    if bytes_eq text (codes "bridge") then InfoForm.Bridge
    else if bytes_eq text (codes "tun") then InfoForm.Tun
    else if bytes_eq text (codes "vlan") then InfoForm.Vlan
    else if bytes_eq text (codes "veth") then InfoForm.Veth
    else if bytes_eq text (codes "vxlan") then InfoForm.Vxlan
    else if bytes_eq text (codes "bond") then InfoForm.Bond
    else if bytes_eq text (codes "ipvlan") then InfoForm.IpVlan
    else if bytes_eq text (codes "ipvtap") then InfoForm.IpVtap
    else if bytes_eq text (codes "macvlan") then InfoForm.MacVlan
    else if bytes_eq text (codes "macvtap") then InfoForm.MacVtap
    else if bytes_eq text (codes "gretap") then InfoForm.GreTap
    else if bytes_eq text (codes "ip6gretap") then InfoForm.GreTap6
    else if bytes_eq text (codes "ipip") then InfoForm.IpIp
    else if bytes_eq text (codes "ip6tnl") then InfoForm.Ip6Tnl
    else if bytes_eq text (codes "sit") then InfoForm.SitTun
    else if bytes_eq text (codes "gre") then InfoForm.GreTun
    else if bytes_eq text (codes "ip6gre") then InfoForm.GreTun6
    else if bytes_eq text (codes "vti") then InfoForm.Vti
    else if bytes_eq text (codes "vrf") then InfoForm.Vrf
    else if bytes_eq text (codes "xfrm") then InfoForm.Xfrm
    else if bytes_eq text (codes "geneve") then InfoForm.Geneve
    else if bytes_eq text (codes "netkit") then InfoForm.Netkit
    else if bytes_eq text (codes "vti6") then InfoForm.Vti6
    else if bytes_eq text (codes "hsr") then InfoForm.Hsr
    else if bytes_eq text (codes "ipoib") then InfoForm.Ipoib
    else if bytes_eq text (codes "macsec") then InfoForm.MacSec
    else if bytes_eq text (codes "gtp") then InfoForm.Gtp
    else if bytes_eq text (codes "ovpn") then InfoForm.Ovpn
    else if bytes_eq text (codes "erspan") then InfoForm.Erspan
    else if bytes_eq text (codes "ip6erspan") then InfoForm.Erspan6
    else if bytes_eq text (codes "vxcan") then InfoForm.Vxcan
    else InfoForm.Kept
