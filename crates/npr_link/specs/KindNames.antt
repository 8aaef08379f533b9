-- The kinds of links and of ports by their names (linux/if_link.h, IFLA_INFO_KIND and IFLA_INFO_SLAVE_KIND): each name beside its
-- variant.
use Rattle.std.specs.Prelude.{ℕ, List, [], ◌∷◌, codes}
use Rattle.npr_link.specs.declared.info_kind.InfoKind.{InfoKind}
use Rattle.npr_link.specs.declared.info_kind.InfoKind.TheVariants as Link
use Rattle.npr_link.specs.declared.port_kind.InfoPortKind.{InfoPortKind}
use Rattle.npr_link.specs.declared.port_kind.InfoPortKind.TheVariants as Port

abbrev pub info_kinds : List (List ℕ × InfoKind)
info_kinds =
    (codes "dummy", Link.Dummy) ∷ (codes "ifb", Link.Ifb) ∷ (codes "bridge", Link.Bridge) ∷ (codes "tun", Link.Tun) ∷ (codes "nlmon", Link.Nlmon)
    ∷ (codes "vlan", Link.Vlan) ∷ (codes "veth", Link.Veth) ∷ (codes "vxlan", Link.Vxlan) ∷ (codes "bond", Link.Bond) ∷ (codes "ipvlan", Link.IpVlan)
    ∷ (codes "ipvtap", Link.IpVtap) ∷ (codes "macvlan", Link.MacVlan) ∷ (codes "macvtap", Link.MacVtap) ∷ (codes "gretap", Link.GreTap)
    ∷ (codes "ip6gretap", Link.GreTap6) ∷ (codes "ipip", Link.IpIp) ∷ (codes "ip6tnl", Link.Ip6Tnl) ∷ (codes "sit", Link.SitTun)
    ∷ (codes "gre", Link.GreTun) ∷ (codes "ip6gre", Link.GreTun6) ∷ (codes "vti", Link.Vti) ∷ (codes "vrf", Link.Vrf) ∷ (codes "gtp", Link.Gtp)
    ∷ (codes "ipoib", Link.Ipoib) ∷ (codes "wireguard", Link.Wireguard) ∷ (codes "xfrm", Link.Xfrm) ∷ (codes "macsec", Link.MacSec)
    ∷ (codes "hsr", Link.Hsr) ∷ (codes "geneve", Link.Geneve) ∷ (codes "netkit", Link.Netkit) ∷ (codes "vti6", Link.Vti6) ∷ (codes "erspan", Link.Erspan)
    ∷ (codes "ip6erspan", Link.Erspan6) ∷ (codes "vxcan", Link.Vxcan) ∷ (codes "ovpn", Link.Ovpn) ∷ []

abbrev pub port_kinds : List (List ℕ × InfoPortKind)
port_kinds =
    (codes "bridge", Port.Bridge) ∷ (codes "vrf", Port.Vrf) ∷ (codes "bond", Port.Bond) ∷ []
