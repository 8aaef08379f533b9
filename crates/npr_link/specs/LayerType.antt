-- What kind of link it is, by the table: `ARPHRD_*` of `linux/if_arp.h`.
use Rattle.std.specs.Prelude.{ℕ, List, [], ◌∷◌, map, Option, Some, None as Nothing, codes, decimal}
use Rattle.std.proofs.Common.{refl}
use Rattle.npr_base.specs.Layout.{Layout, le16, formed}
use Rattle.npr_base.specs.Numbering.{Numbering}
use Rattle.npr_base.specs.Rows.{Named, numbered, at_variant}
use Rattle.npr_base.specs.Enumeration.{enumeration}
use Rattle.npr_link.specs.declared.layer_type.LinkLayerType.{LinkLayerType}
use Rattle.npr_link.specs.declared.layer_type.LinkLayerType.TheVariants.{Netrom, Ether, Eether, Ax25, Pronet, Chaos, Ieee802, Arcnet, Appletlk, Dlci}
use Rattle.npr_link.specs.declared.layer_type.LinkLayerType.TheVariants.{Atm, Metricom, Ieee1394, Eui64, Infiniband, Slip, Cslip, Slip6, Cslip6, Rsrvd}
use Rattle.npr_link.specs.declared.layer_type.LinkLayerType.TheVariants.{Adapt, Rose, X25, Hwx25, Can, Mctp, Ppp, Hdlc, Lapb, Ddcmp}
use Rattle.npr_link.specs.declared.layer_type.LinkLayerType.TheVariants.{Rawhdlc, Rawip, Tunnel, Tunnel6, Frad, Skip, Loopback, Localtlk, Fddi, Bif}
use Rattle.npr_link.specs.declared.layer_type.LinkLayerType.TheVariants.{Sit, Ipddp, Ipgre, Pimreg, Hippi, Ash, Econet, Irda, Fcpp, Fcal}
use Rattle.npr_link.specs.declared.layer_type.LinkLayerType.TheVariants.{Fcpl, Fcfabric, Ieee802Tr, Ieee80211, Ieee80211Prism, Ieee80211Radiotap}
use Rattle.npr_link.specs.declared.layer_type.LinkLayerType.TheVariants.{Ieee802154, Ieee802154Monitor, Phonet, PhonetPipe}
use Rattle.npr_link.specs.declared.layer_type.LinkLayerType.TheVariants.{Caif, Ip6gre, Netlink, Sixlowpan, Vsockmon, None, Void, Other}
use Rattle.npr_link.specs.contracts.layer_type.LinkLayerType.{enum}

-- in the order of the variants
abbrev pub layer_type_rows : List (Named LinkLayerType)
layer_type_rows =
    (0, Netrom, codes "NETROM") ∷ (1, Ether, codes "ETHER") ∷ (2, Eether, codes "EETHER") ∷ (3, Ax25, codes "AX25") ∷ (4, Pronet, codes "PRONET")
    ∷ (5, Chaos, codes "CHAOS") ∷ (6, Ieee802, codes "IEEE802") ∷ (7, Arcnet, codes "ARCNET") ∷ (8, Appletlk, codes "APPLETLK")
    ∷ (15, Dlci, codes "DLCI") ∷ (19, Atm, codes "ATM") ∷ (23, Metricom, codes "METRICOM") ∷ (24, Ieee1394, codes "IEEE1394")
    ∷ (27, Eui64, codes "EUI64") ∷ (32, Infiniband, codes "INFINIBAND") ∷ (256, Slip, codes "SLIP") ∷ (257, Cslip, codes "CSLIP")
    ∷ (258, Slip6, codes "SLIP6") ∷ (259, Cslip6, codes "CSLIP6") ∷ (260, Rsrvd, codes "RSRVD") ∷ (264, Adapt, codes "ADAPT")
    ∷ (270, Rose, codes "ROSE") ∷ (271, X25, codes "X25") ∷ (272, Hwx25, codes "HWX25") ∷ (280, Can, codes "CAN") ∷ (290, Mctp, codes "MCTP")
    ∷ (512, Ppp, codes "PPP") ∷ (513, Hdlc, codes "HDLC") ∷ (516, Lapb, codes "LAPB") ∷ (517, Ddcmp, codes "DDCMP") ∷ (518, Rawhdlc, codes "RAWHDLC")
    ∷ (519, Rawip, codes "RAWIP") ∷ (768, Tunnel, codes "TUNNEL") ∷ (769, Tunnel6, codes "TUNNEL6") ∷ (770, Frad, codes "FRAD")
    ∷ (771, Skip, codes "SKIP") ∷ (772, Loopback, codes "LOOPBACK") ∷ (773, Localtlk, codes "LOCALTLK") ∷ (774, Fddi, codes "FDDI")
    ∷ (775, Bif, codes "BIF") ∷ (776, Sit, codes "SIT") ∷ (777, Ipddp, codes "IPDDP") ∷ (778, Ipgre, codes "IPGRE") ∷ (779, Pimreg, codes "PIMREG")
    ∷ (780, Hippi, codes "HIPPI") ∷ (781, Ash, codes "ASH") ∷ (782, Econet, codes "ECONET") ∷ (783, Irda, codes "IRDA") ∷ (784, Fcpp, codes "FCPP")
    ∷ (785, Fcal, codes "FCAL") ∷ (786, Fcpl, codes "FCPL") ∷ (787, Fcfabric, codes "FCFABRIC") ∷ (800, Ieee802Tr, codes "IEEE802_TR")
    ∷ (801, Ieee80211, codes "IEEE80211") ∷ (802, Ieee80211Prism, codes "IEEE80211_PRISM") ∷ (803, Ieee80211Radiotap, codes "IEEE80211_RADIOTAP")
    ∷ (804, Ieee802154, codes "IEEE802154") ∷ (805, Ieee802154Monitor, codes "IEEE802154_MONITOR") ∷ (820, Phonet, codes "PHONET")
    ∷ (821, PhonetPipe, codes "PHONET_PIPE") ∷ (822, Caif, codes "CAIF") ∷ (823, Ip6gre, codes "IP6GRE") ∷ (824, Netlink, codes "NETLINK")
    ∷ (825, Sixlowpan, codes "6LOWPAN") ∷ (826, Vsockmon, codes "VSOCKMON") ∷ (65534, None, codes "NONE") ∷ (65535, Void, codes "VOID") ∷ []

-- the value that a number reads as, and the number that one is written as
abbrev pub layer_types : Numbering ℕ LinkLayerType
layer_types = enumeration enum (numbered layer_type_rows) Other (λ f. f.0) (λ d. refl) refl

-- how one is read and written
abbrev pub layer_type : Layout LinkLayerType
layer_type = formed le16 layer_types

-- the name of one, and its text: the name, and of any other its number
abbrev pub layer_type_name : LinkLayerType → Option (List ℕ)
layer_type_name x = at_variant enum Nothing (map (λ row. Some row.2) layer_type_rows) (λ f. Nothing) x

abbrev pub named_or : Option (List ℕ) → ℕ → List ℕ
named_or (Some name) number = name
named_or Nothing number = decimal number

abbrev pub layer_type_text : LinkLayerType → List ℕ
layer_type_text x = named_or (layer_type_name x) (layer_types.number x)
