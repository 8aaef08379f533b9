-- Address families, by their table: `AF_*` of `linux/socket.h`.
use Rattle.std.specs.Prelude.{ℕ, List, [], ◌∷◌, ◌++◌, codes, decimal}
use Rattle.std.proofs.Common.{refl}
use Rattle.npr_base.specs.Numbering.{Numbering}
use Rattle.npr_base.specs.Rows.{Named, numbered, number_in, text_in}
use Rattle.npr_base.specs.Enumeration.{by_rows}
use Rattle.npr_base.specs.declared.address_family.AddressFamily.{AddressFamily}
use Rattle.npr_base.specs.declared.address_family.AddressFamily.TheVariants.{Unspec, Unix, Inet, Ax25, Ipx, Appletalk}
use Rattle.npr_base.specs.declared.address_family.AddressFamily.TheVariants.{Netrom, Bridge, Atmpvc, X25, Inet6, Rose}
use Rattle.npr_base.specs.declared.address_family.AddressFamily.TheVariants.{Decnet, Netbeui, Security, Key, Netlink}
use Rattle.npr_base.specs.declared.address_family.AddressFamily.TheVariants.{Packet, Ash, Econet, Atmsvc, Rds, Sna}
use Rattle.npr_base.specs.declared.address_family.AddressFamily.TheVariants.{Irda, Pppox, Wanpipe, Llc, Ib, Mpls, Can}
use Rattle.npr_base.specs.declared.address_family.AddressFamily.TheVariants.{Tipc, Bluetooth, Iucv, Rxrpc, Isdn}
use Rattle.npr_base.specs.declared.address_family.AddressFamily.TheVariants.{Phonet, Ieee802154, Caif, Alg, Nfc}
use Rattle.npr_base.specs.declared.address_family.AddressFamily.TheVariants.{Vsock, Kcm, Qipcrtr, Smc, Xdp, Mctp}
use Rattle.npr_base.specs.declared.address_family.AddressFamily.TheVariants.{Local, Route, Other}
use Rattle.npr_base.specs.contracts.address_family.AddressFamily.{enum}

-- in the order of the variants
abbrev pub family_rows : List (Named AddressFamily)
family_rows =
    (0, Unspec, codes "unspec") ∷ (1, Unix, codes "unix") ∷ (2, Inet, codes "inet") ∷ (3, Ax25, codes "ax25") ∷ (4, Ipx, codes "ipx")
    ∷ (5, Appletalk, codes "appletalk") ∷ (6, Netrom, codes "netrom") ∷ (7, Bridge, codes "bridge") ∷ (8, Atmpvc, codes "atmpvc")
    ∷ (9, X25, codes "x25") ∷ (10, Inet6, codes "inet6") ∷ (11, Rose, codes "rose") ∷ (12, Decnet, codes "decnet")
    ∷ (13, Netbeui, codes "netbeui") ∷ (14, Security, codes "security") ∷ (15, Key, codes "key") ∷ (16, Netlink, codes "netlink")
    ∷ (17, Packet, codes "packet") ∷ (18, Ash, codes "ash") ∷ (19, Econet, codes "econet") ∷ (20, Atmsvc, codes "atmsvc")
    ∷ (21, Rds, codes "rds") ∷ (22, Sna, codes "sna") ∷ (23, Irda, codes "irda") ∷ (24, Pppox, codes "pppox")
    ∷ (25, Wanpipe, codes "wanpipe") ∷ (26, Llc, codes "llc") ∷ (27, Ib, codes "ib") ∷ (28, Mpls, codes "mpls") ∷ (29, Can, codes "can")
    ∷ (30, Tipc, codes "tipc") ∷ (31, Bluetooth, codes "bluetooth") ∷ (32, Iucv, codes "iucv") ∷ (33, Rxrpc, codes "rxrpc")
    ∷ (34, Isdn, codes "isdn") ∷ (35, Phonet, codes "phonet") ∷ (36, Ieee802154, codes "ieee802154") ∷ (37, Caif, codes "caif")
    ∷ (38, Alg, codes "alg") ∷ (39, Nfc, codes "nfc") ∷ (40, Vsock, codes "vsock") ∷ (41, Kcm, codes "kcm") ∷ (42, Qipcrtr, codes "qipcrtr")
    ∷ (43, Smc, codes "smc") ∷ (44, Xdp, codes "xdp") ∷ (45, Mctp, codes "mctp") ∷ []

-- and two that are written by numbers which read as others
abbrev pub all_family_rows : List (Named AddressFamily)
all_family_rows = family_rows ++ (1, Local, codes "local") ∷ (16, Route, codes "route") ∷ []

-- what a number reads as, which is never `Local` or `Route`, whose numbers are those of `Unix` and `Netlink`; and the number of a family
abbrev pub families : Numbering ℕ AddressFamily
families = by_rows (number_in enum (numbered all_family_rows) (λ f. f.0)) Other (numbered family_rows) (λ d. refl) refl

-- the text of a family: its name, and of any other its number
abbrev pub family_text : AddressFamily → List ℕ
family_text family = text_in enum all_family_rows (λ f. decimal f.0) family
