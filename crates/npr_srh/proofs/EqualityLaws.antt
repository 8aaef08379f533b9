-- What `==` answers of routing headers and of members of tunnels: whether they mean the same.
use Rattle.std.specs.Prelude.{◌≡◌, ℕ, Bool, ◌&&◌, Option, Some, None, nat_eq}
use Rattle.std.specs.Bool.{Decides}
use Rattle.std.specs.Option.{option_eq}
use Rattle.std.specs.Cmp.{unsigned_Decides}
use Rattle.std.proofs.Common.{refl, sym, rules, ap, true≢false}
use Rattle.npr_base.specs.Equality.{IsEquality, IsEqualityOf}
use Rattle.npr_base.proofs.EqualityLaws.{enum_equality, one_equality}
use Rattle.npr_base.specs.ViewEquality.{item_equality}
use Rattle.npr_base.proofs.IpLaws.{ipv4_equality, ipv6_equality}
use Rattle.npr_base.specs.Tables.{table_decides}
use Rattle.npr_base.proofs.MeaningLaws.{items_equality}
use Rattle.npr_base.proofs.StructLaws.{and_decides, decides_as}
use Rattle.npr_srh.specs.Seg6.{Seg6, seg6_of}
use Rattle.npr_srh.specs.Seg6Mode.{modes}
use Rattle.npr_srh.specs.Seg6Tunnel as OfSeg6
use Rattle.npr_srh.specs.Seg6Local.{Local, LocalFront, local_of}
use Rattle.npr_srh.specs.Seg6LocalTunnel as OfLocal
use Rattle.npr_srh.specs.Rpl.{Rpl, RplFront, rpl_of}
use Rattle.npr_srh.specs.RplTunnel as OfRpl
use Rattle.npr_srh.specs.Ioam6Tunnel as OfIoam6
use Rattle.npr_srh.specs.contracts.seg6_mode.Seg6ModePartialEq.TheImpl as ModeEq
use Rattle.npr_srh.specs.contracts.seg6_header.Seg6HeaderPartialEq.TheImpl as HeaderEq
use Rattle.npr_srh.specs.contracts.seg6.RouteSeg6IpTunnelPartialEq.TheImpl as Seg6Eq
use Rattle.npr_srh.specs.contracts.seg6local_action.Seg6LocalAction.{enum as action_enum}
use Rattle.npr_srh.specs.contracts.seg6local_action.Seg6LocalActionPartialEq.TheImpl as ActionEq
use Rattle.npr_srh.specs.contracts.seg6local_srh.Seg6LocalSrhPartialEq.TheImpl as LocalHeaderEq
use Rattle.npr_srh.specs.contracts.seg6local.RouteSeg6LocalTunnelPartialEq.TheImpl as LocalEq
use Rattle.npr_srh.specs.contracts.rpl.RplSrhPartialEq.TheImpl as RplHeaderEq
use Rattle.npr_srh.specs.contracts.rpl.RouteRplIpTunnelPartialEq.TheImpl as RplEq
use Rattle.npr_srh.specs.contracts.ioam6.Ioam6ModePartialEq.TheImpl as Ioam6ModeEq
use Rattle.npr_srh.specs.contracts.ioam6.Ioam6TraceHdrPartialEq.TheImpl as TraceEq
use Rattle.npr_srh.specs.contracts.ioam6.RouteIoam6TunnelPartialEq.TheImpl as Ioam6Eq

-- ---- the fields

pub mode_equality : IsEquality ModeEq.ghosts.eq
mode_equality = search rules

pub action_equality : IsEquality ActionEq.ghosts.eq
action_equality = enum_equality action_enum _ refl (one_equality unsigned_Decides, tt)

pub ioam6_mode_equality : IsEquality Ioam6ModeEq.ghosts.eq
ioam6_mode_equality = search rules

pub trace_equality : IsEquality TraceEq.ghosts.eq
trace_equality = search rules

key_equality : (a b : Option ℕ) → Decides (option_eq nat_eq a b) (a ≡ b)
key_equality None None = (λ e. refl, λ e. refl)
key_equality None (Some y) = (λ e. absurd (true≢false (sym e)), λ e. cc)
key_equality (Some x) None = (λ e. absurd (true≢false (sym e)), λ e. cc)
key_equality (Some x) (Some y) = let h = unsigned_Decides x y in (λ e. ap Some (h.0 e), λ e. h.1 cc)

-- ---- the headers

pub seg6_header_equality : IsEqualityOf seg6_of HeaderEq.ghosts.eq
seg6_header_equality a b =
    decides_as
    (λ p. cc)
    (λ e. (ap (λ (h : Seg6). h.mode) e, (ap (λ (h : Seg6). h.segments) e, ap (λ (h : Seg6). h.hmac) e)))
    (and_decides (mode_equality a.mode b.mode) (and_decides (items_equality ipv6_equality a.segments b.segments) (key_equality a.hmac b.hmac)))

-- a number, and what stands behind it
number : {P : Type 0} {p : Bool} (x y : ℕ) → Decides p P → Decides (nat_eq x y && p) ((x ≡ y) × P)
number x y h = and_decides (unsigned_Decides x y) h

pub local_header_equality : IsEqualityOf local_of LocalHeaderEq.ghosts.eq
local_header_equality a b =
    decides_as
    (λ p. cc)
    (λ e. let is : (get : LocalFront → ℕ) → get (local_of a).front ≡ get (local_of b).front = λ get. ap (λ (h : Local). get h.front) e in
    let s = ap (λ (h : Local). h.segments) e in
    (is (λ f. f.next_header), (is (λ f. f.routing_type), (is (λ f. f.segments_left), (is (λ f. f.first_segment), (is (λ f. f.flags), (is (λ f. f.tag), s)))))))
    (number a.next_header b.next_header (number a.routing_type b.routing_type (number a.segments_left b.segments_left
    (number a.first_segment b.first_segment (number a.flags b.flags (number a.tag b.tag (items_equality ipv6_equality a.segments b.segments)))))))

pub rpl_header_equality : IsEqualityOf rpl_of RplHeaderEq.ghosts.eq
rpl_header_equality a b =
    decides_as
    (λ p. cc)
    (λ e. let is : (get : RplFront → ℕ) → get (rpl_of a).front ≡ get (rpl_of b).front = λ get. ap (λ (h : Rpl). get h.front) e in
    let segments = ap (λ (h : Rpl). h.segments) e in
    (is (λ f. f.next_header), (is (λ f. f.routing_type), (is (λ f. f.segments_left), (is (λ f. f.cmpri), (is (λ f. f.cmpre), (is (λ f. f.pad), segments)))))))
    (number a.next_header b.next_header (number a.routing_type b.routing_type (number a.segments_left b.segments_left
    (number a.cmpri b.cmpri (number a.cmpre b.cmpre (number a.pad b.pad (items_equality ipv6_equality a.segments b.segments)))))))

-- ---- the members

pub seg6_equality : IsEqualityOf OfSeg6.family.meaning Seg6Eq.ghosts.eq
seg6_equality =
    table_decides (OfSeg6.table modes) _ (search (seg6_header_equality, ipv6_equality, unsigned_Decides, item_equality) depth 40)

pub local_equality : IsEqualityOf OfLocal.family.meaning LocalEq.ghosts.eq
local_equality =
    table_decides OfLocal.table _
    (search (action_equality, local_header_equality, unsigned_Decides, ipv4_equality, item_equality) depth 40)

pub rpl_equality : IsEqualityOf OfRpl.family.meaning RplEq.ghosts.eq
rpl_equality = table_decides OfRpl.table _ (search (rpl_header_equality, item_equality) depth 40)

pub ioam6_equality : IsEqualityOf OfIoam6.family.meaning Ioam6Eq.ghosts.eq
ioam6_equality =
    table_decides OfIoam6.table _
    (search (ioam6_mode_equality, ipv6_equality, trace_equality, unsigned_Decides, item_equality) depth 40)
