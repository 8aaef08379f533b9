-- What names a list comes back from its two numbers, and two numbers name one that does.
use Rattle.std.proofs.Common.{◌≡◌, ℕ, ◌+◌, ◌*◌, ◌/◌, ◌%◌, ◌^◌, ◌<◌, ◌≤◌, refl, sym, ap, ◌∙◌, arith, subst}
use Rattle.npr_base.specs.Numbering.{Numbering}
use Rattle.npr_base.specs.contracts.attribute_set.AttributeSet.{enum as sets}
use Rattle.npr_link.specs.contracts.port_kind.InfoPortForm.{enum as ports}
use Rattle.npr_link_tunnels.specs.contracts.form.InfoForm.{enum as links}
use Rattle.npr_tc_actions.specs.contracts.form.TcActionForm.{enum as actions}
use Rattle.npr_tc_values.specs.contracts.form.TcForm.{enum as disciplines}
use Rattle.netlink_packet_route.specs.AddressFamily.{families}
use Rattle.netlink_packet_route.specs.EncapType.{encap_types}
use Rattle.netlink_packet_route.specs.Nests.{FromBytes, IsOf, encap_set, nest_in, told_set}
use Rattle.netlink_packet_route.specs.Readings.{no_context}
use Rattle.netlink_packet_route.proofs.NumberLaws.{listed-bytes}
use Rattle.netlink_packet_route.specs.RouteType.{route_types}
use Rattle.netlink_packet_route.specs.declared.framing.AttributeSet.{AttributeSet}
use Rattle.netlink_packet_route.specs.declared.framing.AttributeSet.TheVariants as At
use Rattle.netlink_packet_route.specs.declared.link.InfoForm.{InfoForm}
use Rattle.netlink_packet_route.specs.declared.link.InfoForm.TheVariants.{Kept}
use Rattle.netlink_packet_route.specs.declared.link.InfoPortForm.{InfoPortForm}
use Rattle.netlink_packet_route.specs.declared.link.InfoPortForm.TheVariants.{Kept as PortKept}
use Rattle.netlink_packet_route.specs.declared.tc.TcActionForm.{TcActionForm}
use Rattle.netlink_packet_route.specs.declared.tc.TcActionForm.TheVariants.{Kept as ActionKept}
use Rattle.netlink_packet_route.specs.declared.tc.TcForm.{TcForm}
use Rattle.netlink_packet_route.specs.declared.tc.TcForm.TheVariants.{Kept as TcKept}
use Rattle.netlink_packet_route.specs.declared.context.Context.{Context}
use Rattle.netlink_packet_route.specs.declared.nests.Nest.{Nest}
use Rattle.netlink_packet_route.specs.declared.route.RouteLwEnCapType.{RouteLwEnCapType}
use Rattle.netlink_packet_route.specs.declared.route.RouteLwEnCapType.TheVariants as Kind
use Rattle.npr_c.specs.Bare.{bare-back, bare-below, bare-past}
use Rattle.npr_c.specs.Nests.{context_number, context_of, encap_part, form_number, form_of, nest_context, nest_of, nest_set}
use Rattle.npr_c.specs.Nests.{port_form_number, port_form_of, set_number, set_of, tc_action_form_number, tc_action_form_of, tc_form_number, tc_form_of}

-- ---- of enums

pub set-back : (set : AttributeSet) → set_of (set_number set) ≡ set
set-back set = bare-back sets tt At.Value set

pub set-past : (n : ℕ) → 140 ≤ n → set_of n ≡ At.Value
set-past n le = bare-past sets tt At.Value n le

form-back : (form : InfoForm) → form_of (form_number form) ≡ form
form-back form = bare-back links tt Kept form

form-below : (form : InfoForm) → form_number form < 256
form-below form = omega (arith, bare-below links tt Kept form)

pub form-past : (n : ℕ) → 32 ≤ n → form_of n ≡ Kept
form-past n le = bare-past links tt Kept n le

port-back : (form : InfoPortForm) → port_form_of (port_form_number form) ≡ form
port-back form = bare-back ports tt PortKept form

port-below : (form : InfoPortForm) → port_form_number form < 256
port-below form = omega (arith, bare-below ports tt PortKept form)

pub port-past : (n : ℕ) → 4 ≤ n → port_form_of n ≡ PortKept
port-past n le = bare-past ports tt PortKept n le

tc-back : (form : TcForm) → tc_form_of (tc_form_number form) ≡ form
tc-back form = bare-back disciplines tt TcKept form

tc-below : (form : TcForm) → tc_form_number form < 256
tc-below form = omega (arith, bare-below disciplines tt TcKept form)

pub tc-past : (n : ℕ) → 19 ≤ n → tc_form_of n ≡ TcKept
tc-past n le = bare-past disciplines tt TcKept n le

action-back : (form : TcActionForm) → tc_action_form_of (tc_action_form_number form) ≡ form
action-back form = bare-back actions tt ActionKept form

action-below : (form : TcActionForm) → tc_action_form_number form < 256
action-below form = omega (arith, bare-below actions tt ActionKept form)

pub action-past : (n : ℕ) → 13 ≤ n → tc_action_form_of n ≡ ActionKept
action-past n le = bare-past actions tt ActionKept n le

-- ---- of families and types

-- the number of what a number below the most reads as is below it too, and reads as the same
number-below : {V : Type 0} (n : Numbering ℕ V) (most : ℕ) (x : V) → IsOf most n x → n.number x < most
number-below n most x (d, below, is) = subst (λ (k : ℕ). k < most) (sym (ap n.number is ∙ n.back d)) below

read-back : {V : Type 0} (n : Numbering ℕ V) (most : ℕ) (x : V) → IsOf most n x → (k : ℕ) → k ≡ n.number x → n.of k ≡ x
read-back n most x (d, below, is) k same = ap n.of (same ∙ ap n.number is ∙ n.back d) ∙ sym is

lowest-byte : (a b c : ℕ) → a < 256 → (a + 256 * b + 65536 * c) % 256 ≡ a
lowest-byte a b c small = omega arith

next-byte : (a b c : ℕ) → a < 256 → b < 256 → (a + 256 * b + 65536 * c) / 256 % 256 ≡ b
next-byte a b c small little = omega arith

above : (a b c : ℕ) → a < 256 → b < 256 → (a + 256 * b + 65536 * c) / 65536 ≡ c
above a b c small little = omega arith

low-of-two : (a b : ℕ) → a < 256 → (a + 256 * b) % 256 ≡ a
low-of-two a b small = omega arith

high-of-two : (a b : ℕ) → a < 256 → b < 256 → (a + 256 * b) / 256 % 256 ≡ b
high-of-two a b small little = omega arith

byte-below : (a : ℕ) → a < 256 → a % 256 ≡ a
byte-below a small = omega arith

two-below : (a : ℕ) → a < 65536 → a % 65536 ≡ a
two-below a small = omega arith

-- ---- of lists

-- whatever the type, its members are those of an encapsulation
encap-back : (type : RouteLwEnCapType) (k : ℕ) → nest_of (set_number (encap_set type)) k ≡ nest_in At.Encap (context_of At.Encap k)
encap-back Kind.None k = refl
encap-back Kind.Mpls k = refl
encap-back Kind.Ip k = refl
encap-back Kind.Ila k = refl
encap-back Kind.Ip6 k = refl
encap-back Kind.Seg6 k = refl
encap-back Kind.Bpf k = refl
encap-back Kind.Seg6Local k = refl
encap-back Kind.Rpl k = refl
encap-back Kind.Ioam6 k = refl
encap-back Kind.Xfrm k = refl
encap-back (Kind.Other n) k = refl

module _ (c : Context) where
  module _ (f : IsOf 256 families c.family) (t : IsOf 256 route_types c.route_type) where
    abbrev number : ℕ
    number = families.number c.family + 256 * route_types.number c.route_type + 65536 * encap_types.number c.encap_type

    family-back : families.of (number % 256) ≡ c.family
    family-back =
        read-back families 256 c.family f (number % 256)
        (lowest-byte (families.number c.family) (route_types.number c.route_type) (encap_types.number c.encap_type)
        (number-below families 256 c.family f))

    type-back : route_types.of (number / 256 % 256) ≡ c.route_type
    type-back =
        read-back route_types 256 c.route_type t (number / 256 % 256)
        (next-byte (families.number c.family) (route_types.number c.route_type) (encap_types.number c.encap_type)
        (number-below families 256 c.family f) (number-below route_types 256 c.route_type t))

    above-back : IsOf 65536 encap_types c.encap_type → encap_types.of (number / 65536) ≡ c.encap_type
    above-back e =
        read-back encap_types 65536 c.encap_type e (number / 65536)
        (above (families.number c.family) (route_types.number c.route_type) (encap_types.number c.encap_type)
        (number-below families 256 c.family f) (number-below route_types 256 c.route_type t))

  link-back : form_of ((form_number c.link + 256 * port_form_number c.port) % 256) ≡ c.link
  link-back = ap form_of (low-of-two (form_number c.link) (port_form_number c.port) (form-below c.link)) ∙ form-back c.link

  slave-back : port_form_of ((form_number c.link + 256 * port_form_number c.port) / 256 % 256) ≡ c.port
  slave-back =
      ap port_form_of (high-of-two (form_number c.link) (port_form_number c.port) (form-below c.link) (port-below c.port)) ∙ port-back c.port

-- where the context is no more than the set rests on
back-by : (set : AttributeSet) (c : Context) → FromBytes (record { set = set; context = c })
    → nest_of (set_number (told_set set c)) (context_number set c) ≡ record { set = set; context = c }
back-by At.Route c from =
    (λ i. record {
      set = At.Route;
      context = record no_context {
        family = family-back c from.family from.route_type i;
        route_type = type-back c from.family from.route_type i;
        encap_type = above-back c from.family from.route_type from.encap_type i;
      };
    })
    ∙ ap (λ (o : Context). record { set = At.Route; context = o }) (sym from.no_more)
back-by At.NextHop c from =
    (λ i. record {
      set = At.NextHop;
      context = record no_context {
        family = family-back c from.family from.route_type i;
        encap_type = above-back c from.family from.route_type from.encap_type i;
      };
    })
    ∙ ap (λ (o : Context). record { set = At.NextHop; context = o }) (sym from.no_more)
back-by At.Neighbour c from =
    (λ i. record { set = At.Neighbour; context = record no_context { family = family-back c from.family from.route_type i } })
    ∙ ap (λ (o : Context). record { set = At.Neighbour; context = o }) (sym from.no_more)
back-by At.Link c from =
    (λ i. record { set = At.Link; context = record no_context { family = family-back c from.family from.route_type i } })
    ∙ ap (λ (o : Context). record { set = At.Link; context = o }) (sym from.no_more)
back-by At.Encap c from =
    let k = encap_types.number c.encap_type in
    let back = read-back encap_types 65536 c.encap_type from.encap_type (k % 65536)
    (two-below k (number-below encap_types 65536 c.encap_type from.encap_type)) in
    encap-back c.encap_type k ∙ (λ i. record { set = At.Encap; context = record no_context { encap_type = back i } })
    ∙ ap (λ (o : Context). record { set = At.Encap; context = o }) (sym from.no_more)
back-by At.LinkInfo c from =
    (λ i. record { set = At.LinkInfo; context = record no_context { link = link-back c i; port = slave-back c i } })
    ∙ ap (λ (o : Context). record { set = At.LinkInfo; context = o }) (sym from.no_more)
back-by At.InfoIpTunnel c from =
    let back = ap form_of (byte-below (form_number c.link) (form-below c.link)) ∙ form-back c.link in
    (λ i. record { set = At.InfoIpTunnel; context = record no_context { link = back i } })
    ∙ ap (λ (o : Context). record { set = At.InfoIpTunnel; context = o }) (sym from.no_more)
back-by At.Tc c from =
    let back = ap tc_form_of (byte-below (tc_form_number c.tc) (tc-below c.tc)) ∙ tc-back c.tc in
    (λ i. record { set = At.Tc; context = record no_context { tc = back i } })
    ∙ ap (λ (o : Context). record { set = At.Tc; context = o }) (sym from.no_more)
back-by At.TcStats2 c from =
    let back = ap tc_form_of (byte-below (tc_form_number c.tc) (tc-below c.tc)) ∙ tc-back c.tc in
    (λ i. record { set = At.TcStats2; context = record no_context { tc = back i } })
    ∙ ap (λ (o : Context). record { set = At.TcStats2; context = o }) (sym from.no_more)
back-by At.TcAction c from =
    let k = tc_action_form_number c.tc_action in
    let back = ap tc_action_form_of (byte-below k (action-below c.tc_action)) ∙ action-back c.tc_action in
    (λ i. record { set = At.TcAction; context = record no_context { tc_action = back i } })
    ∙ ap (λ (o : Context). record { set = At.TcAction; context = o }) (sym from.no_more)
back-by At.Value c from = let own = from.own in absurd cc
back-by At.Mpls c from = let own = from.own in absurd cc
back-by At.Ip c from = let own = from.own in absurd cc
back-by At.Ip6 c from = let own = from.own in absurd cc
back-by At.Xfrm c from = let own = from.own in absurd cc
back-by At.Geneve c from = let own = from.own in absurd cc
back-by At.Seg6 c from = let own = from.own in absurd cc
back-by At.Seg6Local c from = let own = from.own in absurd cc
back-by At.Rpl c from = let own = from.own in absurd cc
back-by At.Ioam6 c from = let own = from.own in absurd cc
back-by set c from = ap (λ (o : Context). record { set = set; context = o }) (sym from.no_more)

pub nest-back : (n : Nest) → FromBytes n → nest_of (nest_set n) (nest_context n) ≡ n
nest-back n from = back-by n.set n.context from

-- ---- and two numbers name one of bytes

encap-below : (set : AttributeSet) (n : ℕ) → n < 2 ^ 32 → encap_part set n < 65536
encap-below At.Route n below = omega (arith, below)
encap-below At.NextHop n below = omega (arith, below)
encap-below set n below = omega arith

pub from-numbers : (number context : ℕ) → context < 2 ^ 32 → FromBytes (nest_of number context)
from-numbers number context below =
    let set = set_of number in
    listed-bytes (context_of set context) (context % 256, omega arith, refl) (context / 256 % 256, omega arith, refl)
    (encap_part set context, encap-below set context below, refl) set
