-- What names a list as two numbers: that of the set of its attributes, and what their numbers rest on.
--     set_number, set_of       a set by the place of its variant, as refusals tell it
--     nest_set, nest_context   those of a list: an encapsulation's has the set of its type
--     nest_of                  what two numbers name
use Rattle.std.specs.Prelude.{ℕ, ◌+◌, ◌*◌, ◌/◌, ◌%◌}
use Rattle.npr_base.specs.contracts.attribute_set.AttributeSet.{the_type as the_sets, enum as sets}
use Rattle.npr_link.specs.contracts.port_kind.InfoPortForm.{the_type as the_ports, enum as ports}
use Rattle.npr_link_tunnels.specs.contracts.form.InfoForm.{the_type as the_links, enum as links}
use Rattle.npr_tc_actions.specs.contracts.form.TcActionForm.{the_type as the_actions, enum as actions}
use Rattle.npr_tc_values.specs.contracts.form.TcForm.{the_type as the_disciplines, enum as disciplines}
use Rattle.netlink_packet_route.specs.AddressFamily.{families}
use Rattle.netlink_packet_route.specs.EncapType.{encap_types}
use Rattle.netlink_packet_route.specs.Nests.{listed, nest_in, told_set}
use Rattle.netlink_packet_route.specs.RouteType.{route_types}
use Rattle.netlink_packet_route.specs.declared.framing.AttributeSet.{AttributeSet}
use Rattle.netlink_packet_route.specs.declared.framing.AttributeSet.TheVariants.{Value, Route, NextHop, Encap, LinkInfo, InfoIpTunnel, Tc, TcStats2, TcAction}
use Rattle.netlink_packet_route.specs.declared.link.InfoForm.{InfoForm}
use Rattle.netlink_packet_route.specs.declared.link.InfoForm.TheVariants.{Kept}
use Rattle.netlink_packet_route.specs.declared.link.InfoPortForm.{InfoPortForm}
use Rattle.netlink_packet_route.specs.declared.link.InfoPortForm.TheVariants.{Kept as PortKept}
use Rattle.netlink_packet_route.specs.declared.tc.TcActionForm.{TcActionForm}
use Rattle.netlink_packet_route.specs.declared.tc.TcActionForm.TheVariants.{Kept as ActionKept}
use Rattle.netlink_packet_route.specs.declared.tc.TcForm.{TcForm}
use Rattle.netlink_packet_route.specs.declared.tc.TcForm.TheVariants.{Kept as TcKept}
use Rattle.netlink_packet_route.specs.declared.context.Context.{Context}
use Rattle.netlink_packet_route.specs.declared.nests.Nest.{Nest}
use Rattle.npr_c.specs.Bare.{bare_of}
use denote.Enum.Declared.{tag_of}

abbrev pub set_number : AttributeSet → ℕ
set_number set = tag_of the_sets set

abbrev pub set_of : ℕ → AttributeSet
set_of n = bare_of sets tt Value n

-- what governs the data of a link, and of a port
abbrev pub form_number : InfoForm → ℕ
form_number form = tag_of the_links form

abbrev pub form_of : ℕ → InfoForm
form_of n = bare_of links tt Kept n

abbrev pub port_form_number : InfoPortForm → ℕ
port_form_number form = tag_of the_ports form

abbrev pub port_form_of : ℕ → InfoPortForm
port_form_of n = bare_of ports tt PortKept n

-- what governs a message of traffic control, and the options of an action
abbrev pub tc_form_number : TcForm → ℕ
tc_form_number form = tag_of the_disciplines form

abbrev pub tc_form_of : ℕ → TcForm
tc_form_of n = bare_of disciplines tt TcKept n

abbrev pub tc_action_form_number : TcActionForm → ℕ
tc_action_form_number form = tag_of the_actions form

abbrev pub tc_action_form_of : ℕ → TcActionForm
tc_action_form_of n = bare_of actions tt ActionKept n

-- a family in the lowest byte, the type of a route in the next, and that of an encapsulation above both; or that of an encapsulation
-- alone; or what governs the data of a link in the lowest byte, and of a port in the next; or what governs in traffic control
abbrev pub context_number : AttributeSet → Context → ℕ
context_number Encap c = encap_types.number c.encap_type
context_number LinkInfo c = form_number c.link + 256 * port_form_number c.port
context_number InfoIpTunnel c = form_number c.link
context_number Tc c = tc_form_number c.tc
context_number TcStats2 c = tc_form_number c.tc
context_number TcAction c = tc_action_form_number c.tc_action
context_number set c = families.number c.family + 256 * route_types.number c.route_type + 65536 * encap_types.number c.encap_type

abbrev pub nest_set : Nest → ℕ
nest_set n = set_number (told_set n.set n.context)

abbrev pub nest_context : Nest → ℕ
nest_context n = context_number n.set n.context

-- ---- and back: of a context what its set rests on

abbrev pub encap_part : AttributeSet → ℕ → ℕ
encap_part Route n = n / 65536
encap_part NextHop n = n / 65536
encap_part set n = n % 65536

abbrev pub context_of : AttributeSet → ℕ → Context
context_of set n = record {
  family = families.of (n % 256);
  route_type = route_types.of (n / 256 % 256);
  encap_type = encap_types.of (encap_part set n);
  link = form_of (n % 256);
  port = port_form_of (n / 256 % 256);
  tc = tc_form_of (n % 256);
  tc_action = tc_action_form_of (n % 256);
}

-- a set without a list of its own is that of the members of an encapsulation
abbrev pub nest_by : AttributeSet → ℕ → Nest
nest_by set context = nest_in (listed set) (context_of set context)

abbrev pub nest_of : ℕ → ℕ → Nest
nest_of number context = nest_by (set_of number) context
