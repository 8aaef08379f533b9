-- What is asked most of the attributes of a route and of a next hop, and built most (linux/rtnetlink.h).
use Rattle.std.specs.Prelude.{ℕ, [], ◌∷◌, Option, Some, None}
use Rattle.npr_base.specs.declared.ip.IpAddr.{IpAddr}
use Rattle.npr_base.specs.declared.ip.IpAddr.TheVariants.{V4, V6}
use Rattle.npr_route_values.specs.RouteAddress.{Address, inet, inet6, address_of, address_of_ip}
use Rattle.npr_route.specs.Attribute.{Meaning, flat, multi_path, Hops, Hop, attributes_of}
use Rattle.npr_route.specs.FlatAttribute.{gateway, destination, table, oif}

-- an address of IP
abbrev pub ip_of : Address → Option IpAddr
ip_of (inet octets) = Some (V4 octets)
ip_of (inet6 octets) = Some (V6 octets)
ip_of a = None

-- what an attribute of one kind holds
abbrev pub gateway_ip : Meaning → Option IpAddr
gateway_ip (flat (gateway a)) = ip_of a
gateway_ip m = None

abbrev pub destination_ip : Meaning → Option IpAddr
destination_ip (flat (destination a)) = ip_of a
destination_ip m = None

abbrev pub table_number : Meaning → Option ℕ
table_number (flat (table n)) = Some n
table_number m = None

abbrev pub interface_index : Meaning → Option ℕ
interface_index (flat (oif n)) = Some n
interface_index m = None

abbrev pub hops_inside : Meaning → Option Hops
hops_inside (multi_path hs) = Some hs
hops_inside m = None

-- attributes by what they hold
abbrev pub to_gateway : IpAddr → Meaning
to_gateway ip = flat (gateway (address_of (address_of_ip ip)))

abbrev pub to_destination : IpAddr → Meaning
to_destination ip = flat (destination (address_of (address_of_ip ip)))

-- a next hop by an interface and a gateway, and nothing else
abbrev pub hop_through : ℕ → IpAddr → Hop
hop_through index ip = record {
  head = record { flags = 0; hops = 0; interface_index = index };
  attributes = attributes_of (to_gateway ip ∷ []);
}
