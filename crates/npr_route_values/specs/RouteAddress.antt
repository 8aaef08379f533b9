-- The address of a route: its form follows from the family of the message.
use Rattle.std.specs.Prelude.{◌≡◌, ℕ, List, None}
use Rattle.std.proofs.Common.{refl}
use Rattle.npr_base.specs.declared.address_family.AddressFamily.{AddressFamily}
use Rattle.npr_base.specs.declared.address_family.AddressFamily.TheVariants.{Inet, Inet6, Mpls}
use Rattle.npr_base.specs.declared.ip.IpAddr.{IpAddr}
use Rattle.npr_base.specs.declared.ip.IpAddr.TheVariants.{V4, V6}
use Rattle.npr_base.specs.Layout.{octets4, octets16}
use Rattle.npr_base.specs.Codec.{Codec, exactly, raw}
use Rattle.npr_base.specs.Value.{Shown, is_address, is_structure, are_bytes}
use Rattle.npr_base.specs.VariantCodec.{variant, written_alike}
use Rattle.npr_route_values.specs.MplsCodec.{mpls_label}
use Rattle.npr_route_values.specs.declared.mpls.MplsLabel.{MplsLabel}
use Rattle.npr_route_values.specs.declared.address.RouteAddress.{RouteAddress}
use Rattle.npr_route_values.specs.declared.address.RouteAddress.TheVariants.{Inet as AddressInet, Inet6 as AddressInet6}
use Rattle.npr_route_values.specs.declared.address.RouteAddress.TheVariants.{Mpls as AddressMpls, Other as AddressOther}

-- an address, without where it lies in memory
pub data Address : Type 0 where
  inet : List ℕ → Address
  inet6 : List ℕ → Address
  mpls : MplsLabel → Address
  other : List ℕ → Address

abbrev pub address_of : RouteAddress → Address
address_of (AddressInet a) = inet a
address_of (AddressInet6 a) = inet6 a
address_of (AddressMpls l) = mpls l
address_of (AddressOther v) = other v.items

-- the families whose addresses have a form; a family counts by its variant
pub data Form : Type 0 where
  four : Form
  sixteen : Form
  label : Form
  any : Form

abbrev pub form_of : AddressFamily → Form
form_of Inet = four
form_of Inet6 = sixteen
form_of Mpls = label
form_of family = any

-- the bytes that are written
abbrev pub route_address_bytes : Address → List ℕ
route_address_bytes (inet a) = a
route_address_bytes (inet6 a) = a
route_address_bytes (mpls l) = mpls_label.encode l
route_address_bytes (other v) = v

-- what is seen of it in these bytes
abbrev pub address_shown : List ℕ → Address → Shown
address_shown b (inet a) = is_address (V4 a)
address_shown b (inet6 a) = is_address (V6 a)
address_shown b (mpls l) = is_structure b
address_shown b (other v) = are_bytes v

-- four bytes, sixteen, one label of four bytes, or any bytes as they stand
abbrev pub address_by : Form → Codec Address
address_by four = variant (exactly octets4) inet route_address_bytes address_shown (λ v. refl) (λ v. refl) (λ b v. refl)
address_by sixteen = variant (exactly octets16) inet6 route_address_bytes address_shown (λ v. refl) (λ v. refl) (λ b v. refl)
address_by label = variant (exactly mpls_label) mpls route_address_bytes address_shown (λ v. refl) (λ v. refl) (λ b v. refl)
address_by any = variant raw other route_address_bytes address_shown (λ v. refl) (λ v. refl) (λ b v. refl)

pub address-alike : (form : Form) → ((address_by form).encode ≡ route_address_bytes) × ((a : Address) → (address_by form).unfit 0 a ≡ None)
address-alike four = (refl, λ a. refl)
address-alike sixteen = (refl, λ a. refl)
address-alike label = (refl, λ a. refl)
address-alike any = (refl, λ a. refl)

abbrev pub address_in : Form → Codec Address
address_in = written_alike address_by route_address_bytes address-alike

abbrev pub route_address : AddressFamily → Codec Address
route_address family = address_in (form_of family)

-- the address of a route that an address of IP is
abbrev pub address_of_ip : IpAddr → RouteAddress
address_of_ip (V4 a) = AddressInet a
address_of_ip (V6 a) = AddressInet6 a
