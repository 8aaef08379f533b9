-- The address of a neighbour: its form follows from the family of the message (linux/neighbour.h, NDA_DST).
use Rattle.std.specs.Prelude.{◌≡◌, ℕ, List, None}
use Rattle.std.proofs.Common.{refl}
use Rattle.npr_base.specs.declared.address_family.AddressFamily.{AddressFamily}
use Rattle.npr_base.specs.declared.address_family.AddressFamily.TheVariants.{Inet, Inet6}
use Rattle.npr_base.specs.declared.ip.IpAddr.{IpAddr}
use Rattle.npr_base.specs.declared.ip.IpAddr.TheVariants.{V4, V6}
use Rattle.npr_base.specs.Layout.{octets4, octets16}
use Rattle.npr_base.specs.Codec.{Codec, exactly, raw}
use Rattle.npr_base.specs.Value.{Shown, is_address, are_bytes}
use Rattle.npr_base.specs.VariantCodec.{variant, written_alike}
use Rattle.npr_neighbour.specs.declared.address.NeighbourAddress.{NeighbourAddress}
use Rattle.npr_neighbour.specs.declared.address.NeighbourAddress.TheVariants.{Inet as AddressInet, Inet6 as AddressInet6, Other as AddressOther}

-- an address, without where it lies in memory
pub data Address : Type 0 where
  inet : List ℕ → Address
  inet6 : List ℕ → Address
  other : List ℕ → Address

abbrev pub address_of : NeighbourAddress → Address
address_of (AddressInet a) = inet a
address_of (AddressInet6 a) = inet6 a
address_of (AddressOther v) = other v.items

-- the families whose addresses have a form; a family counts by its variant
pub data Form : Type 0 where
  four : Form
  sixteen : Form
  any : Form

abbrev pub form_of : AddressFamily → Form
form_of Inet = four
form_of Inet6 = sixteen
form_of family = any

-- the bytes that are written
abbrev pub address_bytes : Address → List ℕ
address_bytes (inet a) = a
address_bytes (inet6 a) = a
address_bytes (other v) = v

-- what is seen of it in these bytes
abbrev pub address_shown : List ℕ → Address → Shown
address_shown b (inet a) = is_address (V4 a)
address_shown b (inet6 a) = is_address (V6 a)
address_shown b (other v) = are_bytes v

-- four bytes, sixteen, or any bytes as they stand
abbrev pub address_by : Form → Codec Address
address_by four = variant (exactly octets4) inet address_bytes address_shown (λ v. refl) (λ v. refl) (λ b v. refl)
address_by sixteen = variant (exactly octets16) inet6 address_bytes address_shown (λ v. refl) (λ v. refl) (λ b v. refl)
address_by any = variant raw other address_bytes address_shown (λ v. refl) (λ v. refl) (λ b v. refl)

pub address-alike : (form : Form) → ((address_by form).encode ≡ address_bytes) × ((a : Address) → (address_by form).unfit 0 a ≡ None)
address-alike four = (refl, λ a. refl)
address-alike sixteen = (refl, λ a. refl)
address-alike any = (refl, λ a. refl)

abbrev pub address_in : Form → Codec Address
address_in = written_alike address_by address_bytes address-alike

abbrev pub neighbour_address : AddressFamily → Codec Address
neighbour_address family = address_in (form_of family)

-- the address of a neighbour that an address of IP is
abbrev pub address_of_ip : IpAddr → NeighbourAddress
address_of_ip (V4 a) = AddressInet a
address_of_ip (V6 a) = AddressInet6 a
