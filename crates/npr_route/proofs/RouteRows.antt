-- Number 19 under a family that is not mpls, and number 23 under a type that is not multicast.
use Rattle.std.proofs.Common.{◌≡◌, ℕ, List, refl, sym, subst}
use Rattle.npr_base.specs.declared.address_family.AddressFamily.{AddressFamily}
use Rattle.npr_base.specs.declared.address_family.AddressFamily.TheVariants.{Inet, Inet6, Mpls}
use Rattle.npr_base.specs.declared.attribute_set.AttributeSet.TheVariants.{Route as OfRoute}
use Rattle.npr_base.specs.declared.refusal.DecodeError.{DecodeError}
use Rattle.npr_base.specs.declared.value.Form.TheVariants.{Raw}
use Rattle.npr_base.specs.Refusal.{at_number}
use Rattle.npr_base.specs.Table.{RowReads, RowWrong}
use Rattle.npr_route_values.specs.RouteAddress.{form_of, route_address, Address}
use Rattle.npr_base.specs.Codec.{exactly}
use Rattle.npr_base.specs.Layout.{le32}
use Rattle.npr_route_values.specs.declared.route_type.RouteType.{RouteType}
use Rattle.npr_route_values.specs.declared.route_type.RouteType.TheVariants.{Multicast}
use Rattle.npr_route.specs.FlatAttribute.{is_multicast, expires, expires_row, new_destination_address, new_destination_row}

pub address_reads : (family : AddressFamily) → (family ≡ Mpls → ⊥) → (bytes : List ℕ) (a : Address) → (route_address family).Reads bytes a → RowReads (new_destination_row (form_of family)) bytes (new_destination_address a)
address_reads Inet not bytes a p = (a, p, refl)
address_reads Inet6 not bytes a p = (a, p, refl)
address_reads Mpls not bytes a p = absurd (not refl)
address_reads family not bytes a p = (a, p, refl)

pub address_wrong : (family : AddressFamily) → (family ≡ Mpls → ⊥) → (bytes : List ℕ) (e : DecodeError) → (route_address family).Wrong (at_number OfRoute 19) bytes e → RowWrong (new_destination_row (form_of family)) bytes e
address_wrong Inet not bytes e p = p
address_wrong Inet6 not bytes e p = p
address_wrong Mpls not bytes e p = absurd (not refl)
address_wrong family not bytes e p = p

pub expires_reads : (kind : RouteType) → (kind ≡ Multicast → ⊥) → (bytes : List ℕ) (n : ℕ) → (exactly le32).Reads bytes n → RowReads (expires_row (is_multicast kind)) bytes (expires n)
expires_reads Multicast not bytes n p = absurd (not refl)
expires_reads kind not bytes n p = (n, p, refl)

-- how it is read without memory
pub labels_form : (family : AddressFamily) → family ≡ Mpls → Raw ≡ (new_destination_row (form_of family)).codec.showing.form
labels_form family is = subst (λ f. Raw ≡ (new_destination_row (form_of f)).codec.showing.form) (sym is) refl

pub address_form : (family : AddressFamily) → (family ≡ Mpls → ⊥) → (route_address family).showing.form ≡ (new_destination_row (form_of family)).codec.showing.form
address_form Inet not = refl
address_form Inet6 not = refl
address_form Mpls not = absurd (not refl)
address_form family not = refl
