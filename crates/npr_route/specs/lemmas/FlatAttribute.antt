-- The family of the attributes of a route message but next hops, under a context.
use Rattle.std.specs.Prelude.{◌≡◌, ℕ, ◌<◌, ◌^◌, Bool, true, false, None}
use Rattle.std.proofs.Common.{refl, arith, rules}
use Rattle.npr_base.specs.Framing.{marked, number_of}
use Rattle.npr_base.specs.Layout.{le32, le64}
use Rattle.npr_base.specs.Codec.{exactly}
use Rattle.npr_base.specs.ListCodec.{list_of}
use Rattle.npr_base.specs.declared.attribute_set.AttributeSet.TheVariants.{Encap as AtEncap}
use Rattle.npr_base.specs.Family.{Reading}
use Rattle.npr_base.specs.Table.{slot_kind, slot_value, slot_unfit, slot-reads, item_of, Aligned, IsWritten, ReadsAt}
use Rattle.npr_base.specs.lemmas.Table.{other-back}
use Rattle.npr_route_values.specs.MplsCodec.{mpls_labels}
use Rattle.npr_route_values.specs.RouteAddress.{address_in, Form, four, sixteen, label, any}
use Rattle.npr_encapsulation.specs.Encapsulation as OfEncap
use Rattle.npr_route.specs.FlatAttribute.{Meaning, destination, source, gateway, pref_source, new_destination, new_destination_address, encap}
use Rattle.npr_route.specs.FlatAttribute.{any_marks, expires, multicast_expires, other, rows, new_destination_row, NewDestinationValue, expires_row, slot_of}
use Rattle.npr_route.specs.FlatAttribute.{Coherent, writing}

new_destination-written : (form : Form) (multicast : Bool) (family : Reading OfEncap.writing) (v : NewDestinationValue form)
    → IsWritten slot_of (Coherent form multicast family) (new_destination_row form) v
new_destination-written four multicast family v = (refl, refl, λ h. (λ e. cc, h), λ b. refl)
new_destination-written sixteen multicast family v = (refl, refl, λ h. (λ e. cc, h), λ b. refl)
new_destination-written label multicast family v = (refl, refl, λ h. (refl, h), λ b. refl)
new_destination-written any multicast family v = (refl, refl, λ h. (λ e. cc, h), λ b. refl)

expires-written : (form : Form) (multicast : Bool) (family : Reading OfEncap.writing) (v : ℕ)
    → IsWritten slot_of (Coherent form multicast family) (expires_row multicast) v
expires-written form true family v = (refl, refl, λ h. (refl, h), λ b. refl)
expires-written form false family v = (refl, refl, λ h. (refl, h), λ b. refl)

pub aligned : (form : Form) (multicast : Bool) (family : Reading OfEncap.writing)
    → Aligned slot_of (Coherent form multicast family) (rows form multicast family)
aligned form multicast family = search (rules, new_destination-written form multicast family, expires-written form multicast family)

pub kinds : (form : Form) (multicast : Bool) (family : Reading OfEncap.writing) (m : Meaning)
    → Coherent form multicast family m → slot_kind (slot_of m) < 2 ^ 16
kinds form multicast family (other x) c = c.proper.kind
kinds form multicast family m c = omega arith

encap-number : (nested : Bool) → number_of (marked nested 22) ≡ 22
encap-number true = refl
encap-number false = refl

pub back : (form : Form) (multicast : Bool) (family : Reading OfEncap.writing) (m : Meaning) → Coherent form multicast family m
    → slot_unfit (slot_of m) ≡ None
    → ReadsAt other (rows form multicast family) (number_of (item_of (slot_of m)).kind) (item_of (slot_of m)) m
back form multicast family (other x) c fits = other-back other (rows form multicast family) (number_of x.kind) x c.alone
back form multicast family (destination a) c fits = (a, (address_in form).reads_back 1 a c fits, refl)
back form multicast family (source a) c fits = (a, (address_in form).reads_back 2 a c fits, refl)
back form multicast family (gateway a) c fits = (a, (address_in form).reads_back 5 a c fits, refl)
back form multicast family (pref_source a) c fits = (a, (address_in form).reads_back 7 a c fits, refl)
back label multicast family (new_destination a) c fits = (a, mpls_labels.reads_back 19 a c.1 fits, refl)
back four multicast family (new_destination a) c fits = absurd (let e = c.0 in cc)
back sixteen multicast family (new_destination a) c fits = absurd (let e = c.0 in cc)
back any multicast family (new_destination a) c fits = absurd (let e = c.0 in cc)
back label multicast family (new_destination_address a) c fits = absurd (c.0 refl)
back four multicast family (new_destination_address a) c fits = (a, (address_in four).reads_back 19 a c.1 fits, refl)
back sixteen multicast family (new_destination_address a) c fits = (a, (address_in sixteen).reads_back 19 a c.1 fits, refl)
back any multicast family (new_destination_address a) c fits = (a, (address_in any).reads_back 19 a c.1 fits, refl)
back form multicast family (encap a) c fits = rw (encap-number (any_marks a)) (a, (list_of AtEncap family).reads_back 22 a c fits, refl)
back form false family (expires n) c fits = (n, (exactly le32).reads_back 23 n c.1 fits, refl)
back form true family (expires n) c fits = absurd (let e = c.0 in cc)
back form true family (multicast_expires n) c fits = (n, (exactly le64).reads_back 23 n c.1 fits, refl)
back form false family (multicast_expires n) c fits = absurd (let e = c.0 in cc)
back form multicast family m c fits = (slot_value (slot_of m), slot-reads (rows form multicast family) (slot_of m) c fits, refl)
