-- What the header's family governs stands in the variant of that family.
use Rattle.std.specs.Prelude.{◌≢◌, ◌⊎◌}
use Rattle.std.proofs.Common.{◌≡◌, ℕ, List, map, refl, sym, ap, ◌∙◌, rules}
use Rattle.std.proofs.lemmas.Bool.{eqb-true, eqb-false}
use Rattle.npr_base.specs.Framing.{Item, number_of}
use Rattle.npr_base.specs.declared.address_family.AddressFamily.{AddressFamily}
use Rattle.npr_base.specs.declared.address_family.AddressFamily.TheVariants.{Unspec, Inet, Bridge, Inet6}
use Rattle.npr_link.specs.AfSpec as OfAfSpec
use Rattle.npr_link.specs.AfSpecInet6 as OfAfSpecInet6
use Rattle.npr_link.specs.AfSpecs as OfFamilies
use Rattle.npr_link.specs.AfSpecs.{af_specs}
use Rattle.npr_link.specs.HeaderFamily.{Several, StandsUnder}
use Rattle.npr_link.specs.ProtoInfos as OfProto
use Rattle.npr_link.specs.ProtoInfos.{proto_infos}
use Rattle.npr_link_bridge.specs.AfSpecBridge as OfAfSpecBridge
use Rattle.npr_link_bridge.specs.BridgePort as OfBridgePort
use Rattle.npr_link.specs.declared.af_spec.AfSpecUnspec.{AfSpecUnspec}
use Rattle.npr_link.specs.declared.af_spec_inet6.AfSpecInet6.{AfSpecInet6}
use Rattle.npr_link.specs.declared.attribute.LinkAttribute.{LinkAttribute}
use Rattle.npr_link_bridge.specs.declared.af_spec_bridge.AfSpecBridge.{AfSpecBridge}
use Rattle.npr_link_bridge.specs.declared.bridge_port.InfoBridgePort.{InfoBridgePort}

-- ---- by the form

pub inet6-form : (form : OfProto.Form) (xs : List OfAfSpecInet6.family.Meaning) → (proto_infos form).Coherent (OfProto.inet6 xs) → form ≡ OfProto.as_inet6
inet6-form OfProto.as_inet6 xs c = refl
inet6-form OfProto.as_bridge xs (v, h, e) = absurd cc
inet6-form OfProto.as_whole xs (x, h, e) = absurd cc

pub port-form : (form : OfProto.Form) (xs : List OfBridgePort.family.Meaning) → (proto_infos form).Coherent (OfProto.bridge xs) → form ≡ OfProto.as_bridge
port-form OfProto.as_inet6 xs (v, h, e) = absurd cc
port-form OfProto.as_bridge xs c = refl
port-form OfProto.as_whole xs (x, h, e) = absurd cc

pub whole-form : (form : OfProto.Form) (x : Item) → (proto_infos form).Coherent (OfProto.unknown x) → form ≡ OfProto.as_whole
whole-form OfProto.as_inet6 x (v, h, e) = absurd cc
whole-form OfProto.as_bridge x (v, h, e) = absurd cc
whole-form OfProto.as_whole x c = refl

pub list-form : (form : OfFamilies.Form) (xs : List OfAfSpec.family.Meaning) → (af_specs form).Holds (OfFamilies.unspec xs) → form ≡ OfFamilies.as_list
list-form OfFamilies.as_list xs c = refl
list-form OfFamilies.as_bridge xs (v, h, e) = absurd cc
list-form OfFamilies.as_bytes xs (v, h, e) = absurd cc

pub bridge-form : (form : OfFamilies.Form) (xs : List OfAfSpecBridge.family.Meaning) → (af_specs form).Holds (OfFamilies.bridge xs) → form ≡ OfFamilies.as_bridge
bridge-form OfFamilies.as_list xs (v, h, e) = absurd cc
bridge-form OfFamilies.as_bridge xs c = refl
bridge-form OfFamilies.as_bytes xs (v, h, e) = absurd cc

pub bytes-form : (form : OfFamilies.Form) (xs : List ℕ) → (af_specs form).Holds (OfFamilies.unknown xs) → form ≡ OfFamilies.as_bytes
bytes-form OfFamilies.as_list xs (v, h, e) = absurd cc
bytes-form OfFamilies.as_bridge xs (v, h, e) = absurd cc
bytes-form OfFamilies.as_bytes xs c = refl

-- ---- and by the family

inet6-family : (f : AddressFamily) → OfProto.form_of f ≡ OfProto.as_inet6 → f ≡ Inet6
inet6-family f e = search rules

port-family : (f : AddressFamily) → OfProto.form_of f ≡ OfProto.as_bridge → f ≡ Bridge
port-family f e = search rules

list-family : (f : AddressFamily) → OfFamilies.form_of f ≡ OfFamilies.as_list → (f ≡ Unspec) ⊎ ((f ≡ Inet) ⊎ (f ≡ Inet6))
list-family f e = search rules

bridge-family : (f : AddressFamily) → OfFamilies.form_of f ≡ OfFamilies.as_bridge → f ≡ Bridge
bridge-family f e = search rules

-- another form is that of another family
other-form : {F : Type 0} (form_of : AddressFamily → F) (f g : AddressFamily) (form : F) → form_of f ≡ form → (form_of g ≡ form → ⊥) → f ≢ g
other-form form_of f g form e apart is = apart (sym (ap form_of is) ∙ e)

-- ---- what stands under which

pub stands-inet6 : (v : Several AfSpecInet6) → StandsUnder (λ f. f ≡ Inet6) (LinkAttribute.ProtoInfoInet6 v)
stands-inet6 v f c = inet6-family f (inet6-form (OfProto.form_of f) (map OfAfSpecInet6.family.meaning v.items) c.0)

pub stands-port : (v : Several InfoBridgePort) → StandsUnder (λ f. f ≡ Bridge) (LinkAttribute.ProtoInfoBridge v)
stands-port v f c = port-family f (port-form (OfProto.form_of f) (map OfBridgePort.family.meaning v.items) c.0)

pub stands-whole : (x : Item) → StandsUnder (λ f. (f ≢ Inet6) × (f ≢ Bridge) × (number_of x.kind ≡ 12)) (LinkAttribute.ProtoInfoUnknown x)
stands-whole x f c =
    let e = whole-form (OfProto.form_of f) x c.0 in (
      other-form OfProto.form_of f Inet6 OfProto.as_whole e (λ q. cc),
      other-form OfProto.form_of f Bridge OfProto.as_whole e (λ q. cc),
      eqb-true (number_of x.kind) 12 c.1,
    )

pub stands-unspec : (v : Several AfSpecUnspec) → StandsUnder (λ f. (f ≡ Unspec) ⊎ ((f ≡ Inet) ⊎ (f ≡ Inet6))) (LinkAttribute.AfSpecUnspec v)
stands-unspec v f c = list-family f (list-form (OfFamilies.form_of f) (map OfAfSpec.family.meaning v.items) c.0)

pub stands-bridge : (v : Several AfSpecBridge) → StandsUnder (λ f. f ≡ Bridge) (LinkAttribute.AfSpecBridge v)
stands-bridge v f c = bridge-family f (bridge-form (OfFamilies.form_of f) (map OfAfSpecBridge.family.meaning v.items) c.0)

pub stands-bytes : (v : Several ℕ) → StandsUnder (λ f. (f ≢ Unspec) × (f ≢ Inet) × (f ≢ Inet6) × (f ≢ Bridge)) (LinkAttribute.AfSpecUnknown v)
stands-bytes v f c =
    let e = bytes-form (OfFamilies.form_of f) v.items c.0 in (
      other-form OfFamilies.form_of f Unspec OfFamilies.as_bytes e (λ q. cc),
      other-form OfFamilies.form_of f Inet OfFamilies.as_bytes e (λ q. cc),
      other-form OfFamilies.form_of f Inet6 OfFamilies.as_bytes e (λ q. cc),
      other-form OfFamilies.form_of f Bridge OfFamilies.as_bytes e (λ q. cc),
    )

pub stands-other : (x : Item) → StandsUnder (λ f. number_of x.kind ≢ 12) (LinkAttribute.Other x)
stands-other x f c = eqb-false (number_of x.kind) 12 c.1
