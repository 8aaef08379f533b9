-- What the protocol of a link says of it (linux/if_link.h, IFLA_PROTINFO), by the family of the message's header: a list of what IP
-- version 6 says, or of what a bridge says of its port, or the attribute as it stands.
use Rattle.std.specs.Prelude.{◌≡◌, ℕ, ◌<◌, ◌^◌, ◌==◌, true, List}
use Rattle.std.proofs.Common.{refl, ap, ◌∙◌, arith}
use Rattle.npr_base.specs.ByNumber.{valued, whole, valued-number, whole-written}
use Rattle.npr_base.specs.Beside.{has}
use Rattle.npr_base.specs.Family.{Writing, Reading, written_by}
use Rattle.npr_base.specs.Framing.{Item, marked}
use Rattle.npr_base.specs.ListCodec.{list_of}
use Rattle.npr_base.specs.Refusal.{at_number}
use Rattle.npr_base.specs.Table.{Slot, slot_plain, slot_other, writing_by}
use Rattle.npr_base.specs.declared.address_family.AddressFamily.{AddressFamily}
use Rattle.npr_base.specs.declared.address_family.AddressFamily.TheVariants.{Inet6, Bridge}
use Rattle.npr_base.specs.declared.attribute_set.At.{At}
use Rattle.npr_base.specs.declared.attribute_set.AttributeSet.TheVariants.{Link as AtLink, AfSpecInet6 as AtAfSpecInet6, InfoBridgePort as AtBridgePort}
use Rattle.npr_base.specs.declared.value.Form.{Form as ValueForm}
use Rattle.npr_base.specs.declared.value.Form.TheVariants.{List as Listed, Raw}
use Rattle.npr_link.specs.AfSpecInet6 as OfAfSpecInet6
use Rattle.npr_link_bridge.specs.BridgePort as OfBridgePort

pub data ProtoInfos : Type 0 where
  inet6 : List OfAfSpecInet6.family.Meaning → ProtoInfos
  bridge : List OfBridgePort.family.Meaning → ProtoInfos
  unknown : Item → ProtoInfos

-- the families under which it is a list; a family counts by its variant
pub data Form : Type 0 where
  as_inet6 : Form
  as_bridge : Form
  as_whole : Form

abbrev pub form_of : AddressFamily → Form
form_of Inet6 = as_inet6
form_of Bridge = as_bridge
form_of family = as_whole

-- how it is written, whatever the family: for a bridge with NESTED
abbrev pub slot_of : ProtoInfos → Slot
slot_of (inet6 xs) = slot_plain 12 (list_of AtAfSpecInet6 OfAfSpecInet6.attributes) xs
slot_of (bridge xs) = slot_plain (marked true 12) (list_of AtBridgePort OfBridgePort.attributes) xs
slot_of (unknown x) = slot_other x

abbrev pub writing : Writing ProtoInfos
writing = writing_by slot_of

abbrev pub place : At
place = at_number AtLink 12

-- both kinds are numbers of 16 bits
pub plain-small : 12 < 2 ^ 16
plain-small = omega arith

pub marked-small : marked true 12 < 2 ^ 16
marked-small = omega arith

-- and read
abbrev pub proto_infos : Form → Reading writing
proto_infos as_inet6 = valued slot_of place 12 plain-small (list_of AtAfSpecInet6 OfAfSpecInet6.attributes) inet6 (λ xs. refl)
proto_infos as_bridge = valued slot_of place (marked true 12) marked-small (list_of AtBridgePort OfBridgePort.attributes) bridge (λ xs. refl)
proto_infos as_whole = whole slot_of place unknown (λ x. refl)

-- without memory
abbrev pub shown_as : Form → ValueForm
shown_as as_inet6 = Listed AtAfSpecInet6 0
shown_as as_bridge = Listed AtBridgePort 0
shown_as as_whole = Raw

pub shown-place : (form : Form) (number : ℕ) → (proto_infos form).seeing.form_at number ≡ (place, shown_as form)
shown-place as_inet6 number = refl
shown-place as_bridge number = refl
shown-place as_whole number = refl

-- what is read of the number is written with it
pub kept-number : (form : Form) (x : Item) (p : ProtoInfos) → has 12 x ≡ true → (proto_infos form).Reads x p → has 12 (written_by writing p) ≡ true
kept-number as_inet6 x p is reads =
    ap (λ (n : ℕ). n == 12)
    (valued-number slot_of place 12 plain-small (list_of AtAfSpecInet6 OfAfSpecInet6.attributes) inet6 (λ xs. refl) p x reads)
kept-number as_bridge x p is reads =
    ap (λ (n : ℕ). n == 12)
    (valued-number slot_of place (marked true 12) marked-small (list_of AtBridgePort OfBridgePort.attributes) bridge (λ xs. refl) p x reads)
kept-number as_whole x p is reads = ap (λ (y : Item). has 12 y) (whole-written slot_of place unknown (λ y. refl) p x reads) ∙ is
