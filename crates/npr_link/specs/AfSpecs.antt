-- What address families say of a link (linux/if_link.h, IFLA_AF_SPEC), by the family of the message's header: a list of them, a list
-- of what a bridge says, or bytes as they stand.
use Rattle.std.specs.Prelude.{ℕ, List}
use Rattle.std.proofs.Common.{refl}
use Rattle.npr_base.specs.Codec.{Codec}
use Rattle.npr_base.specs.declared.attribute_set.AttributeSet.TheVariants as At
use Rattle.npr_base.specs.declared.address_family.AddressFamily.{AddressFamily}
use Rattle.npr_base.specs.declared.address_family.AddressFamily.TheVariants.{Unspec, Inet, Bridge, Inet6}
use Rattle.npr_link.specs.AfSpec as OfAfSpec
use Rattle.npr_link_bridge.specs.AfSpecBridge as OfBridge
use Rattle.npr_base.specs.Choices.{Held, as_list as listed, as_bytes as kept, Case, list_case, bytes_case, chosen}

pub data AfSpecs : Type 0 where
  unspec : List OfAfSpec.family.Meaning → AfSpecs
  bridge : List OfBridge.family.Meaning → AfSpecs
  unknown : List ℕ → AfSpecs

-- the families under which it is a list; a family counts by its variant
pub data Form : Type 0 where
  as_list : Form
  as_bridge : Form
  as_bytes : Form

abbrev pub form_of : AddressFamily → Form
form_of Unspec = as_list
form_of Inet = as_list
form_of Inet6 = as_list
form_of Bridge = as_bridge
form_of family = as_bytes

-- how it is written, whatever the family
abbrev pub held : AfSpecs → Held
held (unspec xs) = listed At.AfSpecUnspec OfAfSpec.attributes xs
held (bridge xs) = listed At.AfSpecBridge OfBridge.attributes xs
held (unknown bytes) = kept bytes

-- and read
abbrev pub case : Form → Case held
case as_list = list_case held At.AfSpecUnspec OfAfSpec.attributes unspec (λ xs. refl)
case as_bridge = list_case held At.AfSpecBridge OfBridge.attributes bridge (λ xs. refl)
case as_bytes = bytes_case held unknown (λ bytes. refl)

abbrev pub af_specs : Form → Codec AfSpecs
af_specs form = chosen held (case form)
