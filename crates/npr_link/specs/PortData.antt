-- The data of a port, by what governs them (linux/if_link.h, IFLA_INFO_SLAVE_DATA): a list of a family, or bytes as they stand.
use Rattle.std.specs.Prelude.{ℕ, List, map}
use Rattle.std.proofs.Common.{refl}
use Rattle.npr_base.specs.Codec.{Codec}
use Rattle.npr_base.specs.declared.attribute_set.AttributeSet.TheVariants as At
use Rattle.npr_link.specs.Vrf as OfVrf
use Rattle.npr_link_bridge.specs.BridgePort as OfBridgePort
use Rattle.npr_link_devices.specs.BondPort as OfBondPort
use Rattle.npr_base.specs.Choices.{Held, as_list, as_bytes, Case, list_case, bytes_case, chosen}
use Rattle.npr_link.specs.declared.port_data.InfoPortData.{InfoPortData}
use Rattle.npr_link.specs.declared.port_data.InfoPortData.TheVariants as Has
use Rattle.npr_link.specs.declared.port_kind.InfoPortForm.{InfoPortForm}
use Rattle.npr_link.specs.declared.port_kind.InfoPortForm.TheVariants as InfoPortForm

-- data, without where they lie in memory
pub data Data : Type 0 where
  bridge : List OfBridgePort.family.Meaning → Data
  vrf : List OfVrf.family.Meaning → Data
  bond : List OfBondPort.family.Meaning → Data
  other : List ℕ → Data

abbrev pub port_data_of : InfoPortData → Data
port_data_of (Has.BridgePort xs) = bridge (map OfBridgePort.family.meaning xs.items)
port_data_of (Has.VrfPort xs) = vrf (map OfVrf.family.meaning xs.items)
port_data_of (Has.BondPort xs) = bond (map OfBondPort.family.meaning xs.items)
port_data_of (Has.Other bytes) = other bytes.items

-- how they are written, whatever governs
abbrev pub held : Data → Held
held (bridge xs) = as_list At.InfoBridgePort OfBridgePort.attributes xs
held (vrf xs) = as_list At.InfoVrf OfVrf.attributes xs
held (bond xs) = as_list At.InfoBondPort OfBondPort.attributes xs
held (other bytes) = as_bytes bytes

-- and read
abbrev pub case : InfoPortForm → Case held
case InfoPortForm.Bridge = list_case held At.InfoBridgePort OfBridgePort.attributes bridge (λ xs. refl)
case InfoPortForm.Vrf = list_case held At.InfoVrf OfVrf.attributes vrf (λ xs. refl)
case InfoPortForm.Bond = list_case held At.InfoBondPort OfBondPort.attributes bond (λ xs. refl)
case InfoPortForm.Kept = bytes_case held other (λ bytes. refl)

abbrev pub port_data : InfoPortForm → Codec Data
port_data form = chosen held (case form)
