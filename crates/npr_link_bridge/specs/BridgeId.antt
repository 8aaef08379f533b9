-- The id of a bridge (linux/if_link.h, struct ifla_bridge_id): a priority of two bytes, the highest first, and an address of six.
use Rattle.std.proofs.Common.{refl}
use Rattle.npr_base.specs.Fields.{be_two, ◌fills◌, ◌then◌, last, structure}
use Rattle.npr_base.specs.Layout.{Layout}
use Rattle.npr_base.specs.MoreFields.{bytes_field}
use Rattle.npr_link_bridge.specs.contracts.bridge_id.BridgeId.{struct}
use Rattle.npr_link_bridge.specs.declared.bridge_id.BridgeId.{BridgeId}

abbrev pub bridge_id : Layout BridgeId
bridge_id = structure struct (BridgeId.priority fills be_two then last (BridgeId.address fills bytes_field 6)) refl (λ v. tt)
