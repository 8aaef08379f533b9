-- The family of a gateway (linux/rtnetlink.h, struct rtvia): a number of two bytes.
use Rattle.std.proofs.Common.{refl}
use Rattle.npr_base.specs.Fields.{le_two, ◌fills◌, last, structure}
use Rattle.npr_base.specs.Layout.{Layout}
use Rattle.npr_route_values.specs.contracts.via.RouteViaBuffer.{struct}
use Rattle.npr_route_values.specs.declared.via.RouteViaBuffer.{RouteViaBuffer}

abbrev pub via_buffer : Layout RouteViaBuffer
via_buffer =
    structure struct
    (last (RouteViaBuffer.address_family fills le_two)) refl (λ v. tt)
