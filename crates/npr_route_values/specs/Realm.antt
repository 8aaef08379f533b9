-- The realms of a route (linux/rtnetlink.h, RTA_FLOW): a number whose low half is the destination, and whose high half the source.
use Rattle.std.specs.Prelude.{ℕ, ◌+◌, ◌*◌, ◌/◌, ◌%◌, ◌^◌}
use Rattle.std.proofs.Common.{arith}
use Rattle.npr_base.specs.Layout.{Layout, le32, formed}
use Rattle.npr_base.specs.Numbering.{Numbering}
use Rattle.npr_route_values.specs.declared.realm.RouteRealm.{RouteRealm}

-- the realms that a number reads as, and the number that they are written as
abbrev pub realms : Numbering ℕ RouteRealm
realms = record {
  of = λ d. record { source = d / 2 ^ 16; destination = d % 2 ^ 16 };
  number = λ x. x.source * 2 ^ 16 + x.destination;
  back = λ d. omega arith;
}

abbrev pub route_realm : Layout RouteRealm
route_realm = formed le32 realms
