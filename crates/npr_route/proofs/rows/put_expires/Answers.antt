use Rattle.std.proofs.Common.{refl}
use Rattle.npr_route.specs.FlatAttribute as Flat
use Rattle.npr_route.proofs.RouteRows.{expires_reads}
use Rattle.npr_route.proofs.Views.{view_expires, view_multicast_expires}
use Rattle.npr_route.proofs.rows.put_expires.Goals as goal

pub returns-in_ok-read_u64-in-Multicast-clause-ok : goal.returns-in_ok-read_u64-in-Multicast-clause-ok
returns-in_ok-read_u64-in-Multicast-clause-ok c =
    let n = c.in_ok-read_u64-in-Multicast.field-0 in
    rw (c.put.ensures, c.in-Multicast.is) (Flat.multicast_expires n, (n, c.in_ok-read_u64-in-Multicast.ensures.ok, refl), view_multicast_expires n)

pub returns-in_ok-read_u32-in_default : goal.returns-in_ok-read_u32-in_default
returns-in_ok-read_u32-in_default c =
    let n = c.in_ok-read_u32-in_default.field-0 in
    record {
      ok = rw c.put-in_default.ensures (Flat.expires n, expires_reads c.args.kind c.in_default.not-Multicast c.args.value.now n c.in_ok-read_u32-in_default.ensures.ok, view_expires n);
      refused = tt;
    }
