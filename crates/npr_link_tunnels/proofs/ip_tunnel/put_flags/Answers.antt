use Rattle.std.specs.Prelude.{Some}
use Rattle.std.proofs.Common.{◌≡◌, ◌∙◌, refl, rules}
use Rattle.npr_base.specs.Layout.{le32}
use Rattle.npr_link_tunnels.specs.Ip6TunnelFlags.{ip6_tunnel_flag_bits}
use Rattle.npr_link_tunnels.specs.TunnelFlags.{ipip, sit, ip6tnl, kind_of, ipv4_flags, sit_flags, ipv6_flags}
use Rattle.npr_link_tunnels.specs.declared.ip_tunnel.InfoIpTunnel.{InfoIpTunnel}
use Rattle.npr_link_tunnels.proofs.ip_tunnel.put_flags.Goals as goal

pub returns-in_ok-read_u16-in-IpIp-clause-ok : goal.returns-in_ok-read_u16-in-IpIp-clause-ok
returns-in_ok-read_u16-in-IpIp-clause-ok g c =
    let kind : kind_of c.args.form ≡ Some ipip = search rules in
    let n = c.in_ok-read_u16-in-IpIp.field-0 in
    let reads = rw c.value.ensures at c.in_ok-read_u16-in-IpIp.ensures.ok in
    (InfoIpTunnel.Ipv4Flags n, c.put.ensures, rw kind (ipv4_flags n, (n, reads, refl), refl))

pub returns-in_ok-read_u16-in-SitTun-clause-ok : goal.returns-in_ok-read_u16-in-SitTun-clause-ok
returns-in_ok-read_u16-in-SitTun-clause-ok g c =
    let kind : kind_of c.args.form ≡ Some sit = search rules in
    let n = c.in_ok-read_u16-in-SitTun.field-0 in
    let reads = rw c.value-in-SitTun.ensures at c.in_ok-read_u16-in-SitTun.ensures.ok in
    (InfoIpTunnel.Ipv6SitFlags n, c.put-in-SitTun.ensures, rw kind (sit_flags n, (n, reads, refl), refl))

pub returns-in_ok-bits-in-Ip6Tnl-clause-ok : goal.returns-in_ok-bits-in-Ip6Tnl-clause-ok
returns-in_ok-bits-in-Ip6Tnl-clause-ok g c =
    let kind : kind_of c.args.form ≡ Some ip6tnl = search rules in
    let flags = c.from_bits_retain.result in
    let reads = rw c.value-in-Ip6Tnl.ensures at c.in_ok-bits-in-Ip6Tnl.ensures.ok in
    let bits = c.from_bits_retain.ensures tt ∙ reads.1 in
    let is : flags ≡ ip6_tunnel_flag_bits.of (le32.decode c.args.item.now.value) = λ i. record { 0 = bits i } in
    (InfoIpTunnel.Ipv6Flags flags, c.put-in-Ip6Tnl.ensures, rw kind (ipv6_flags flags, (flags, (reads.0, is), refl), refl))
