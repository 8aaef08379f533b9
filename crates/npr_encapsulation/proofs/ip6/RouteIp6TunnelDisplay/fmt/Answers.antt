use Rattle.std.proofs.Common.{codes, sym, ap, ◌∙◌}
use Rattle.std.proofs.Output.{displays_on_ok_of_eq}
use Rattle.npr_encapsulation.specs.IpTunnel.{family6, ip6_tunnel_text}
use Rattle.npr_encapsulation.specs.TunnelOptions as OfOption
use Rattle.npr_base.proofs.Texts.{joined_by-view}
use Rattle.npr_encapsulation.proofs.ip6.RouteIp6TunnelDisplay.fmt.Goals as goal

pub returns-in-Opts-clause-writes : goal.returns-in-Opts-clause-writes
returns-in-Opts-clause-writes g c =
    let joined = joined_by-view (codes ", ") OfOption.tunnel_option_text OfOption.family.meaning c.in-Opts.options.items c.as_slice.result.now c.as_slice.ensures.value in
    displays_on_ok_of_eq _ _ _ _ _ _ (joined ∙ ap (λ a. ip6_tunnel_text (family6.meaning a)) (sym c.in-Opts.is)) c.write_joined.ensures
