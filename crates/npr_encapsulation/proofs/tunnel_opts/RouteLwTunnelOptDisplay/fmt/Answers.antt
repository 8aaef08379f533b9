use Rattle.std.proofs.Common.{Some, codes, sym, ap, ◌∙◌}
use Rattle.std.proofs.Output.{displays_on_ok_of_eq}
use Rattle.npr_encapsulation.specs.Geneve.{option_of, geneve_text}
use Rattle.npr_encapsulation.specs.TunnelOptions.{family, tunnel_option_text}
use Rattle.npr_encapsulation.specs.VxlanOptions as OfVxlan
use Rattle.npr_base.proofs.Texts.{joined_by-view}
use Rattle.npr_encapsulation.proofs.tunnel_opts.RouteLwTunnelOptDisplay.fmt.Goals as goal

pub returns-in-Geneve-clause-writes : goal.returns-in-Geneve-clause-writes
returns-in-Geneve-clause-writes g c =
    let joined = joined_by-view (codes ",") (λ o. Some (geneve_text o)) option_of c.in-Geneve.options.items c.as_slice.result.now c.as_slice.ensures.value in
    displays_on_ok_of_eq _ _ _ _ _ _ (joined ∙ ap (λ o. tunnel_option_text (family.meaning o)) (sym c.in-Geneve.is)) c.write_joined.ensures

pub returns-in-Vxlan-clause-writes : goal.returns-in-Vxlan-clause-writes
returns-in-Vxlan-clause-writes g c =
    let joined = joined_by-view (codes ",") OfVxlan.vxlan_text OfVxlan.family.meaning c.in-Vxlan.options.items c.as_slice-in-Vxlan.result.now c.as_slice-in-Vxlan.ensures.value in
    displays_on_ok_of_eq _ _ _ _ _ _ (joined ∙ ap (λ o. tunnel_option_text (family.meaning o)) (sym c.in-Vxlan.is)) c.write_joined-in-Vxlan.ensures
