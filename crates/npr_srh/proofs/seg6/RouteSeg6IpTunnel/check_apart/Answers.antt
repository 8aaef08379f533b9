use Rattle.std.proofs.Common.{◌≡◌, sym, ◌∙◌, inl}
use Rattle.std.proofs.lemmas.Result.{IfOk-weaker, IfErr-weaker}
use Rattle.npr_base.specs.Framing.{Item, number_of}
use Rattle.npr_base.specs.declared.refusal.DecodeError.{DecodeError}
use Rattle.npr_srh.specs.Seg6.{Seg6, IsSeg6, Seg6Wrong}
use Rattle.npr_srh.specs.Seg6Tunnel.{attributes, attributes_by}
use Rattle.npr_srh.proofs.seg6.RouteSeg6IpTunnel.check_apart.Goals as goal

header_read : (x : Item) (h : Seg6) → number_of x.kind ≡ 1 → IsSeg6 x.value h → attributes.Reads x (inl h)
unfolding attributes_by
header_read x h one is = rw one is

header_wrong : (x : Item) (e : DecodeError) → number_of x.kind ≡ 1 → Seg6Wrong x.value e → attributes.Faulty x e
unfolding attributes_by
header_wrong x e one wrong = rw one wrong

pub returns-clause-ok : goal.returns-clause-ok
returns-clause-ok c =
    let x = c.args.item.now in
    let one : number_of x.kind ≡ 1 = sym c.kind.ensures ∙ c.if-kind-ne-SEG6_IPTUNNEL_SRH.false in
    let read = rw c.value.ensures at c.check_value.ensures.ok in
    IfOk-weaker c.check_value.result _ _ (λ u h. (inl h.0, header_read x h.0 one h.1)) read

pub returns-clause-refused : goal.returns-clause-refused
returns-clause-refused c =
    let x = c.args.item.now in
    let one : number_of x.kind ≡ 1 = sym c.kind.ensures ∙ c.if-kind-ne-SEG6_IPTUNNEL_SRH.false in
    let wrong = rw c.value.ensures at c.check_value.ensures.refused in
    IfErr-weaker c.check_value.result _ _ (λ e w. header_wrong x e one w) wrong
