use Rattle.std.proofs.Common.{◌≡◌, List, sym, ◌∙◌, inl}
use Rattle.std.proofs.lemmas.Result.{IfOk-weaker, IfErr-weaker}
use Rattle.npr_base.specs.Framing.{Item, number_of}
use Rattle.npr_base.specs.declared.refusal.DecodeError.{DecodeError}
use Rattle.npr_encapsulation.specs.Geneve.{Geneve, AreOptions, OptionsFault}
use Rattle.npr_encapsulation.specs.TunnelOptions.{attributes}
use Rattle.npr_encapsulation.proofs.tunnel_opts.RouteLwTunnelOpt.check_apart.Goals as goal

options_read : (x : Item) (os : List Geneve) → number_of x.kind ≡ 1 → AreOptions x.value os → attributes.Reads x (inl os)
unfolding attributes
options_read x os one are = rw one are

options_wrong : (x : Item) (e : DecodeError) → number_of x.kind ≡ 1 → OptionsFault x.value e → attributes.Faulty x e
unfolding attributes
options_wrong x e one wrong = rw one wrong

pub returns-clause-ok : goal.returns-clause-ok
returns-clause-ok c =
    let x = c.args.item.now in
    let one : number_of x.kind ≡ 1 = sym c.kind.ensures ∙ c.if-kind-ne1.false in
    let read = rw c.value.ensures at c.check_options_value.ensures.ok in
    IfOk-weaker c.check_options_value.result _ _ (λ u os. (inl os.0, options_read x os.0 one os.1)) read

pub returns-clause-refused : goal.returns-clause-refused
returns-clause-refused c =
    let x = c.args.item.now in
    let one : number_of x.kind ≡ 1 = sym c.kind.ensures ∙ c.if-kind-ne1.false in
    let wrong = rw c.value.ensures at c.check_options_value.ensures.refused in
    IfErr-weaker c.check_options_value.result _ _ (λ e w. options_wrong x e one w) wrong
