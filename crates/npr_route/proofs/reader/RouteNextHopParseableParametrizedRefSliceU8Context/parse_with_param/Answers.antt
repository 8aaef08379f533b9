use Rattle.std.proofs.Common.{◌≢◌}
use Rattle.std.proofs.lemmas.Result.{IfErr-weaker}
use Rattle.npr_base.specs.declared.refusal.DecodeError.TheVariants.{OutOfMemory}
use Rattle.npr_route.specs.Attribute.{Hop, IsHop, HopWrong}
use Rattle.npr_route.proofs.OneHop.{hop-sound}
use Rattle.npr_route.proofs.reader.RouteNextHopParseableParametrizedRefSliceU8Context.parse_with_param.Goals as goal

pub returns-clause-none : goal.returns-clause-none
returns-clause-none c =
    let k = c.args.context in
    let bytes = c.args.bytes.now in
    IfErr-weaker c.parse_with_param_body.result (λ e. e ≢ OutOfMemory → HopWrong k bytes e) (λ e. e ≢ OutOfMemory → (h : Hop) → IsHop k bytes h → ⊥)
    (λ e p other h is. hop-sound k bytes h e is (p other)) c.parse_with_param_body.ensures.refused
