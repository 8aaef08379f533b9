use Rattle.std.proofs.Common.{ap}
use Rattle.npr_base.proofs.Checking.{encodings-seen, list-seen}
use Rattle.npr_base.proofs.list.check_list.Goals as goal
use Rattle.npr_base.specs.Family.{shaped_item, shaped_unfit, written_as, unfit_as, written_by, unfit_by}

pub returns : goal.returns
returns g c =
    let a = g.A.Attribute.family in
    let item = shaped_item g.A.Nla.shape in
    let e = encodings-seen item (written_by a.writing) a.meaning (λ x. ap written_as (g.met.A.Attribute.shape_is x)) c.args.list.now in
    let u = list-seen (shaped_unfit g.A.Nla.shape) (unfit_by a.writing) item (written_by a.writing) a.meaning (λ x. ap unfit_as (g.met.A.Attribute.shape_is x)) (λ x. ap written_as (g.met.A.Attribute.shape_is x)) c.args.list.now in
    rw (← u, ← e) c.check_list_body.ensures
