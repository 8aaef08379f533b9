use Rattle.std.proofs.Common.{◌∙◌, ap}
use Rattle.npr_base.proofs.Checking.{encodings-seen, list-seen}
use Rattle.npr_base.proofs.list.write_list.Goals as goal
use Rattle.npr_base.specs.Family.{shaped_item, shaped_unfit, written_as, unfit_as, written_by, unfit_by}

pub write_list_body-requires-clause-fits : goal.write_list_body-requires-clause-fits
write_list_body-requires-clause-fits g c =
    let a = g.A.Attribute.family in
    let item = shaped_item g.A.Nla.shape in
    list-seen (shaped_unfit g.A.Nla.shape) (unfit_by a.writing) item (written_by a.writing) a.meaning (λ x. ap unfit_as (g.met.A.Attribute.shape_is x)) (λ x. ap written_as (g.met.A.Attribute.shape_is x)) c.args.list.now ∙ c.requires.fits

pub write_list_body-requires-clause-room : goal.write_list_body-requires-clause-room
write_list_body-requires-clause-room g c =
    let a = g.A.Attribute.family in
    let e = encodings-seen (shaped_item g.A.Nla.shape) (written_by a.writing) a.meaning (λ x. ap written_as (g.met.A.Attribute.shape_is x)) c.args.list.now in
    rw e c.requires.room

pub returns-clause-len : goal.returns-clause-len
returns-clause-len g c =
    let a = g.A.Attribute.family in
    let e = encodings-seen (shaped_item g.A.Nla.shape) (written_by a.writing) a.meaning (λ x. ap written_as (g.met.A.Attribute.shape_is x)) c.args.list.now in
    rw (← e) c.write_list_body.ensures.len

pub returns-clause-after : goal.returns-clause-after
returns-clause-after g c =
    let a = g.A.Attribute.family in
    let e = encodings-seen (shaped_item g.A.Nla.shape) (written_by a.writing) a.meaning (λ x. ap written_as (g.met.A.Attribute.shape_is x)) c.args.list.now in
    rw (← e) c.write_list_body.ensures.after
