use Rattle.std.proofs.Common.{◌≡◌, ◌∷◌, ◌++◌, [], sym, ◌∙◌, ap}
use Rattle.npr_base.specs.Counts.{hit}
use Rattle.npr_base.specs.lemmas.Front.{Passes-more}
use Rattle.npr_base.proofs.Searching.{AllOf-more, hit_each-more}
use Rattle.npr_base.proofs.governed.governing.Goals as goal

pub loop-item-preserved : goal.loop-item-preserved
loop-item-preserved g c =
    let so_far = c.loop-item.invariant in
    let x = c.in-Some-Ok.item in
    let look : c.next_counted.new.looks ≡ hit c.loop-item.looks = rw c.in-Some-Ok.field-0-is at c.in-Some-Ok.ensures.counted in (
      so_far.0 ++ x ∷ [],
      Passes-more so_far.0 x c.args.bytes.now c.loop-item.walk c.next_counted.new.self so_far.1 (rw c.in-Some-Ok.field-0-is at c.in-Some-Ok.ensures.step),
      AllOf-more _ so_far.0 x so_far.2 (sym c.told.ensures ∙ c.in_default-told.is),
      look ∙ ap hit so_far.3 ∙ sym (hit_each-more so_far.0 x c.args.looks.now),
    )
