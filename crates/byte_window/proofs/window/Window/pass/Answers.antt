use Rattle.std.proofs.Common.{◌≡◌, ◌+◌, ◌-◌, take, drop, ap, sym, ◌∙◌, arith}
use Rattle.std.proofs.lemmas.List.{drop-drop, drop-take}
use Rattle.byte_window.proofs.window.Window.pass.Goals as goal

pub returns-clause-rest : goal.returns-clause-rest
returns-clause-rest g c =
    let room = c.args.self.now.room.items in
    let start = c.args.self.now.start in
    let held = c.args.self.now.end - start in
    let n = c.min-count.result in
    let left = c.args.self.now.end - (start + n) in
    let parts : held ≡ n + left = omega (arith, c.min-count.ensures) in
    let cut = ap (λ m. drop n (take m (drop start room))) parts ∙ drop-take n left (drop start room) ∙ ap (take left) (drop-drop n start room) in
    sym cut ∙ ap (λ m. drop m (take held (drop start room))) c.min-count.ensures
