use Rattle.std.proofs.Common.{rules, arith, codes, map, take, get_or, length, ◌<◌, ◌+◌, ◌≡◌, ◌++◌, ◌∷◌, [], Some, Ok, Bool, false, List, ℕ, refl, ap, ◌∙◌}
use Rattle.std.proofs.Output.{displays_on_IsOk_append, displays_on_ok_of_eq, displays_on_ok_weaken}
use Rattle.std.proofs.lemmas.List.{map_more, append-nil}
use Rattle.std.specs.Prelude.{if◌then◌else◌}
use Rattle.std.specs.Borrow.{Bor}
use Rattle.std.specs.Fmt.{option_append}
use Rattle.npr_base.specs.Text.{joined_by}
use Rattle.npr_route_values.specs.RouteFlags.{names_set}
use Rattle.npr_route_values.proofs.Names.{names_set-push, any_of-push, joined_push}
use Rattle.npr_route_values.proofs.flags.write_names.Goals.{then-is_set+in_ok-write_next, else-is_set}
use Rattle.npr_route_values.proofs.flags.write_names.Goals as goal

pub loop-is_set-preserved : goal.loop-is_set-preserved
loop-is_set-preserved g c =
    let i = c.loop-is_set.is_set-index in
    let names = c.args.names.now in
    let none : Bool × Bor (List ℕ) = (false, record { ref_ptr = (0, 0); now = [] }) in
    let pair : Bool × Bor (List ℕ) → Bool × List ℕ = λ n. (n.0, n.1.now) in
    let here = get_or names i none in
    let inside : i < length names = omega arith in
    let done = names_set (map pair (take i names)) in
    let more : names_set (map pair (take (i + 1) names)) ≡ done ++ (if here.0 then here.1.now ∷ [] else []) =
    ap names_set (map_more pair names i none inside) ∙ names_set-push (map pair (take i names)) here.0 here.1.now in
    elim c.if-is_set.branch [
      | then-is_set+in_ok-write_next w ↦
          let took = g.W.Write.write_str_gives in
          let start = c.args.f.now in
          let after = w.write_next.new.f in
          let name = here.1.now in
          let result = w.write_next.result in
          let one : names_set (map pair (take (i + 1) names)) ≡ done ++ name ∷ [] = more ∙ ap (λ (b : Bool). done ++ (if b then name ∷ [] else [])) w.if-is_set.true in
          let text : List ℕ = (if c.loop-is_set.started then codes " " else []) ++ name in
          let next = displays_on_IsOk_append took start c.loop-is_set.f after (Ok tt) result (joined_by (codes " ") Some done) (Some text) (λ ok. refl) c.loop-is_set.invariant.written w.write_next.ensures in
          let all = displays_on_ok_weaken took start after start after result (Ok tt) _ (λ bs wrote plain ok. wrote plain (search rules)) next in
          let separated = ap (λ (b : Bool). option_append (joined_by (codes " ") Some done) (Some ((if b then codes " " else []) ++ name))) c.loop-is_set.invariant.started in
          let whole = separated ∙ joined_push (codes " ") done name in
          rw (one, w.f-is, w.started-is) record {
            written = displays_on_ok_of_eq took start after (Ok tt) _ _ whole all;
            started = any_of-push done name;
          }
      | else-is_set w ↦
          let same : names_set (map pair (take (i + 1) names)) ≡ done = more ∙ ap (λ (b : Bool). done ++ (if b then here.1.now ∷ [] else [])) w.if-is_set.false ∙ append-nil done in
          rw (same, w.f-is, w.started-is) c.loop-is_set.invariant
    ]
