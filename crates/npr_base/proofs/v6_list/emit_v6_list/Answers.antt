use Rattle.std.specs.List.{concat}
use Rattle.std.proofs.Common.{◌≡◌, ◌++◌, List, ℕ, length, drop, [], ap, ◌∙◌, arith}
use Rattle.std.proofs.lemmas.List.{append-nil, drop_all}
use Rattle.npr_base.proofs.V6ListLaws.{length-concat}
use Rattle.npr_base.proofs.v6_list.emit_v6_list.Goals as goal

pub write_v6_list-requires : goal.write_v6_list-requires
write_v6_list-requires c = omega (arith, length-concat c.args.addresses.now c.v6_list_len.ensures.each, c.requires)

pub returns : goal.returns
returns c =
    let whole = concat c.args.addresses.now in
    let rest : drop (length whole) c.args.out.now ≡ [] = drop_all (length whole) c.args.out.now (omega (arith, length-concat c.args.addresses.now c.v6_list_len.ensures.each, c.requires)) in
    c.write_v6_list.ensures.after ∙ ap (λ (w : List ℕ). whole ++ w) rest ∙ append-nil whole
