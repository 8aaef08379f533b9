use Rattle.std.proofs.Common.{◌≡◌, ◌-◌, ℕ, List, length, drop, take, subst, arith}
use Rattle.std.proofs.lemmas.List.{length-drop, take_all}
use Rattle.npr_names.specs.Refusals.{Fronts}
use Rattle.netlink_packet_route.proofs.locating.attribute_at.Goals as goal

pub returns-in-None : goal.returns-in-None
returns-in-None c =
    let rest = drop c.args.offset c.args.bytes.now in
    let all : take (length c.args.bytes.now - c.args.offset) rest ≡ rest =
    take_all (length c.args.bytes.now - c.args.offset) rest (omega (arith, length-drop c.args.offset c.args.bytes.now)) in
    subst (λ (b : List ℕ). (number : ℕ) → Fronts b number → ⊥) all c.in-None.ensures.none
