use Rattle.std.proofs.Common.{◌≡◌, rules, ap, ◌∙◌, to_z, of_z, w32}
use Rattle.npr_tc_actions.specs.ActionType.{action_types}
use Rattle.npr_tc_actions.proofs.generic.TcActionGeneric.in_front.Goals as goal

pub returns : goal.returns
returns c =
    let action : to_z w32 (of_z w32 c.from_le_bytes-3.result) ≡ c.from_le_bytes-3.result = search rules in
    let refcnt : to_z w32 (of_z w32 c.from_le_bytes-4.result) ≡ c.from_le_bytes-4.result = search rules in
    let bindcnt : to_z w32 (of_z w32 c.from_le_bytes-5.result) ≡ c.from_le_bytes-5.result = search rules in
    λ i. record {
      index = c.from_le_bytes.ensures i;
      capab = c.from_le_bytes-2.ensures i;
      action = (c.from.ensures ∙ ap action_types.of (action ∙ c.from_le_bytes-3.ensures)) i;
      refcnt = (refcnt ∙ c.from_le_bytes-4.ensures) i;
      bindcnt = (bindcnt ∙ c.from_le_bytes-5.ensures) i;
    }
