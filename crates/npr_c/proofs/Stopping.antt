-- How a place is told.
use Rattle.std.proofs.Common.{◌≡◌, ◌⊎◌, ℕ, ◌<◌, List, length, sym, ap, subst, ◌∙◌, inr}
use Rattle.netlink_packet_route.specs.MessageKind.{header_size}
use Rattle.netlink_packet_route.specs.Stops.{StandsIn}
use Rattle.netlink_packet_route.specs.declared.framing.DecodeError.{DecodeError}
use Rattle.netlink_packet_route.specs.declared.kind.MessageKind.{MessageKind}
use Rattle.npr_c.specs.Faults.{fault_of, located}
use Rattle.npr_c.specs.Stops.{IsPlaced}
use Rattle.npr_c.specs.declared.faults.Fault.{Fault}

-- a fault that is told with its place
pub located_there : (answer fault : Fault) (e : DecodeError) (offset : ℕ) → fault ≡ fault_of e → answer ≡ record fault { offset = offset }
    → answer ≡ located e answer.offset
located_there answer fault e offset of standing =
    let there : answer.offset ≡ offset = ap (λ (f : Fault). f.offset) standing in
    subst (λ (k : ℕ). answer ≡ located e k) (sym there) (standing ∙ ap (λ (f : Fault). record f { offset = offset }) of)

pub placed : (kind : MessageKind) (bytes : List ℕ) (answer fault : Fault) (e : DecodeError) (offset : ℕ) → fault ≡ fault_of e
    → answer ≡ record fault { offset = offset } → ((length bytes < header_size kind) × (offset ≡ 0)) ⊎ StandsIn kind bytes offset e
    → IsPlaced kind bytes answer
placed kind bytes answer fault e offset of standing place =
    let there : answer.offset ≡ offset = ap (λ (f : Fault). f.offset) standing in
    inr (e, located_there answer fault e offset of standing, rw there place)
