-- A search passes attributes of other numbers one by one.
use Rattle.std.proofs.Common.{◌≡◌, ◌≢◌, ℕ, List, [], ◌∷◌, ◌++◌, drop, refl, ap, arith, inl, inr}
use Rattle.std.proofs.lemmas.List.Elements.{All-push}
use Rattle.netlink_packet_route.specs.Framing.{Item, number_of}
use Rattle.netlink_packet_route.specs.FrontLaws.{Passes-more}
use Rattle.npr_c.specs.Steps.{StepsAt, FoundAt, Others, item_of}
use Rattle.npr_c.specs.declared.steps.Step.{Step}

-- a step of this status tells of an attribute
pub found_by : (bytes : List ℕ) (at : ℕ) (step : Step) → StepsAt bytes at step → step.status ≡ 0 → FoundAt bytes at step
found_by bytes at step (inl end) found = absurd (omega (arith, ap (λ (s : Step). s.status) end.1, found))
found_by bytes at step (inr (inl (e, inside, fault, is))) found = absurd (omega (arith, ap (λ (s : Step). s.status) is, found))
found_by bytes at step (inr (inr f)) found = f

-- nothing is passed before the first
pub none_passed : (bytes : List ℕ) (at number : ℕ) → Others bytes at number at
none_passed bytes at number = record { passed = []; passes = refl; others = λ k d inside. absurd (omega (arith, inside)) }

-- an attribute of another number is one more that was passed
pub one_more : (bytes : List ℕ) (at number place : ℕ) (step : Step) → Others bytes at number place → FoundAt bytes place step
    → number_of step.kind ≢ number → Others bytes at number step.next
one_more bytes at number place step o f other = record {
  passed = o.passed ++ item_of bytes step ∷ [];
  passes = Passes-more o.passed (item_of bytes step) (drop at bytes) (drop place bytes) (drop step.next bytes) o.passes f.front;
  others = All-push (λ (x : Item). number_of x.kind ≢ number) o.passed (item_of bytes step) o.others other;
}
