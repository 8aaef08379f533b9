-- What is done with packets where no program stands, by the table: `enum netkit_action` of `linux/if_link.h`.
use Rattle.std.specs.Prelude.{ℕ, List, [], ◌∷◌}
use Rattle.std.proofs.Common.{refl}
use Rattle.npr_base.specs.Layout.{Layout, le32, formed}
use Rattle.npr_base.specs.Numbering.{Numbering}
use Rattle.npr_base.specs.Enumeration.{enumeration}
use Rattle.npr_link.specs.declared.netkit_policy.NetkitPolicy.{NetkitPolicy}
use Rattle.npr_link.specs.declared.netkit_policy.NetkitPolicy.TheVariants.{Pass, Drop, Redirect, Other}
use Rattle.npr_link.specs.contracts.netkit_policy.NetkitPolicy.{enum}

-- in the order of the variants
abbrev pub netkit_policy_rows : List (ℕ × NetkitPolicy)
netkit_policy_rows =
    (0, Pass) ∷ (2, Drop) ∷ (7, Redirect) ∷ []

-- the value that a number reads as, and the number that one is written as
abbrev pub netkit_policies : Numbering ℕ NetkitPolicy
netkit_policies = enumeration enum netkit_policy_rows Other (λ f. f.0) (λ d. refl) refl

-- how one is read and written
abbrev pub netkit_policy : Layout NetkitPolicy
netkit_policy = formed le32 netkit_policies
