-- How often the partner is asked to send LACPDUs, by the table: `AD_LACP_*` of the kernel's `net/bond_3ad.h`.
use Rattle.std.specs.Prelude.{ℕ, List, [], ◌∷◌}
use Rattle.std.proofs.Common.{refl}
use Rattle.npr_base.specs.Layout.{Layout, byte, formed}
use Rattle.npr_base.specs.Numbering.{Numbering}
use Rattle.npr_base.specs.Enumeration.{enumeration}
use Rattle.npr_link_devices.specs.declared.lacp_rate.BondLacpRate.{BondLacpRate}
use Rattle.npr_link_devices.specs.declared.lacp_rate.BondLacpRate.TheVariants.{Slow, Fast, Other}
use Rattle.npr_link_devices.specs.contracts.lacp_rate.BondLacpRate.{enum}

-- in the order of the variants
abbrev pub lacp_rate_rows : List (ℕ × BondLacpRate)
lacp_rate_rows =
    (0, Slow) ∷ (1, Fast) ∷ []

-- the value that a number reads as, and the number that one is written as
abbrev pub lacp_rates : Numbering ℕ BondLacpRate
lacp_rates = enumeration enum lacp_rate_rows Other (λ f. f.0) (λ d. refl) refl

-- how one is read and written
abbrev pub lacp_rate : Layout BondLacpRate
lacp_rate = formed byte lacp_rates
