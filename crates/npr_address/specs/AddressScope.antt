-- Scopes of addresses, by their table: `RT_SCOPE_*` of `linux/rtnetlink.h`.
use Rattle.std.specs.Prelude.{ℕ, List, [], ◌∷◌, codes, decimal}
use Rattle.std.proofs.Common.{refl}
use Rattle.npr_base.specs.Numbering.{Numbering}
use Rattle.npr_base.specs.Rows.{Named, numbered, text_in}
use Rattle.npr_base.specs.Enumeration.{enumeration}
use Rattle.npr_address.specs.declared.addr_scope.AddressScope.{AddressScope}
use Rattle.npr_address.specs.declared.addr_scope.AddressScope.TheVariants.{Universe, Site, Link, Host, Nowhere, Other}
use Rattle.npr_address.specs.contracts.addr_scope.AddressScope.{enum}

-- in the order of the variants
abbrev pub scope_rows : List (Named AddressScope)
scope_rows =
    (0, Universe, codes "universe") ∷ (200, Site, codes "site") ∷ (253, Link, codes "link") ∷ (254, Host, codes "host")
    ∷ (255, Nowhere, codes "nowhere") ∷ []

-- the scope that a number reads as, and the number that one is written as
abbrev pub scopes : Numbering ℕ AddressScope
scopes = enumeration enum (numbered scope_rows) Other (λ f. f.0) (λ d. refl) refl

-- the text of a scope
abbrev pub scope_text : AddressScope → List ℕ
scope_text x = text_in enum scope_rows (λ f. decimal f.0) x
