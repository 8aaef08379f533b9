-- Scopes of routes, by their table: `RT_SCOPE_*` of `linux/rtnetlink.h`.
use Rattle.std.specs.Prelude.{ℕ, List, [], ◌∷◌, codes}
use Rattle.std.proofs.Common.{refl}
use Rattle.npr_base.specs.Layout.{Layout, byte, formed}
use Rattle.npr_base.specs.Numbering.{Numbering}
use Rattle.npr_base.specs.Rows.{Named, numbered, text_in}
use Rattle.npr_base.specs.Enumeration.{enumeration}
use Rattle.npr_base.specs.Text.{other_text}
use Rattle.npr_route_values.specs.declared.route_scope.RouteScope.{RouteScope}
use Rattle.npr_route_values.specs.declared.route_scope.RouteScope.TheVariants.{Universe, Site, Link, Host, NoWhere, Other}
use Rattle.npr_route_values.specs.contracts.route_scope.RouteScope.{enum}

-- in the order of the variants
abbrev pub route_scope_rows : List (Named RouteScope)
route_scope_rows =
    (0, Universe, codes "universe") ∷ (200, Site, codes "site") ∷ (253, Link, codes "link") ∷ (254, Host, codes "host")
    ∷ (255, NoWhere, codes "no_where") ∷ []

-- the scope that a number reads as, and the number that one is written as
abbrev pub route_scopes : Numbering ℕ RouteScope
route_scopes = enumeration enum (numbered route_scope_rows) Other (λ f. f.0) (λ d. refl) refl

-- how one is read and written
abbrev pub route_scope : Layout RouteScope
route_scope = formed byte route_scopes

-- the text of a scope
abbrev pub route_scope_text : RouteScope → List ℕ
route_scope_text x = text_in enum route_scope_rows (λ f. other_text f.0) x
