-- Options of Geneve, child by child.
use Rattle.std.specs.Prelude.{◌≡◌, Bool, true, false, List, [], ◌∷◌, Option, Some, None}
use Rattle.npr_encapsulation.specs.Geneve.{Geneve, Child, class_child, type_child, data_child, option_of, fresh}
use Rattle.npr_encapsulation.specs.declared.geneve.RouteGeneveOpt.{RouteGeneveOpt}

abbrev pub seen : Option RouteGeneveOpt → Option Geneve
seen None = None
seen (Some o) = Some (option_of o)

abbrev pub listed : {A : Type 0} → Option A → List A
listed None = []
listed (Some a) = a ∷ []

abbrev pub is_some : {A : Type 0} → Option A → Bool
is_some None = false
is_some (Some a) = true

-- a class closes the option that is open and opens another; a type or data change the one that is open
abbrev pub Changes : Option Geneve → Child → Option Geneve → Geneve → Type 0
Changes before (class_child n) closed opened = (closed ≡ before) × (opened ≡ fresh n)
Changes (Some o) (type_child n) closed opened = (closed ≡ None) × (opened ≡ record o { typ = n })
Changes (Some o) (data_child d) closed opened = (closed ≡ None) × (opened ≡ record o { opt_data = d })
Changes None c closed opened = ⊥

-- a class stands anywhere, and a type or data where an option is open
abbrev pub Stands : Bool → Child → Type 0
Stands inside (class_child n) = Unit {0}
Stands inside c = inside ≡ true
