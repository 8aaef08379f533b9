-- What the attributes of a route mean that hold no next hops, by their rows in a context.
use Rattle.std.specs.Prelude.{Bool}
use Rattle.std.proofs.Common.{refl}
use Rattle.npr_base.specs.Family.{Reading}
use Rattle.npr_base.specs.Table.{table_with}
use Rattle.npr_base.specs.TableFamily.{table_family}
use Rattle.npr_route_values.specs.RouteAddress.{Form, form_of}
use Rattle.npr_srh.specs.Seg6Mode.{ModeTable, modes}
use Rattle.npr_encapsulation.specs.Encapsulation as OfEncap
use Rattle.npr_route.specs.FlatAttribute.{Context}
use Rattle.npr_route.specs.FlatAttribute.{other, rows, slot_of}
use Rattle.npr_route.specs.FlatAttribute.{Coherent, is_multicast, writing}
use Rattle.npr_route.specs.lemmas.FlatAttribute.{aligned, kinds, back}

-- the family under a form of addresses, for multicast routes or others, and over a family of members
abbrev pub attributes_in : Form → Bool → Reading OfEncap.writing → Reading writing
attributes_in form multicast family =
    let written = aligned form multicast family in
    let kinds = kinds form multicast family in
    let back = back form multicast family in
    table_family (table_with (rows form multicast family) other slot_of (Coherent form multicast family) written (λ x. refl) (λ x is. is) kinds back)

-- the family under a context, by a table of SEG6 modes
abbrev pub attributes_by : ModeTable → Context → Reading writing
attributes_by by context = attributes_in (form_of context.0) (is_multicast context.1) (OfEncap.encapsulation_by by context.2)

-- and by that of today
abbrev pub attributes : Context → Reading writing
attributes context = attributes_by modes context
