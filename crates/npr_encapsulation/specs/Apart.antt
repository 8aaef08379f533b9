-- The members of an encapsulation that have a reader of their own and are no list.
use Rattle.std.specs.Prelude.{◌≡◌, ℕ}
use Rattle.npr_encapsulation.specs.declared.encap_type.RouteLwEnCapType.{RouteLwEnCapType}
use Rattle.npr_encapsulation.specs.declared.encap_type.RouteLwEnCapType.TheVariants.{Seg6, Ioam6, Rpl, Seg6Local}

-- the routing headers and the trace, by their numbers
abbrev pub IsApart : RouteLwEnCapType → ℕ → Type 0
IsApart Seg6 number = number ≡ 1
IsApart Ioam6 number = number ≡ 3
IsApart Rpl number = number ≡ 1
IsApart Seg6Local number = number ≡ 2
IsApart type number = ⊥
