-- The don't-fragment bit of what a tunnel of Geneve sends, by the table: `GENEVE_DF_*` of `linux/if_link.h`.
use Rattle.std.specs.Prelude.{ℕ, List, [], ◌∷◌}
use Rattle.std.proofs.Common.{refl}
use Rattle.npr_base.specs.Layout.{Layout, byte, formed}
use Rattle.npr_base.specs.Numbering.{Numbering}
use Rattle.npr_base.specs.Enumeration.{enumeration}
use Rattle.npr_link_tunnels.specs.declared.geneve_df.GeneveDf.{GeneveDf}
use Rattle.npr_link_tunnels.specs.declared.geneve_df.GeneveDf.TheVariants.{Unset, Set, Inherit, Other}
use Rattle.npr_link_tunnels.specs.contracts.geneve_df.GeneveDf.{enum}

-- in the order of the variants
abbrev pub geneve_df_rows : List (ℕ × GeneveDf)
geneve_df_rows =
    (0, Unset) ∷ (1, Set) ∷ (2, Inherit) ∷ []

-- the value that a number reads as, and the number that one is written as
abbrev pub geneve_dfs : Numbering ℕ GeneveDf
geneve_dfs = enumeration enum geneve_df_rows Other (λ f. f.0) (λ d. refl) refl

-- how one is read and written
abbrev pub geneve_df : Layout GeneveDf
geneve_df = formed byte geneve_dfs
