-- How an entry of a label stack is read from four bytes and written as four, and how a stack of entries is.
use Rattle.std.specs.Prelude.{◌≡◌, ◌*◌, List, [], ◌∷◌, length}
use Rattle.std.proofs.Common.{refl, arith, length-append, lit<}
use Rattle.npr_base.specs.Bits.{packed}
use Rattle.npr_base.specs.Fields.{be_four, ◌fills◌, structure}
use Rattle.npr_base.specs.Layout.{Layout}
use Rattle.npr_base.specs.Codec.{Codec}
use Rattle.npr_base.specs.Blocks.{blocks}
use Rattle.npr_route_values.specs.contracts.mpls.MplsLabel.{struct}
use Rattle.npr_route_values.specs.declared.mpls.MplsLabel.{MplsLabel}
use Rattle.npr_route_values.specs.Mpls.{entry, fields_of}

-- highest byte first
abbrev pub mpls_label : Layout MplsLabel
mpls_label = structure struct (fields_of fills packed be_four entry (λ n. refl)) refl (λ v. tt)

abbrev pub mpls_labels : Codec (List MplsLabel)
mpls_labels = blocks mpls_label (lit< tt)

pub length-mpls_labels : (xs : List MplsLabel) → length (mpls_labels.encode xs) ≡ length xs * 4
length-mpls_labels [] = refl
length-mpls_labels (x ∷ xs) = omega (arith, length-mpls_labels xs, length-append (mpls_label.encode x) (mpls_labels.encode xs))
