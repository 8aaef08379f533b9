-- What `==` answers at types that contracts see as something else: attributes, bytes that are left, and counts.
use Rattle.std.specs.Prelude.{ℕ, List, Bool, ◌==◌, ◌&&◌, nat_eq}
use Rattle.std.specs.Cmp.{unsigned_Decides, first_so, second_so}
use Rattle.std.specs.Cmp.Lexicographic.{pointwise, bytes_decides}
use Rattle.std.proofs.Common.{ap}
use Rattle.npr_base.specs.Counts.{Counts}
use Rattle.npr_base.specs.Framing.{Item}
use Rattle.npr_base.specs.Equality.{IsEquality}

abbrev pub same_bytes : List ℕ → List ℕ → Bool
same_bytes a b = pointwise nat_eq a b

pub bytes_equality : IsEquality same_bytes
bytes_equality a b = bytes_decides a b

-- both counts
abbrev pub same_counts : Counts → Counts → Bool
same_counts a b = (a.successful == b.successful) && (a.failed == b.failed)

pub counts_equality : IsEquality same_counts
counts_equality a b =
    let found = unsigned_Decides a.successful b.successful in
    let failed = unsigned_Decides a.failed b.failed in
    let both : Bool = a.successful == b.successful in (
      λ e. λ i. record { successful = found.0 (first_so both (a.failed == b.failed) e) i; failed = failed.0 (second_so both (a.failed == b.failed) e) i },
      λ e. λ i. found.1 (ap (λ (c : Counts). c.successful) e) i && failed.1 (ap (λ (c : Counts). c.failed) e) i,
    )

-- both kinds and both values
abbrev pub same_item : Item → Item → Bool
same_item a b = (a.kind == b.kind) && pointwise nat_eq a.value b.value

pub item_equality : IsEquality same_item
item_equality a b =
    let kinds = unsigned_Decides a.kind b.kind in
    let values = bytes_decides a.value b.value in (
      λ e. λ i. record {
        kind = kinds.0 (first_so (a.kind == b.kind) (pointwise nat_eq a.value b.value) e) i;
        value = values.0 (second_so (a.kind == b.kind) (pointwise nat_eq a.value b.value) e) i;
      },
      λ e. λ i. kinds.1 (ap (λ (x : Item). x.kind) e) i && values.1 (ap (λ (x : Item). x.value) e) i,
    )
