-- The text of segments, as a loop writes it.
use Rattle.std.specs.Prelude.{codes}
use Rattle.std.specs.Fmt.{option_append}
use Rattle.std.specs.Net.Addr.{segments_of}
use Rattle.std.specs.Net.Text.{ipv6_text}
use Rattle.std.proofs.Common.{ℕ, ◌≡◌, ◌<◌, Option, Some, List, [], ◌∷◌, ◌++◌, length, reverse, sym, ap, ◌∙◌, arith}
use Rattle.std.proofs.lemmas.List.{reverse-append, length-reverse}
use Rattle.npr_base.specs.Text.{joined_by}
use Rattle.npr_base.proofs.Texts.{joined_by-push}
use Rattle.npr_srh.specs.Segments.{segments_text}

-- one segment more, which stands before those that are written
pub segments_text-more : (done : List (List ℕ)) (a : List ℕ) → 0 < length done
    → option_append (segments_text done) (Some (codes " " ++ ipv6_text (segments_of a))) ≡ segments_text (a ∷ done)
segments_text-more done a some =
    let text : List ℕ → Option (List ℕ) = λ b. Some (ipv6_text (segments_of b)) in
    joined_by-push (codes " ") text (reverse done) a (omega (arith, some, length-reverse done)) ∙ ap (joined_by (codes " ") text) (sym (reverse-append (a ∷ []) done))
