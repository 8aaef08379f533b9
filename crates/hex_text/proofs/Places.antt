-- Where a text goes on with one more byte.
use Rattle.std.proofs.Common.{◌≡◌, ◌≢◌, ℕ, ◌+◌, ◌<◌, inr, List, [], ◌∷◌, ◌++◌, length, take, get_or, refl, sym, ap, ◌∙◌, arith, append-nil, append_assoc}
use Rattle.std.proofs.lemmas.List.{length_push}
use Rattle.hex_text.specs.Place.{IsPlace, ends_in}
use Rattle.hex_text.proofs.Texts.{one-more}

ends_in-append : (xs ys : List ℕ) → ends_in (xs ++ ys) ≡ ends_in xs + ends_in ys
ends_in-append [] ys = omega arith
ends_in-append (c ∷ xs) ys = let more = ends_in-append xs ys in omega (arith, more)

module _ (text : List ℕ) (place line column : ℕ) (within : place < length text) (here : IsPlace (take place text) line column) where
  -- the end of a line
  pub next-line : get_or text place 0 ≡ 10 → IsPlace (take (place + 1) text) (line + 1) 1
  next-line end =
      let front = take place text in
      let whole : take (place + 1) text ≡ front ++ 10 ∷ [] = one-more text place within ∙ ap (λ (c : ℕ). front ++ c ∷ []) end in
      let one : ends_in (front ++ 10 ∷ []) ≡ ends_in here.before + 1 =
      let parts = ends_in-append here.before here.last in
      let all = ends_in-append front (10 ∷ []) in
      let split = ap ends_in here.is in
      omega (arith, parts, all, split, here.open_line) in
      record {
        before = front ++ 10 ∷ [];
        last = [];
        is = whole ∙ sym (append-nil (front ++ 10 ∷ []));
        line_is = omega (arith, here.line_is, one);
        column_is = refl;
        open_line = refl;
        begun = inr (front, refl);
      }

  -- any other byte
  pub next-column : get_or text place 0 ≢ 10 → IsPlace (take (place + 1) text) line (column + 1)
  next-column other =
      let c = get_or text place 0 in
      let none : ends_in (c ∷ []) ≡ 0 = grind arith in
      let parts = ends_in-append here.last (c ∷ []) in
      record {
        before = here.before;
        last = here.last ++ c ∷ [];
        is = one-more text place within ∙ ap (λ (t : List ℕ). t ++ c ∷ []) here.is ∙ append_assoc here.before here.last (c ∷ []);
        line_is = here.line_is;
        column_is = omega (arith, here.column_is, length_push here.last c);
        open_line = omega (arith, parts, none, here.open_line);
        begun = here.begun;
      }
