-- What stands in front of bytes, and that it is one attribute at most.
use Rattle.std.proofs.Common.{◌≡◌, ℕ, min, ◌+◌, ◌-◌, ◌*◌, ◌/◌, ◌%◌, ◌<◌, ◌≤◌, List, [], ◌∷◌, ◌++◌, length, get_or, take, drop, Ok, refl, sym, ap, subst, ◌∙◌, append_assoc, arith, length-append, length-drop}
use Rattle.std.proofs.lemmas.List.{append-nil, take-append-drop, length-take, drop_at, drop_min, take_rest, drop-drop}
use Rattle.std.specs.Int.{w16, to_le_bytes}
use Rattle.npr_base.specs.Framing.{Item, pad, padded, Front, Begins}

four : (bs : List ℕ) → 4 ≤ length bs → bs ≡ get_or bs 0 0 ∷ get_or bs 1 0 ∷ get_or bs 2 0 ∷ get_or bs 3 0 ∷ drop 4 bs
four (a ∷ b ∷ c ∷ d ∷ t) h = refl
four (a ∷ b ∷ c ∷ []) h = absurd (omega arith)
four (a ∷ b ∷ []) h = absurd (omega arith)
four (a ∷ []) h = absurd (omega arith)
four [] h = absurd (omega arith)

low : (a b n : ℕ) → a < 256 → b < 256 → n ≡ a + b * 256 → (n % 256 ≡ a) × (n / 256 % 256 ≡ b)
low a b n p q e = (omega arith, omega arith)

pub begins : (bs : List ℕ) (l k : ℕ) → ((i : ℕ) → get_or bs i 0 < 256) → 4 ≤ length bs
    → l ≡ get_or bs 0 0 + get_or bs 1 0 * 256 → k ≡ get_or bs 2 0 + get_or bs 3 0 * 256
    → 4 ≤ l → l ≤ length bs → Begins bs (Ok (record { kind = k; value = take (l - 4) (drop 4 bs) }))
begins bs l k fits long l-is k-is low_end high_end =
    let v : List ℕ = take (l - 4) (drop 4 bs) in
    let b0 = fits 0 in let b1 = fits 1 in let b2 = fits 2 in let b3 = fits 3 in
    let len : length v ≡ l - 4 = omega (arith, length-take (l - 4) (drop 4 bs), length-drop 4 bs) in
    let n : 4 + length v ≡ get_or bs 0 0 + get_or bs 1 0 * 256 = omega arith in
    let e0 = low (get_or bs 0 0) (get_or bs 1 0) (4 + length v) b0 b1 n in
    let e1 = low (get_or bs 2 0) (get_or bs 3 0) k b2 b3 k-is in
    let tail : drop 4 bs ≡ (v ++ []) ++ drop (l - 4) (drop 4 bs) = sym (take-append-drop (l - 4) (drop 4 bs)) ∙ ap (λ (w : List ℕ). w ++ drop (l - 4) (drop 4 bs)) (sym (append-nil v)) in
    let whole : bs ≡ padded (record { kind = k; value = v }) [] ++ drop (l - 4) (drop 4 bs) = rw (e0.0, e0.1, e1.0, e1.1, ← tail) (four bs long) in
    (record { kind = omega arith; value = omega arith }, (drop (l - 4) (drop 4 bs), whole))

-- the attribute without padding and what follows, with the padding taken from that
regroup : (h v more : List ℕ) (p : ℕ) → h ++ ((v ++ []) ++ more) ≡ h ++ ((v ++ take p more) ++ drop p more)
regroup h v more p = ap (λ (w : List ℕ). h ++ w) (ap (λ (w : List ℕ). w ++ more) (append-nil v) ∙ ap (λ (w : List ℕ). v ++ w) (sym (take-append-drop p more)) ∙ sym (append_assoc v (take p more) (drop p more)))

past : (h v more : List ℕ) (p : ℕ) → drop (length h + length v + p) (h ++ ((v ++ []) ++ more)) ≡ drop p more
past h v more p =
    let e : drop (length h + length v) (h ++ ((v ++ []) ++ more)) ≡ more = ap (λ (w : List ℕ). drop (length h + length v) (h ++ (w ++ more))) (append-nil v) ∙ ap (drop (length h + length v)) (sym (append_assoc h v more)) ∙ drop_at (h ++ v) more (length h + length v) (length-append h v) in
    sym (drop-drop p (length h + length v) (h ++ ((v ++ []) ++ more))) ∙ ap (drop p) e

header : Item → List ℕ
header x = to_le_bytes w16 (4 + length x.value) ++ to_le_bytes w16 x.kind

pub steps : (bs : List ℕ) (x : Item) (whole : ℕ) → Begins bs (Ok x)
    → whole ≡ 4 + length x.value + pad (length x.value) → Front bs x (drop (min whole (length bs)) bs)
unfolding header
steps bs x whole (small, (more, is)) size =
    let p : ℕ = pad (length x.value) in
    let cut : drop (min whole (length bs)) bs ≡ drop p more = drop_min whole bs ∙ ap (λ (n : ℕ). drop n bs) size ∙ ap (drop (4 + length x.value + p)) is ∙ past (header x) x.value more p in
    record {
      padding = take p more;
      is = rw cut (is ∙ regroup (header x) x.value more p);
      small = small;
      most = omega (arith, length-take p more);
      whole = rw cut (λ h. omega (arith, length-take p more, length-drop p more));
    }

pub steps_to : (bs inside : List ℕ) (x : Item) (whole end : ℕ) → inside ≡ bs → Begins inside (Ok x)
    → whole ≡ 4 + length x.value + pad (length x.value) → end ≡ min whole (length inside) → Front bs x (take (length inside - end) (drop end inside))
steps_to bs inside x whole end same b size end-is = rw (take_rest, end-is, same) (steps bs x whole (subst (λ (w : List ℕ). Begins w (Ok x)) same b) size)
