-- What stands in front of bytes is one attribute at most.
use Rattle.std.proofs.Common.{◌≡◌, ℕ, ◌+◌, ◌-◌, ◌*◌, ◌/◌, ◌%◌, ◌^◌, ◌<◌, ◌≤◌, List, [], ◌∷◌, ◌++◌, length, get_or}
use Rattle.std.proofs.Common.{take, drop, refl, sym, ap, subst, ◌∙◌, append_assoc, arith, inl, inr, length-append}
use Rattle.std.proofs.lemmas.List.{take_at, drop_at, drop_all, drop-drop}
use Rattle.std.specs.Int.{w16, from_le_bytes}
use Rattle.npr_base.specs.declared.refusal.DecodeError.{DecodeError}
use Rattle.npr_base.specs.declared.refusal.DecodeError.TheVariants.{AttributeTooShort, AttributeLength}
use Rattle.npr_base.specs.Framing.{Item, pad, Front, Passes, Cut, Fault}

-- what stands in front, computed
abbrev pub length_at : List ℕ → ℕ
length_at bs = get_or bs 0 0 + get_or bs 1 0 * 256

abbrev pub item_at : List ℕ → Item
item_at bs = record { kind = get_or bs 2 0 + get_or bs 3 0 * 256; value = take (length_at bs - 4) (drop 4 bs) }

abbrev pub rest_at : List ℕ → List ℕ
rest_at bs = drop (length_at bs + pad (length_at bs)) bs

-- a number of two bytes
pub two_bytes : (n : ℕ) → n < 2 ^ 16 → n % 256 + n / 256 % 256 * 256 ≡ n
two_bytes n h = omega arith

-- padding of the same length may be longer, where nothing follows
pub rest_is : (v p rest : List ℕ) (n : ℕ) → n ≡ length v + pad (length v) → length p ≤ pad (length v) → (0 < length rest → length p ≡ pad (length v))
    → drop n ((v ++ p) ++ rest) ≡ rest
rest_is v p [] n size most whole = drop_all n ((v ++ p) ++ []) (omega (arith, length-append (v ++ p) [], length-append v p))
rest_is v p (r ∷ rest) n size most whole = drop_at (v ++ p) (r ∷ rest) n (omega (arith, length-append v p, whole (omega arith)))

item_is : (x : Item) (k : ℕ) (v : List ℕ) → x.kind ≡ k → x.value ≡ v → x ≡ record { kind = k; value = v }
item_is x k v p q = ap (λ (m : ℕ). record { kind = m; value = x.value }) p ∙ ap (λ (w : List ℕ). record { kind = k; value = w }) q

-- what stands in front is one attribute with one rest
pub Front-is : (bs : List ℕ) (x : Item) (rest : List ℕ) → Front bs x rest → (x ≡ item_at bs) × (rest ≡ rest_at bs)
Front-is bs x rest f =
    let l : length_at bs ≡ 4 + length x.value = ap length_at f.is ∙ two_bytes (4 + length x.value) (omega (arith, f.small.value)) in
    let k : (item_at bs).kind ≡ x.kind = ap (λ (b : List ℕ). (item_at b).kind) f.is ∙ two_bytes x.kind f.small.kind in
    let d : drop 4 bs ≡ (x.value ++ f.padding) ++ rest = ap (drop 4) f.is in
    let v : (item_at bs).value ≡ x.value = ap (λ (m : ℕ). take (m - 4) (drop 4 bs)) l ∙ ap (take (4 + length x.value - 4)) d
    ∙ ap (take (4 + length x.value - 4)) (append_assoc x.value f.padding rest)
    ∙ take_at x.value (f.padding ++ rest) (4 + length x.value - 4) (omega arith) in
    let m : ℕ = length x.value + pad (length x.value) in
    let size : length_at bs + pad (length_at bs) ≡ 4 + m = omega (arith, l) in
    let r : rest_at bs ≡ rest = ap (λ (n : ℕ). drop n bs) size ∙ sym (drop-drop m 4 bs) ∙ ap (drop m) d
    ∙ rest_is x.value f.padding rest m refl f.most f.whole in
    (item_is x (item_at bs).kind (item_at bs).value (sym k) (sym v), sym r)

pub length_at-is : (bs : List ℕ) → from_le_bytes w16 (take 2 bs) ≡ length_at bs
length_at-is [] = refl
length_at-is (a ∷ []) = refl
length_at-is (a ∷ b ∷ bs) = refl

-- where one stands in front there is no fault
pub Front-sound : (bs : List ℕ) (x : Item) (rest : List ℕ) (e : DecodeError) → Front bs x rest → Fault bs e → ⊥
Front-sound bs x rest (AttributeTooShort got) f bad = absurd (omega (arith, ap length f.is, bad.1))
Front-sound bs x rest (AttributeLength l left) f bad =
    let n : length_at bs ≡ 4 + length x.value = ap length_at f.is ∙ two_bytes (4 + length x.value) (omega (arith, f.small.value)) in
    let le : 4 + length x.value ≤ length bs = omega (arith, ap length f.is, length-append (x.value ++ f.padding) rest, length-append x.value f.padding) in
    let is : l ≡ length_at bs = bad.2 ∙ length_at-is bs in
    elim bad.3 [ inl low ↦ absurd (omega arith) | inr high ↦ absurd (omega arith) ]
Front-sound bs x rest other f bad = bad

pub Front-shrinks : (bs : List ℕ) (x : Item) (rest : List ℕ) → Front bs x rest → length rest + 4 ≤ length bs
Front-shrinks bs x rest f = omega (arith, ap length f.is, length-append (x.value ++ f.padding) rest)

pub Front-same : (bs : List ℕ) (x y : Item) (r s : List ℕ) → Front bs x r → Front bs y s → (x ≡ y) × (r ≡ s)
Front-same bs x y r s f g = let a = Front-is bs x r f in let b = Front-is bs y s g in (a.0 ∙ sym b.0, a.1 ∙ sym b.1)

pub Passes-more : (xs : List Item) (x : Item) (bs r s : List ℕ) → Passes bs xs r → Front r x s → Passes bs (xs ++ x ∷ []) s
Passes-more [] x bs r s p f = (s, subst (λ (b : List ℕ). Front b x s) (sym p) f, refl)
Passes-more (y ∷ ys) x bs r s (m, g, p) f = (m, g, Passes-more ys x m r s p f)

-- bytes are cut in one way
pub Cut-same : (xs ys : List Item) (bs : List ℕ) → Cut bs xs → Cut bs ys → xs ≡ ys
Cut-same [] [] bs p q = refl
Cut-same [] (y ∷ ys) bs p (r, f, q) = absurd (omega (arith, ap length p, Front-shrinks bs y r f))
Cut-same (x ∷ xs) [] bs (r, f, p) q = absurd (omega (arith, ap length q, Front-shrinks bs x r f))
Cut-same (x ∷ xs) (y ∷ ys) bs (r, f, p) (s, g, q) =
    let e = Front-same bs x y r s f g in
    let t : xs ≡ ys = Cut-same xs ys r p (subst (λ (b : List ℕ). Cut b ys) (sym e.1) q) in
    ap (λ (z : Item). z ∷ xs) e.0 ∙ ap (λ (zs : List Item). y ∷ zs) t

-- a text takes its header and its value at least
pub Front-takes : (bs : List ℕ) (x : Item) (rest : List ℕ) → Front bs x rest → 4 + length x.value + length rest ≤ length bs
Front-takes bs x rest f = omega (arith, ap length f.is, length-append (x.value ++ f.padding) rest, length-append x.value f.padding)

-- bytes that are cut don't stop
pub Cut-stops : (xs ys : List Item) (bs r : List ℕ) (e : DecodeError) → Cut bs xs → Passes bs ys r → 0 < length r → Fault r e → ⊥
Cut-stops [] [] bs r e p q more bad = omega (arith, ap length p, ap length q)
Cut-stops [] (y ∷ ys) bs r e p (m, f, q) more bad = absurd (omega (arith, ap length p, Front-shrinks bs y m f))
Cut-stops (x ∷ xs) [] bs r e (m, f, p) q more bad = Front-sound r x m e (subst (λ (b : List ℕ). Front b x m) q f) bad
Cut-stops (x ∷ xs) (y ∷ ys) bs r e (m, f, p) (n, g, q) more bad =
    let same = Front-same bs x y m n f g in
    Cut-stops xs ys m r e p (subst (λ (b : List ℕ). Passes b ys r) (sym same.1) q) more bad

-- in no bytes none stands
pub no_front : {A : Type 0} (bytes rest : List ℕ) (x : Item) → bytes ≡ [] → Front bytes x rest → A
no_front bytes rest x is f = absurd (omega (arith, ap length is, Front-shrinks bytes x rest f))
