-- A name without one final zero, computed; and attributes that tell what governs by a name that they hold.
--     unterminated         the name
--     named_in             what a table has for a name
--     told_by              what an attribute of a number tells by it
use Rattle.std.specs.Prelude.{ℕ, Bool, true, false, List, [], ◌∷◌, ◌++◌, ◌==◌, Option, Some, None, if◌then◌else◌}
use Rattle.std.specs.Str.{bytes_eq}
use Rattle.std.proofs.Common.{◌≡◌, refl, ap, ◌∙◌, inl, inr, length, drop, get_or, arith, length-append}
use Rattle.std.proofs.lemmas.Bool.{eqb-true, eqb-false}
use Rattle.npr_base.specs.Framing.{Item, number_of}
use Rattle.npr_base.specs.NameText.{IsUnterminated}
use Rattle.npr_base.specs.lemmas.Name.{name-one}

-- a name without one final zero, computed
abbrev pub unterminated : List ℕ → List ℕ
unterminated [] = []
unterminated (b ∷ []) = if b == 0 then [] else b ∷ []
unterminated (b ∷ c ∷ bytes) = b ∷ unterminated (c ∷ bytes)

-- which it is
not_zero : (b : ℕ) (front : List ℕ) → (b ≡ 0 → ⊥) → b ∷ [] ≡ front ++ 0 ∷ [] → ⊥
not_zero b [] h is = h (ap (λ (w : List ℕ). get_or w 0 0) is)
not_zero b (f ∷ []) h is = absurd (omega (arith, ap length is))
not_zero b (f ∷ g ∷ front) h is = absurd (omega (arith, ap length is))

last_zero : (b : ℕ) (e : Bool) → (b == 0) ≡ e → IsUnterminated (b ∷ []) (if e then [] else b ∷ [])
last_zero b true e = inl (ap (λ (n : ℕ). n ∷ []) (eqb-true b 0 e))
last_zero b false e = inr (refl, λ front is. not_zero b front (eqb-false b 0 e) is)

longer : (b c : ℕ) (bytes front : List ℕ) → ((f : List ℕ) → c ∷ bytes ≡ f ++ 0 ∷ [] → ⊥) → b ∷ c ∷ bytes ≡ front ++ 0 ∷ [] → ⊥
longer b c bytes [] none is = absurd (omega (arith, ap length is))
longer b c bytes (f ∷ front) none is = none front (ap (drop 1) is)

one_more : (b c : ℕ) (bytes text : List ℕ) → IsUnterminated (c ∷ bytes) text → IsUnterminated (b ∷ c ∷ bytes) (b ∷ text)
one_more b c bytes text (inl is) = inl (ap (λ (w : List ℕ). b ∷ w) is)
one_more b c bytes text (inr (is, none)) = inr (ap (λ (w : List ℕ). b ∷ w) is, λ front js. longer b c bytes front none js)

pub is-unterminated : (bytes : List ℕ) → IsUnterminated bytes (unterminated bytes)
is-unterminated [] = inr (refl, λ front is. absurd (omega (arith, ap length is, length-append front (0 ∷ []))))
is-unterminated (b ∷ []) = last_zero b (b == 0) refl
is-unterminated (b ∷ c ∷ bytes) = one_more b c bytes (unterminated (c ∷ bytes)) (is-unterminated (c ∷ bytes))

pub name_is : (value text : List ℕ) → IsUnterminated value text → unterminated value ≡ text
name_is value text is = name-one value (unterminated value) text (is-unterminated value) is

-- what stands in a table beside a name, or else `other`
abbrev pub named_in : {F : Type 0} → F → List (List ℕ × F) → List ℕ → F
named_in other [] text = other
named_in other (row ∷ rows) text = if bytes_eq text row.0 then row.1 else named_in other rows text

-- an attribute of this number tells the form of the name that it holds
abbrev pub told_by : {F : Type 0} → ℕ → (List ℕ → F) → Item → Option F
told_by number form_named x = if number_of x.kind == number then Some (form_named (unterminated x.value)) else None

pub name_told : {F : Type 0} (number : ℕ) (form_named : List ℕ → F) (x : Item) (value name : List ℕ) (form : F) → value ≡ x.value
    → IsUnterminated value name → (number_of x.kind == number) ≡ true → form ≡ form_named name → Some form ≡ told_by number form_named x
name_told number form_named x value name form same is here named =
    let found : name ≡ unterminated x.value = name-one value name (unterminated value) is (is-unterminated value) ∙ ap unterminated same in
    rw here (ap Some (named ∙ ap form_named found))
