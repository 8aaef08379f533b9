-- Structs of numbers, one behind the other: a field is read at its place, and fields are joined to a layout.
--     Field            a value at a place of a fixed layout
--     one_byte, le_two, le_four, le_eight      numbers, the lowest byte first
--     be_two, be_four  numbers, the highest byte first
--     standing         a byte that nothing is read from, and that is written as this number
--     unused           one that is written 0
--     holding          a value in the place of its number
--     family_byte      the family of an address, in a byte
--     and              a field behind another
--     before           a field behind a byte that is not looked at
--     fields           a field as a layout
--     fills            a field of a struct, by its name, and how it stands in the bytes
--     then, last       a named field behind another, and the last of a struct
--     spread           two values that stand in one place, and what stands behind it
--     structure        a struct of named fields
use Rattle.std.specs.Prelude.{◌≡◌, ℕ, ◌+◌, ◌^◌, ◌<◌, List, [], ◌∷◌, ◌++◌, length, slice_index}
use Rattle.std.specs.Int.{w16, w32, w64, to_le_bytes, from_le_bytes, to_be_bytes, from_be_bytes}
use Rattle.std.proofs.Common.{refl, sym, ap, subst, ◌∙◌, append_assoc, length-append}
use Rattle.std.proofs.lemmas.List.{append-nil, get_or-append-add}
use Rattle.std.proofs.lemmas.Nat.{from_le_bytes-to_le_bytes_2, from_le_bytes-to_le_bytes_4, from_le_bytes-to_le_bytes_8}
use Rattle.std.proofs.lemmas.Nat.{from_be_bytes-to_be_bytes_2, from_be_bytes-to_be_bytes_4}
use Rattle.npr_base.specs.AddressFamily.{families}
use Rattle.npr_base.specs.declared.address_family.AddressFamily.{AddressFamily}
use Rattle.npr_base.specs.declared.value.Form.TheVariants.{Exactly}
use Rattle.npr_base.specs.Framing.{IsBytes}
use Rattle.npr_base.specs.Numbering.{Numbering, IsFormed, of_IsFormed}
use Rattle.npr_base.specs.Layout.{Layout, formed, le16_at, le32_at, le64_at, le16_at-holds, le32_at-holds, le64_at-holds}
use Rattle.npr_base.specs.Value.{is_structure}
use Rattle.npr_base.specs.Layout.{be16_at, be32_at, be16_at-holds, be32_at-holds}
use denote.Struct.Record.{Record}
use denote.Struct.Values.{Values}

pub record Field (V : Type 0) : Type 1 where
  pub width : ℕ
  pub at : List ℕ → ℕ → V
  pub encode : V → List ℕ
  -- the values that it can hold
  pub Holds : V → Type 0
  -- what it can hold is written in so many bytes, and read back wherever they stand
  pub length-encode : (x : V) → length (encode x) ≡ width
  pub at-encode : (front more : List ℕ) (x : V) → Holds x → at (front ++ (encode x ++ more)) (length front) ≡ x
  pub Holds-at : (bytes : List ℕ) (i : ℕ) → IsBytes bytes → Holds (at bytes i)

-- what stands behind other bytes
pub byte-behind : (front rest : List ℕ) → slice_index (front ++ rest) (length front) ≡ slice_index rest 0
byte-behind [] rest = refl
byte-behind (x ∷ front) rest = byte-behind front rest

pub le16-behind : (front rest : List ℕ) → le16_at (front ++ rest) (length front) ≡ le16_at rest 0
le16-behind front rest = let f = λ (k : ℕ). get_or-append-add front rest k 0 in λ i. from_le_bytes w16 (byte-behind front rest i ∷ f 1 i ∷ [])

pub le32-behind : (front rest : List ℕ) → le32_at (front ++ rest) (length front) ≡ le32_at rest 0
le32-behind front rest = let f = λ (k : ℕ). get_or-append-add front rest k 0 in λ i. from_le_bytes w32 (byte-behind front rest i ∷ f 1 i ∷ f 2 i ∷ f 3 i ∷ [])

pub le64-behind : (front rest : List ℕ) → le64_at (front ++ rest) (length front) ≡ le64_at rest 0
le64-behind front rest =
    let f = λ (k : ℕ). get_or-append-add front rest k 0 in
    λ i. from_le_bytes w64 (byte-behind front rest i ∷ f 1 i ∷ f 2 i ∷ f 3 i ∷ f 4 i ∷ f 5 i ∷ f 6 i ∷ f 7 i ∷ [])

pub be16-behind : (front rest : List ℕ) → be16_at (front ++ rest) (length front) ≡ be16_at rest 0
be16-behind front rest = let f = λ (k : ℕ). get_or-append-add front rest k 0 in λ i. from_be_bytes w16 (byte-behind front rest i ∷ f 1 i ∷ [])

pub be32-behind : (front rest : List ℕ) → be32_at (front ++ rest) (length front) ≡ be32_at rest 0
be32-behind front rest = let f = λ (k : ℕ). get_or-append-add front rest k 0 in λ i. from_be_bytes w32 (byte-behind front rest i ∷ f 1 i ∷ f 2 i ∷ f 3 i ∷ [])

-- a number in so many bytes, of so many bits
abbrev pub number_at : (width bits : ℕ) (at : List ℕ → ℕ → ℕ) (encode : ℕ → List ℕ) → ((n : ℕ) → length (encode n) ≡ width)
    → ((front rest : List ℕ) → at (front ++ rest) (length front) ≡ at rest 0)
    → ((n : ℕ) (more : List ℕ) → n < 2 ^ bits → at (encode n ++ more) 0 ≡ n)
    → ((bytes : List ℕ) (i : ℕ) → IsBytes bytes → at bytes i < 2 ^ bits) → Field ℕ
number_at width bits at encode long behind back holds = record {
  width = width;
  at = at;
  encode = encode;
  Holds = λ n. n < 2 ^ bits;
  length-encode = long;
  at-encode = λ front more n h. behind front (encode n ++ more) ∙ back n more h;
  Holds-at = holds;
}

abbrev pub one_byte : Field ℕ
one_byte = number_at 1 8 slice_index (λ n. n ∷ []) (λ n. refl) byte-behind (λ n more h. refl) (λ bytes i is. is i)

-- the lowest byte first
abbrev pub le_two : Field ℕ
le_two = number_at 2 16 le16_at (to_le_bytes w16) (λ n. refl) le16-behind (λ n more h. from_le_bytes-to_le_bytes_2 n h) le16_at-holds

abbrev pub le_four : Field ℕ
le_four = number_at 4 32 le32_at (to_le_bytes w32) (λ n. refl) le32-behind (λ n more h. from_le_bytes-to_le_bytes_4 n h) le32_at-holds

abbrev pub le_eight : Field ℕ
le_eight = number_at 8 64 le64_at (to_le_bytes w64) (λ n. refl) le64-behind (λ n more h. from_le_bytes-to_le_bytes_8 n h) le64_at-holds

-- the highest byte first
abbrev pub be_two : Field ℕ
be_two = number_at 2 16 be16_at (to_be_bytes w16) (λ n. refl) be16-behind (λ n more h. from_be_bytes-to_be_bytes_2 n h) be16_at-holds

abbrev pub be_four : Field ℕ
be_four = number_at 4 32 be32_at (to_be_bytes w32) (λ n. refl) be32-behind (λ n more h. from_be_bytes-to_be_bytes_4 n h) be32_at-holds

-- a byte that is not looked at, and written as this
abbrev pub standing : ℕ → Field (Unit {0})
standing n = record {
  width = 1;
  at = λ bytes i. tt;
  encode = λ x. n ∷ [];
  Holds = λ x. Unit {0};
  length-encode = λ x. refl;
  at-encode = λ front more x h. refl;
  Holds-at = λ bytes i is. tt;
}

abbrev pub unused : Field (Unit {0})
unused = standing 0

-- values with numbers: the number stands there
infixl 6 ◌holding◌
module _ {N V : Type 0} (F : Field N) (n : Numbering N V) where
  pub holding-back : (front more : List ℕ) (x : V) → F.Holds (n.number x) × IsFormed n x
      → n.of (F.at (front ++ (F.encode (n.number x) ++ more)) (length front)) ≡ x
  holding-back front more x h = ap n.of (F.at-encode front more (n.number x) h.0) ∙ sym h.1

  pub holding-holds : (bytes : List ℕ) (i : ℕ) → IsBytes bytes → F.Holds (n.number (n.of (F.at bytes i))) × IsFormed n (n.of (F.at bytes i))
  holding-holds bytes i is = (subst F.Holds (sym (n.back (F.at bytes i))) (F.Holds-at bytes i is), of_IsFormed n (F.at bytes i))

  abbrev pub ◌holding◌ : Field V
  ◌holding◌ = record {
    width = F.width;
    at = λ bytes i. n.of (F.at bytes i);
    encode = λ x. F.encode (n.number x);
    Holds = λ x. F.Holds (n.number x) × IsFormed n x;
    length-encode = λ x. F.length-encode (n.number x);
    at-encode = holding-back;
    Holds-at = holding-holds;
  }

abbrev pub family_byte : Field AddressFamily
family_byte = one_byte holding families

infixr 4 ◌and◌
module _ {A B : Type 0} (F : Field A) (G : Field B) where
  pub second-back : (front more : List ℕ) (x : A) (y : B) → G.Holds y → G.at (front ++ ((F.encode x ++ G.encode y) ++ more)) (length front + F.width) ≡ y
  second-back front more x y h =
      let place : length (front ++ F.encode x) ≡ length front + F.width = length-append front (F.encode x) ∙ ap (λ n. length front + n) (F.length-encode x) in
      let inner = ap (λ (w : List ℕ). front ++ w) (append_assoc (F.encode x) (G.encode y) more) in
      let bytes = inner ∙ sym (append_assoc front (F.encode x) (G.encode y ++ more)) in
      ap (λ (w : List ℕ). G.at w (length front + F.width)) bytes
      ∙ ap (G.at ((front ++ F.encode x) ++ (G.encode y ++ more))) (sym place) ∙ G.at-encode (front ++ F.encode x) more y h

  pub first-back : (front more : List ℕ) (x : A) (y : B) → F.Holds x → F.at (front ++ ((F.encode x ++ G.encode y) ++ more)) (length front) ≡ x
  first-back front more x y h =
      let inner = ap (λ (w : List ℕ). front ++ w) (append_assoc (F.encode x) (G.encode y) more) in
      ap (λ (w : List ℕ). F.at w (length front)) inner ∙ F.at-encode front (G.encode y ++ more) x h

  abbrev pub ◌and◌ : Field (A × B)
  ◌and◌ = record {
    width = F.width + G.width;
    at = λ bytes i. (F.at bytes i, G.at bytes (i + F.width));
    encode = λ p. F.encode p.0 ++ G.encode p.1;
    Holds = λ p. F.Holds p.0 × G.Holds p.1;
    length-encode = λ p. length-append (F.encode p.0) (G.encode p.1) ∙ (λ i. F.length-encode p.0 i + G.length-encode p.1 i);
    at-encode = λ front more p h. λ j. (first-back front more p.0 p.1 h.0 j, second-back front more p.0 p.1 h.1 j);
    Holds-at = λ bytes i is. (F.Holds-at bytes i is, G.Holds-at bytes (i + F.width) is);
  }

-- a field behind a byte that is not looked at
infixr 5 ◌before◌
abbrev pub ◌before◌ : {A : Type 0} → Field (Unit {0}) → Field A → Field A
P before F = record {
  width = P.width + F.width;
  at = λ bytes i. F.at bytes (i + P.width);
  encode = λ x. P.encode tt ++ F.encode x;
  Holds = F.Holds;
  length-encode = λ x. length-append (P.encode tt) (F.encode x) ∙ (λ i. P.length-encode tt i + F.length-encode x i);
  at-encode = λ front more x h. second-back P F front more tt x h;
  Holds-at = λ bytes i is. F.Holds-at bytes (i + P.width) is;
}

module _ {V : Type 0} (F : Field V) where
  pub fields-back : (x : V) → F.Holds x → F.at (F.encode x) 0 ≡ x
  fields-back x h = ap (λ (w : List ℕ). F.at w 0) (sym (append-nil (F.encode x))) ∙ F.at-encode [] [] x h

  abbrev pub fields : Layout V
  fields = record {
    size = F.width;
    decode = λ bytes. F.at bytes 0;
    encode = F.encode;
    Holds = F.Holds;
    length-encode = λ x h. F.length-encode x;
    decode-encode = fields-back;
    Holds-decode = λ bytes is e. F.Holds-at bytes 0 is;
    form = Exactly F.width;
    sees = λ bytes x. is_structure bytes;
    shows = λ bytes s p. p;
    misshown = λ at bytes e p. p;
  }

-- fields of a struct D: which they are, and how they stand in the bytes
pub record Part (D A : Type 0) : Type 1 where
  pub of : D → A
  pub field : Field A

infix 3 ◌fills◌
abbrev pub ◌fills◌ : {D A : Type 0} → (D → A) → Field A → Part D A
of fills F = record { of = of; field = F }

infixr 2 ◌then◌
abbrev pub ◌then◌ : {D A B : Type 0} → Part D A → Part D B → Part D (A × B)
p then q = record { of = λ d. (p.of d, q.of d); field = p.field and q.field }

abbrev last_field : {A : Type 0} → Field A → Field (A × Unit {0})
last_field F = record {
  width = F.width;
  at = λ bytes i. (F.at bytes i, tt);
  encode = λ p. F.encode p.0;
  Holds = λ p. F.Holds p.0;
  length-encode = λ p. F.length-encode p.0;
  at-encode = λ front more p h. ap (λ x. (x, tt)) (F.at-encode front more p.0 h);
  Holds-at = λ bytes i is. F.Holds-at bytes i is;
}

-- the last field of a struct
abbrev pub last : {D A : Type 0} → Part D A → Part D (A × Unit {0})
last p = record { of = λ d. (p.of d, tt); field = last_field p.field }

module _ {A B C : Type 0} (F : Field ((A × B) × C)) where
  pub spread-back : (front more : List ℕ) (p : A × (B × C)) → F.Holds ((p.0, p.1.0), p.1.1)
      → (let q = F.at (front ++ (F.encode ((p.0, p.1.0), p.1.1) ++ more)) (length front) in (q.0.0, (q.0.1, q.1))) ≡ p
  spread-back front more p h = ap (λ q. (q.0.0, (q.0.1, q.1))) (F.at-encode front more ((p.0, p.1.0), p.1.1) h)

  abbrev spread_field : Field (A × (B × C))
  spread_field = record {
    width = F.width;
    at = λ bytes i. let q = F.at bytes i in (q.0.0, (q.0.1, q.1));
    encode = λ p. F.encode ((p.0, p.1.0), p.1.1);
    Holds = λ p. F.Holds ((p.0, p.1.0), p.1.1);
    length-encode = λ p. F.length-encode ((p.0, p.1.0), p.1.1);
    at-encode = spread-back;
    Holds-at = F.Holds-at;
  }

-- two values that stand in one place, and what stands behind it
abbrev pub spread : {D A B C : Type 0} → Part D ((A × B) × C) → Part D (A × (B × C))
spread p = record { of = λ d. ((p.of d).0.0, ((p.of d).0.1, (p.of d).1)); field = spread_field p.field }

-- a struct, whose fields stand one behind the other, each in its place; N is `struct` of the type's module in `specs.contracts`
abbrev pub structure : (N : Record) (p : Part N.D (Values N.parts)) → N.as_values ≡ p.of → ((v : Values N.parts) → N.Ghost v) → Layout N.D
structure N p named ghosts = formed (fields p.field) (record { of = λ v. N.make v (ghosts v); number = N.as_values; back = λ v. N.beta v (ghosts v) })
