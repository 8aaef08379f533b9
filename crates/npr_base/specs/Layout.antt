-- Values of a fixed length.
use Rattle.std.specs.Prelude.{◌≡◌, ℕ, ◌+◌, ◌^◌, ◌<◌, Bool, true, false, nat_lt, ℤ, FitsSigned, List, [], ◌∷◌, length, slice_index}
use Rattle.std.specs.Int.{Width, w16, w32, w64, to_le_bytes, from_le_bytes, to_be_bytes, from_be_bytes, cast_signed, cast_unsigned}
use Rattle.npr_base.specs.declared.ip.IpAddr.TheVariants.{V4, V6}
use Rattle.npr_base.specs.declared.attribute_set.At.{At}
use Rattle.npr_base.specs.declared.refusal.DecodeError.{DecodeError}
use Rattle.npr_base.specs.declared.value.Form.{Form}
use Rattle.npr_base.specs.declared.value.Form.TheVariants.{Byte, Boolean, Signed32, Signed64, Little16, Little32, Little64, Big16}
use Rattle.npr_base.specs.declared.value.Form.TheVariants.{Big32, Big64, Octets4, Octets16, Exactly}
use Rattle.npr_base.specs.Framing.{IsBytes}
use Rattle.npr_base.specs.Numbering.{Numbering, IsFormed, of_IsFormed}
use Rattle.npr_base.specs.lemmas.Layout.{le16-holds, le32-holds, le64-holds, be16-holds, be32-holds, be64-holds, signed32-back, signed32-holds}
use Rattle.npr_base.specs.lemmas.Layout.{signed64-back, signed64-holds}
use Rattle.npr_base.specs.Value.{Shown, is_number, is_signed, is_truth, is_address, is_structure, Shows, Misshown, Sized, Missized}
use Rattle.std.proofs.Common.{arith, refl, sym, ap, subst, ◌∙◌}
use Rattle.std.proofs.lemmas.Nat.{from_le_bytes-to_le_bytes_2, from_le_bytes-to_le_bytes_4, from_le_bytes-to_le_bytes_8}
use Rattle.std.proofs.lemmas.Nat.{from_be_bytes-to_be_bytes_2, from_be_bytes-to_be_bytes_4, from_be_bytes-to_be_bytes_8}

-- how a value is read from `size` bytes and how it is written as so many
pub record Layout (V : Type 0) : Type 1 where
  pub size : ℕ
  pub decode : List ℕ → V
  pub encode : V → List ℕ
  -- the values that it can hold
  pub Holds : V → Type 0
  -- what it can hold is written in so many bytes and read back; what a program's bytes are, it can hold
  pub length-encode : (x : V) → Holds x → length (encode x) ≡ size
  pub decode-encode : (x : V) → Holds x → decode (encode x) ≡ x
  pub Holds-decode : (bytes : List ℕ) → IsBytes bytes → length bytes ≡ size → Holds (decode bytes)
  -- how it is read without memory, and what a value is seen as that stands in bytes
  pub form : Form
  pub sees : List ℕ → V → Shown
  pub shows : (bytes : List ℕ) (s : Shown) → Shows form bytes s → Sized size (λ b. sees b (decode b)) bytes s
  pub misshown : (at : At) (bytes : List ℕ) (e : DecodeError) → Misshown form at bytes e → Missized size at bytes e

-- a number in so many bytes, of so many bits
abbrev pub number_in : (size bits : ℕ) (decode : List ℕ → ℕ) (encode : ℕ → List ℕ) (form : Form)
    → ((bytes : List ℕ) (s : Shown) → Shows form bytes s → Sized size (λ b. is_number size (decode b)) bytes s)
    → ((at : At) (bytes : List ℕ) (e : DecodeError) → Misshown form at bytes e → Missized size at bytes e)
    → ((n : ℕ) → n < 2 ^ bits → length (encode n) ≡ size) → ((n : ℕ) → n < 2 ^ bits → decode (encode n) ≡ n)
    → ((bytes : List ℕ) → IsBytes bytes → length bytes ≡ size → decode bytes < 2 ^ bits) → Layout ℕ
number_in size bits decode encode form shows misshown long back holds = record {
  size = size;
  decode = decode;
  encode = encode;
  Holds = λ n. n < 2 ^ bits;
  length-encode = long;
  decode-encode = back;
  Holds-decode = holds;
  form = form;
  sees = λ bytes n. is_number size n;
  shows = shows;
  misshown = misshown;
}

-- a number in one byte
abbrev pub byte : Layout ℕ
byte = number_in 1 8 (λ bytes. slice_index bytes 0) (λ n. n ∷ []) Byte (λ bytes s p. p) (λ at bytes e p. p) (λ n h. refl) (λ n h. refl) (λ bytes is e. is 0)

-- numbers in two, four and eight bytes, the lowest first
abbrev pub le16 : Layout ℕ
le16 = number_in 2 16 (from_le_bytes w16) (to_le_bytes w16) Little16 (λ bytes s p. p) (λ at bytes e p. p) (λ n h. refl) from_le_bytes-to_le_bytes_2 le16-holds

abbrev pub le32 : Layout ℕ
le32 = number_in 4 32 (from_le_bytes w32) (to_le_bytes w32) Little32 (λ bytes s p. p) (λ at bytes e p. p) (λ n h. refl) from_le_bytes-to_le_bytes_4 le32-holds

abbrev pub le64 : Layout ℕ
le64 = number_in 8 64 (from_le_bytes w64) (to_le_bytes w64) Little64 (λ bytes s p. p) (λ at bytes e p. p) (λ n h. refl) from_le_bytes-to_le_bytes_8 le64-holds

-- the same, the highest byte first
abbrev pub be16 : Layout ℕ
be16 = number_in 2 16 (from_be_bytes w16) (to_be_bytes w16) Big16 (λ bytes s p. p) (λ at bytes e p. p) (λ n h. refl) from_be_bytes-to_be_bytes_2 be16-holds

abbrev pub be32 : Layout ℕ
be32 = number_in 4 32 (from_be_bytes w32) (to_be_bytes w32) Big32 (λ bytes s p. p) (λ at bytes e p. p) (λ n h. refl) from_be_bytes-to_be_bytes_4 be32-holds

abbrev pub be64 : Layout ℕ
be64 = number_in 8 64 (from_be_bytes w64) (to_be_bytes w64) Big64 (λ bytes s p. p) (λ at bytes e p. p) (λ n h. refl) from_be_bytes-to_be_bytes_8 be64-holds

-- true for a byte above 0, written as 1 or 0
abbrev pub truth_byte : Bool → ℕ
truth_byte true = 1
truth_byte false = 0

pub boolean-back : (b : Bool) → Unit {0} → nat_lt 0 (truth_byte b) ≡ b
boolean-back true h = refl
boolean-back false h = refl

abbrev pub boolean : Layout Bool
boolean = record {
  size = 1;
  decode = λ bytes. nat_lt 0 (slice_index bytes 0);
  encode = λ b. truth_byte b ∷ [];
  Holds = λ b. Unit {0};
  length-encode = λ b h. refl;
  decode-encode = boolean-back;
  Holds-decode = λ bytes is e. tt;
  form = Boolean;
  sees = λ bytes b. is_truth b;
  shows = λ bytes s p. p;
  misshown = λ at bytes e p. p;
}

-- a signed number in so many bytes, the lowest first
abbrev pub signed_in : (size : ℕ) (w : Width) (form : Form)
    → ((bytes : List ℕ) (s : Shown) → Shows form bytes s → Sized size (λ b. is_signed size (cast_signed w (from_le_bytes w b))) bytes s)
    → ((at : At) (bytes : List ℕ) (e : DecodeError) → Misshown form at bytes e → Missized size at bytes e)
    → ((z : ℤ) → FitsSigned w z → length (to_le_bytes w (cast_unsigned w z)) ≡ size)
    → ((z : ℤ) → FitsSigned w z → cast_signed w (from_le_bytes w (to_le_bytes w (cast_unsigned w z))) ≡ z)
    → ((bytes : List ℕ) → IsBytes bytes → length bytes ≡ size → FitsSigned w (cast_signed w (from_le_bytes w bytes))) → Layout ℤ
signed_in size w form shows misshown long back holds = record {
  size = size;
  decode = λ bytes. cast_signed w (from_le_bytes w bytes);
  encode = λ z. to_le_bytes w (cast_unsigned w z);
  Holds = FitsSigned w;
  length-encode = long;
  decode-encode = back;
  Holds-decode = holds;
  form = form;
  sees = λ bytes z. is_signed size z;
  shows = shows;
  misshown = misshown;
}

-- in four and eight
abbrev pub signed32 : Layout ℤ
signed32 = signed_in 4 w32 Signed32 (λ bytes s p. p) (λ at bytes e p. p) (λ z h. refl) signed32-back signed32-holds

abbrev pub signed64 : Layout ℤ
signed64 = signed_in 8 w64 Signed64 (λ bytes s p. p) (λ at bytes e p. p) (λ z h. refl) signed64-back signed64-holds

-- so many bytes, as they stand
abbrev pub octets : ℕ → Layout (List ℕ)
octets n = record {
  size = n;
  decode = λ bytes. bytes;
  encode = λ bytes. bytes;
  Holds = λ bytes. (length bytes ≡ n) × IsBytes bytes;
  length-encode = λ bytes h. h.0;
  decode-encode = λ bytes h. refl;
  Holds-decode = λ bytes is e. (e, is);
  form = Exactly n;
  sees = λ bytes x. is_structure x;
  shows = λ bytes s p. p;
  misshown = λ at bytes e p. p;
}

-- an address of version 4, and one of version 6
abbrev pub octets4 : Layout (List ℕ)
octets4 = record (octets 4) {
  form = Octets4;
  sees = λ bytes x. is_address (V4 x);
  shows = λ bytes s p. p;
  misshown = λ at bytes e p. p;
}

abbrev pub octets16 : Layout (List ℕ)
octets16 = record (octets 16) {
  form = Octets16;
  sees = λ bytes x. is_address (V6 x);
  shows = λ bytes s p. p;
  misshown = λ at bytes e p. p;
}

-- values with numbers: the number is written, and a value can be held if it is what its number reads as; likewise a struct of
-- such fields over one of their numbers
module _ {N V : Type 0} (L : Layout N) (n : Numbering N V) where
  pub formed-back : (x : V) → L.Holds (n.number x) × IsFormed n x → n.of (L.decode (L.encode (n.number x))) ≡ x
  formed-back x h = ap n.of (L.decode-encode (n.number x) h.0) ∙ sym h.1

  pub formed-holds : (bytes : List ℕ) → IsBytes bytes → length bytes ≡ L.size → L.Holds (n.number (n.of (L.decode bytes))) × IsFormed n (n.of (L.decode bytes))
  formed-holds bytes is e = (subst L.Holds (sym (n.back (L.decode bytes))) (L.Holds-decode bytes is e), of_IsFormed n (L.decode bytes))

  pub formed-shows : (bytes : List ℕ) (s : Shown) → Shows L.form bytes s → Sized L.size (λ b. L.sees b (n.number (n.of (L.decode b)))) bytes s
  formed-shows bytes s p = let q = L.shows bytes s p in (q.0, q.1 ∙ ap (L.sees bytes) (sym (n.back (L.decode bytes))))

  abbrev pub formed : Layout V
  formed = record {
    size = L.size;
    decode = λ bytes. n.of (L.decode bytes);
    encode = λ x. L.encode (n.number x);
    Holds = λ x. L.Holds (n.number x) × IsFormed n x;
    length-encode = λ x h. L.length-encode (n.number x) h.0;
    decode-encode = formed-back;
    Holds-decode = formed-holds;
    form = L.form;
    sees = λ bytes x. L.sees bytes (n.number x);
    shows = formed-shows;
    misshown = L.misshown;
  }

-- the numbers that stand at a place of a fixed layout, the lowest byte first
abbrev pub le16_at : List ℕ → ℕ → ℕ
le16_at b i = from_le_bytes w16 (slice_index b i ∷ slice_index b (i + 1) ∷ [])

abbrev pub le32_at : List ℕ → ℕ → ℕ
le32_at b i = from_le_bytes w32 (slice_index b i ∷ slice_index b (i + 1) ∷ slice_index b (i + 2) ∷ slice_index b (i + 3) ∷ [])

abbrev pub le64_at : List ℕ → ℕ → ℕ
le64_at b i =
    from_le_bytes w64 (slice_index b i ∷ slice_index b (i + 1) ∷ slice_index b (i + 2) ∷ slice_index b (i + 3)
    ∷ slice_index b (i + 4) ∷ slice_index b (i + 5) ∷ slice_index b (i + 6) ∷ slice_index b (i + 7) ∷ [])

-- the same, the highest byte first
abbrev pub be16_at : List ℕ → ℕ → ℕ
be16_at b i = from_be_bytes w16 (slice_index b i ∷ slice_index b (i + 1) ∷ [])

abbrev pub be32_at : List ℕ → ℕ → ℕ
be32_at b i = from_be_bytes w32 (slice_index b i ∷ slice_index b (i + 1) ∷ slice_index b (i + 2) ∷ slice_index b (i + 3) ∷ [])

pub le16_at-holds : (b : List ℕ) (i : ℕ) → IsBytes b → le16_at b i < 2 ^ 16
le16_at-holds b i is = omega (arith, is i, is (i + 1))

pub le32_at-holds : (b : List ℕ) (i : ℕ) → IsBytes b → le32_at b i < 2 ^ 32
le32_at-holds b i is = omega (arith, is i, is (i + 1), is (i + 2), is (i + 3))

pub le64_at-holds : (b : List ℕ) (i : ℕ) → IsBytes b → le64_at b i < 2 ^ 64
le64_at-holds b i is = omega (arith, is i, is (i + 1), is (i + 2), is (i + 3), is (i + 4), is (i + 5), is (i + 6), is (i + 7))

pub be16_at-holds : (b : List ℕ) (i : ℕ) → IsBytes b → be16_at b i < 2 ^ 16
be16_at-holds b i is = omega (arith, is i, is (i + 1))

pub be32_at-holds : (b : List ℕ) (i : ℕ) → IsBytes b → be32_at b i < 2 ^ 32
be32_at-holds b i is = omega (arith, is i, is (i + 1), is (i + 2), is (i + 3))
