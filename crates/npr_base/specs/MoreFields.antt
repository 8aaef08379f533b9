-- Fields of structures besides those of every crate.
--     signed_one, signed_two, signed_four, signed_eight    signed numbers, the lowest byte first
--     bytes_field      so many bytes, as they stand
--     behind           a field in front of a byte that is not looked at
use Rattle.std.specs.Prelude.{ℤ, FitsSigned}
use Rattle.std.specs.Int.{Width, w8, w16, w32, w64, cast_signed, cast_unsigned}
use Rattle.std.proofs.Common.{◌≡◌, ℕ, zero, suc, ◌+◌, List, [], ◌∷◌, ◌++◌, length, get_or, refl, ap, subst, ◌∙◌, arith, length-append, to_z-of_z}
use Rattle.std.proofs.Math.Facts.{Fits-lt-pow, Fits-bits, sfits_to_z}
use Rattle.std.proofs.lemmas.List.{append-nil, get_or-append-add}
use mir.ValLaws.{of_z_fits}
use Rattle.npr_base.specs.Fields.{Field, one_byte, le_two, le_four, le_eight, first-back}
use Rattle.npr_base.specs.Framing.{IsBytes}

-- the signed number of a number that stands there
abbrev pub signed_field : (w : Width) (F : Field ℕ) → ((z : ℤ) → FitsSigned w z → F.Holds (cast_unsigned w z))
    → ((n : ℕ) → F.Holds n → FitsSigned w (cast_signed w n)) → Field ℤ
signed_field w F fits signs = record {
  width = F.width;
  at = λ bytes i. cast_signed w (F.at bytes i);
  encode = λ z. F.encode (cast_unsigned w z);
  Holds = FitsSigned w;
  length-encode = λ z. F.length-encode (cast_unsigned w z);
  at-encode = λ front more z h. ap (cast_signed w) (F.at-encode front more (cast_unsigned w z) (fits z h)) ∙ to_z-of_z h;
  Holds-at = λ bytes i is. signs (F.at bytes i) (F.Holds-at bytes i is);
}

abbrev pub signed_one : Field ℤ
signed_one = signed_field w8 one_byte (λ z h. Fits-lt-pow (of_z_fits w8 z h)) (λ n h. sfits_to_z {w = w8} (Fits-bits {w = w8} 8 tt h))

abbrev pub signed_two : Field ℤ
signed_two = signed_field w16 le_two (λ z h. Fits-lt-pow (of_z_fits w16 z h)) (λ n h. sfits_to_z {w = w16} (Fits-bits {w = w16} 16 tt h))

abbrev pub signed_four : Field ℤ
signed_four = signed_field w32 le_four (λ z h. Fits-lt-pow (of_z_fits w32 z h)) (λ n h. sfits_to_z {w = w32} (Fits-bits {w = w32} 32 tt h))

abbrev pub signed_eight : Field ℤ
signed_eight = signed_field w64 le_eight (λ z h. Fits-lt-pow (of_z_fits w64 z h)) (λ n h. sfits_to_z {w = w64} (Fits-bits {w = w64} 64 tt h))

-- so many from a place on
abbrev pub bytes_at : ℕ → List ℕ → ℕ → List ℕ
bytes_at zero b i = []
bytes_at (suc n) b i = get_or b i 0 ∷ bytes_at n b (i + 1)

pub bytes-long : (n : ℕ) (b : List ℕ) (i : ℕ) → length (bytes_at n b i) ≡ n
bytes-long zero b i = refl
bytes-long (suc n) b i = ap suc (bytes-long n b (i + 1))

pub bytes-behind : (n : ℕ) (front rest : List ℕ) (i j : ℕ) → j ≡ length front + i → bytes_at n (front ++ rest) j ≡ bytes_at n rest i
bytes-behind zero front rest i j is = refl
bytes-behind (suc n) front rest i j is =
    let first : get_or (front ++ rest) j 0 ≡ get_or rest i 0 = ap (λ (k : ℕ). get_or (front ++ rest) k 0) is ∙ get_or-append-add front rest i 0 in
    let more = bytes-behind n front rest (i + 1) (j + 1) (omega (arith, is)) in
    λ k. first k ∷ more k

-- they are those in front
pub bytes-same : (x more : List ℕ) → bytes_at (length x) (x ++ more) 0 ≡ x
bytes-same [] more = refl
bytes-same (a ∷ x) more = ap (λ (l : List ℕ). a ∷ l) (bytes-behind (length x) (a ∷ []) (x ++ more) 0 1 refl ∙ bytes-same x more)

pub bytes-front : (n : ℕ) (x more : List ℕ) → length x ≡ n → bytes_at n (x ++ more) 0 ≡ x
bytes-front n x more is = subst (λ (k : ℕ). bytes_at k (x ++ more) 0 ≡ x) is (bytes-same x more)

-- each is a byte
pub bytes-bytes : (n : ℕ) (b : List ℕ) (i : ℕ) → IsBytes b → IsBytes (bytes_at n b i)
bytes-bytes zero b i is j = omega arith
bytes-bytes (suc n) b i is zero = is i
bytes-bytes (suc n) b i is (suc j) = bytes-bytes n b (i + 1) is j

pub bytes-own : (n : ℕ) (x : List ℕ) → length x ≡ n → bytes_at n x 0 ≡ x
bytes-own n x is = subst (λ (l : List ℕ). bytes_at n l 0 ≡ x) (append-nil x) (bytes-front n x [] is)

abbrev pub bytes_field : ℕ → Field (List ℕ)
bytes_field n = record {
  width = n;
  at = bytes_at n;
  encode = λ x. bytes_at n x 0;
  Holds = λ x. (length x ≡ n) × IsBytes x;
  length-encode = λ x. bytes-long n x 0;
  at-encode = λ front more x h.
      bytes-behind n front (bytes_at n x 0 ++ more) 0 (length front) (omega arith)
      ∙ bytes-front n (bytes_at n x 0) more (bytes-long n x 0) ∙ bytes-own n x h.0;
  Holds-at = λ bytes i is. (bytes-long n bytes i, bytes-bytes n bytes i is);
}

infixl 5 ◌behind◌
abbrev pub ◌behind◌ : {A : Type 0} → Field A → Field (Unit {0}) → Field A
F behind P = record {
  width = F.width + P.width;
  at = F.at;
  encode = λ x. F.encode x ++ P.encode tt;
  Holds = F.Holds;
  length-encode = λ x. length-append (F.encode x) (P.encode tt) ∙ (λ i. F.length-encode x i + P.length-encode tt i);
  at-encode = λ front more x h. first-back F P front more x tt h;
  Holds-at = F.Holds-at;
}
