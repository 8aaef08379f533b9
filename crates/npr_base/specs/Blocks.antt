-- Values in blocks, one after the other, and then fewer bytes than a block, which are dropped.
--     Width            values of a width
--     IsBlock          a value stands in front
--     AreBlocks        the bytes are blocks of these values, and what is left has no room for one more
--     block_bytes      what is written: the blocks, joined
--     blocks           how such values are read and written, with the laws of both; it refuses no bytes
use Rattle.std.specs.Prelude.{◌≡◌, ℕ, zero, suc, ◌+◌, ◌*◌, ◌<◌, ◌≤◌, List, [], ◌∷◌, ◌++◌, length, take, drop, None}
use Rattle.std.proofs.Common.{refl, sym, ap, subst, ◌∙◌, arith, length-append, length-take, length-drop}
use Rattle.std.proofs.Common.{inl, inr}
use Rattle.std.proofs.lemmas.Bool.{cases_lt}
use Rattle.std.proofs.lemmas.List.{take_at, drop_at, take-append-drop}
use Rattle.npr_base.specs.Framing.{IsBytes, framed}
use Rattle.npr_base.specs.Lists.{AllOf, joined}
use Rattle.npr_base.specs.lemmas.List.{IsBytes-take, IsBytes-right}
use Rattle.npr_base.specs.lemmas.Codec.{framed-grows}
use Rattle.npr_base.specs.Layout.{Layout}
use Rattle.npr_base.specs.Codec.{Codec, no_members}
use Rattle.npr_base.specs.declared.value.Form.TheVariants.{Raw}
use Rattle.npr_base.specs.Showing.{Showing}
use Rattle.npr_base.specs.Value.{are_bytes}

-- how a value is read and written, always in so many bytes, and the one that stands for none
pub record Width (A : Type 0) : Type 1 where
  pub layout : Layout A
  pub positive : 0 < layout.size
  pub long : (x : A) → length (layout.encode x) ≡ layout.size
  pub none : A

-- a value stands in front, in as many bytes as the layout has
pub record IsBlock {V : Type 0} (L : Layout V) (bytes : List ℕ) (x : V) : Type 0 where
  pub long : L.size ≤ length bytes
  pub is : x ≡ L.decode (take L.size bytes)

-- the bytes are blocks of these values, and what is left has no room for one more
abbrev pub AreBlocks : {V : Type 0} → Layout V → List ℕ → List V → Type 0
AreBlocks L bytes [] = length bytes < L.size
AreBlocks L bytes (x ∷ xs) = IsBlock L bytes x × AreBlocks L (drop L.size bytes) xs

-- the blocks of the values, joined
abbrev pub block_bytes : {V : Type 0} → Layout V → List V → List ℕ
block_bytes L = joined L.encode

module _ {V : Type 0} (L : Layout V) where
  pub blocks-one : (bytes : List ℕ) (xs ys : List V) → AreBlocks L bytes xs → AreBlocks L bytes ys → xs ≡ ys
  blocks-one bytes [] [] p q = refl
  blocks-one bytes [] (y ∷ ys) p q = absurd (omega (arith, p, q.0.long))
  blocks-one bytes (x ∷ xs) [] p q = absurd (omega (arith, p.0.long, q))
  blocks-one bytes (x ∷ xs) (y ∷ ys) p q =
      ap (λ (z : V). z ∷ xs) (p.0.is ∙ sym q.0.is) ∙ ap (λ (zs : List V). y ∷ zs) (blocks-one (drop L.size bytes) xs ys p.1 q.1)

  IsBytes-drop : (n : ℕ) (bytes : List ℕ) → IsBytes bytes → IsBytes (drop n bytes)
  IsBytes-drop n bytes is = IsBytes-right (take n bytes) (drop n bytes) (subst IsBytes (sym (take-append-drop n bytes)) is)

  pub block-holds : (bytes : List ℕ) (x : V) → IsBytes bytes → IsBlock L bytes x → L.Holds x
  block-holds bytes x is p =
      subst L.Holds (sym p.is) (L.Holds-decode (take L.size bytes) (IsBytes-take L.size bytes is) (omega (arith, p.long, length-take L.size bytes)))

  pub blocks-hold : (bytes : List ℕ) (xs : List V) → IsBytes bytes → AreBlocks L bytes xs → AllOf L.Holds xs
  blocks-hold bytes [] is p = tt
  blocks-hold bytes (x ∷ xs) is p = (block-holds bytes x is p.0, blocks-hold (drop L.size bytes) xs (IsBytes-drop L.size bytes is) p.1)

  -- a block in front of what follows it
  block-front : (x : V) (more : List ℕ) → L.Holds x → IsBlock L (L.encode x ++ more) x
  block-front x more h =
      let len = L.length-encode x h in
      record {
        long = omega (arith, len, length-append (L.encode x) more);
        is = sym (ap L.decode (take_at (L.encode x) more L.size len) ∙ L.decode-encode x h);
      }

  pub blocks-back : 0 < L.size → (xs : List V) → AllOf L.Holds xs → AreBlocks L (block_bytes L xs) xs
  blocks-back positive [] all = positive
  blocks-back positive (x ∷ xs) all =
      let rest : drop L.size (L.encode x ++ block_bytes L xs) ≡ block_bytes L xs = drop_at (L.encode x) (block_bytes L xs) L.size (L.length-encode x all.0) in
      (block-front x (block_bytes L xs) all.0, subst (λ (bytes : List ℕ). AreBlocks L bytes xs) (sym rest) (blocks-back positive xs all.1))

  pub blocks-short : (bytes : List ℕ) (xs : List V) → IsBytes bytes → AreBlocks L bytes xs → length (block_bytes L xs) ≤ length bytes
  blocks-short bytes [] is p = omega arith
  blocks-short bytes (x ∷ xs) is p =
      let rest = blocks-short (drop L.size bytes) xs (IsBytes-drop L.size bytes is) p.1 in
      let len = L.length-encode x (block-holds bytes x is p.0) in
      omega (arith, rest, len, p.0.long, length-append (L.encode x) (block_bytes L xs), length-drop L.size bytes)

  pub blocks-grow : (bytes : List ℕ) (xs : List V) → IsBytes bytes → AreBlocks L bytes xs → 2 * framed (length (block_bytes L xs)) ≤ 5 * (4 + length bytes)
  blocks-grow bytes xs is p = framed-grows (length (block_bytes L xs)) (length bytes) (omega (arith, blocks-short bytes xs is p))

  -- all bytes are blocks of some values
  pub blocks-whole : 0 < L.size → (n : ℕ) (bytes : List ℕ) → length bytes ≤ n → (xs : List V) × AreBlocks L bytes xs
  blocks-whole positive zero bytes p = ([], omega (arith, positive, p))
  blocks-whole positive (suc n) bytes p = elim (cases_lt (length bytes) L.size) [
    | inl few ↦ ([], few)
    | inr room ↦
        let more = blocks-whole positive n (drop L.size bytes) (omega (arith, p, positive, room, length-drop L.size bytes)) in
        (L.decode (take L.size bytes) ∷ more.0, (record { long = room; is = refl }, more.1))
  ]

  -- they are seen as they stand
  abbrev pub shows_blocks : 0 < L.size → Showing (AreBlocks L) (λ at bytes e. ⊥)
  shows_blocks positive = record {
    form = Raw;
    sees = λ b x. are_bytes b;
    shows = λ b s x p q. p;
    whole = λ b s w p. blocks-whole positive (length b) b (omega arith);
    wrong = λ at b e p. p;
  }

-- a block has a byte at least
abbrev pub blocks : {V : Type 0} (L : Layout V) → 0 < L.size → Codec (List V)
blocks L positive = record {
  Reads = AreBlocks L;
  Wrong = λ at bytes e. ⊥;
  encode = block_bytes L;
  unfit = λ kind xs. None;
  Holds = AllOf L.Holds;
  members = no_members;
  one_reading = blocks-one L;
  no_fault = λ at bytes xs e p q. q;
  reads_holds = blocks-hold L;
  reads_back = λ kind xs all fits. blocks-back L positive xs all;
  grows = blocks-grow L;
  showing = shows_blocks L positive;
}
