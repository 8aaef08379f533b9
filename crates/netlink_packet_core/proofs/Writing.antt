-- A message, written part by part.
use Rattle.std.proofs.Common.{◌≡◌, ℕ, ◌+◌, ◌-◌, ◌≤◌, List, ◌++◌, length, take, drop, replicate, sym, subst, arith, length-append}
use borrow.Rule.Slice.PartMut.{put_mid}
use Rattle.npr_base.specs.Framing.{Writes, pad}
use Rattle.npr_base.proofs.Writing.{Writes-more}

module _ (old cur body new head payload : List ℕ) (len padding : ℕ) where
  abbrev mid : List ℕ
  mid = put_mid 16 (length cur - 16) cur body

  -- a header, then the payload behind it, and then zeros
  pub Writes-message : length head ≡ 16 → len ≡ length payload → 16 + (length payload + pad (length payload)) ≤ length old → padding ≡ pad (length payload)
      → Writes old cur head → Writes (take (length cur - 16) (drop 16 cur)) body payload
      → Writes (take (length mid - (16 + len)) (drop (16 + len) mid)) new (replicate padding 0)
      → Writes old (put_mid (16 + len) (length mid - (16 + len)) mid new) ((head ++ payload) ++ replicate (pad (length payload)) 0)
  Writes-message size len_is room padding_is w p q =
      let first : Writes old mid (head ++ payload) = Writes-more old cur body head payload 16 (sym size) (omega arith) w p in
      let both : length (head ++ payload) ≡ 16 + len = omega (arith, length-append head payload) in
      let whole : Writes old (put_mid (16 + len) (length mid - (16 + len)) mid new) ((head ++ payload) ++ replicate padding 0)
      = Writes-more old mid new (head ++ payload) (replicate padding 0) (16 + len) (sym both) (omega arith) first q in
      subst (λ (n : ℕ). Writes old (put_mid (16 + len) (length mid - (16 + len)) mid new) ((head ++ payload) ++ replicate n 0)) padding_is whole
