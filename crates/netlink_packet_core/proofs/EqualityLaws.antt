-- What `==` answers of attributes, payloads and messages: whether they mean the same.
use Rattle.std.specs.Prelude.{◌≡◌, ℕ, ℤ, pos, ◌<◌, unsigned_abs, List, Bool, ◌&&◌, Some, None}
use Rattle.std.specs.Bool.{Decides}
use Rattle.std.specs.Cmp.{signed_Decides, unsigned_Decides}
use Rattle.std.specs.Option.{option_eq}
use Rattle.std.specs.contracts.prelude.NonZeroI32PartialEq.TheImpl as CodeEq
use Rattle.std.specs.declared.num.NonZeroI32.{NonZeroI32}
use Rattle.std.proofs.Common.{refl, sym, ap, subst, arith, true≢false}
use Rattle.npr_base.specs.Equality.{IsEqualityOf}
use Rattle.npr_base.specs.EnumTable.{◌also◌}
use Rattle.npr_base.specs.Tables.{table_decides}
use Rattle.npr_base.proofs.MeaningLaws.{enum_meaning, one_meaning, text_equality, items_equality}
use Rattle.npr_base.proofs.StructLaws.{and_decides, decides_as}
use Rattle.npr_base.specs.ViewEquality.{item_equality}
use Rattle.netlink_packet_core.specs.Extended as OfAttribute
use Rattle.netlink_packet_core.specs.Message.{View, message_of}
use Rattle.netlink_packet_core.specs.Payload.{Payload, noop, error, done, overrun, inner, payload_of, error_of, done_of, code_of}
use Rattle.netlink_packet_core.specs.lemmas.Walk.{header_equality}
use Rattle.netlink_packet_core.specs.contracts.extended.ErrorAttributePartialEq.TheImpl as AttributeEq
use Rattle.netlink_packet_core.specs.contracts.payload.ErrorMessagePartialEq.TheImpl as ErrorEq
use Rattle.netlink_packet_core.specs.contracts.payload.DoneMessagePartialEq.TheImpl as DoneEq
use Rattle.netlink_packet_core.specs.contracts.payload.NetlinkPayload.{enum as payload_enum}
use Rattle.netlink_packet_core.specs.contracts.payload.NetlinkPayloadPartialEq.TheImpl as PayloadEq
use Rattle.netlink_packet_core.specs.contracts.message.NetlinkMessagePartialEq.TheImpl as MessageEq
use Rattle.std.specs.declared.cmp.PartialEq.{Ghosts as PartialEqGhosts}
use denote.RattleType.{RattleType}
use mir.Syntax.{Dict}

pub attribute_equality : IsEqualityOf OfAttribute.family.meaning AttributeEq.ghosts.eq
attribute_equality =
    table_decides OfAttribute.table _ (search (text_equality, unsigned_Decides, items_equality, item_equality) depth 40)

-- a code and the bytes behind it
abbrev pair : ℤ → List ℕ → ℤ × List ℕ
pair code more = (code, more)

coded_equality : {b c : Bool} {m n : ℤ} {xs ys : List ℕ} → Decides b (m ≡ n) → Decides c (xs ≡ ys) → Decides (b && c) (pair m xs ≡ pair n ys)
coded_equality h k =
    decides_as (λ p. λ i. (p.0 i, p.1 i)) (λ e. (ap (λ (p : ℤ × List ℕ). p.0) e, ap (λ (p : ℤ × List ℕ). p.1) e)) (and_decides h k)

pub done_equality : IsEqualityOf done_of DoneEq.ghosts.eq
done_equality a b = coded_equality (signed_Decides a.code b.code) (items_equality unsigned_Decides a.extended_ack b.extended_ack)

-- a code is not 0, or none
not_zero : (n : NonZeroI32) → n.value ≡ pos 0 → ⊥
not_zero n e = let zero_below : 0 < unsigned_abs (pos 0) = subst (λ z. 0 < unsigned_abs z) e n.ok in omega arith

code_equality : IsEqualityOf code_of (λ a b. option_eq CodeEq.ghosts.eq a b)
code_equality (Some n) (Some m) = signed_Decides n.value m.value
code_equality (Some n) None = (λ e. absurd (true≢false (sym e)), λ e. absurd (not_zero n e))
code_equality None (Some m) = (λ e. absurd (true≢false (sym e)), λ e. absurd (not_zero m (sym e)))
code_equality None None = (λ e. refl, λ e. refl)

pub error_equality : IsEqualityOf error_of ErrorEq.ghosts.eq
error_equality a b = coded_equality (code_equality a.code b.code) (items_equality unsigned_Decides a.header b.header)

-- ---- payloads

payload_order : {M : Type 0} → Payload M → ℕ
payload_order (done code more) = 0
payload_order (error code more) = 1
payload_order noop = 2
payload_order (overrun bytes) = 3
payload_order (inner m) = 4

abbrev done_by : (M : Type 0) → ℤ × List ℕ → Payload M
done_by M p = done p.0 p.1

abbrev error_by : (M : Type 0) → ℤ × List ℕ → Payload M
error_by M p = error p.0 p.1

abbrev overrun_by : (M : Type 0) → List ℕ → Payload M
overrun_by M bytes = overrun bytes

pair_one : (p q : ℤ × List ℕ) → p.0 ≡ q.0 → p.1 ≡ q.1 → p ≡ q
pair_one p q code more = λ i. (code i, more i)

done_one : (M : Type 0) (p q : ℤ × List ℕ) → done_by M p ≡ done_by M q → p ≡ q
done_one M p q e = pair_one p q (cc) (cc)

error_one : (M : Type 0) (p q : ℤ × List ℕ) → error_by M p ≡ error_by M q → p ≡ q
error_one M p q e = pair_one p q (cc) (cc)

-- of a protocol whose messages are compared so
module _ (I : RattleType) (bound : PartialEqGhosts I.Denot) (dict : Dict) {M : Type 0} (meaning : I.Denot → M) (h : IsEqualityOf meaning bound.eq) where
  pub payload_equality : IsEqualityOf (payload_of meaning) (PayloadEq.ghosts I bound dict).eq
  unfolding payload_order
  payload_equality =
      enum_meaning payload_order (payload_enum I) (payload_of meaning) _ (λ t.
      (λ x. refl, one_meaning done_of (done_by M) done_equality (done_one M)) also
      (λ x. refl, one_meaning error_of (error_by M) error_equality (error_one M)) also
      (λ x. refl, λ x y is. (λ e. refl, λ e. refl)) also
      (λ x. refl, one_meaning (λ v. v.items) (overrun_by M) (items_equality unsigned_Decides) (λ p q e. cc)) also
      (λ x. refl, one_meaning meaning inner h (λ p q e. cc)) also tt)

  pub message_equality : IsEqualityOf (message_of meaning) (MessageEq.ghosts I bound dict).eq
  message_equality a b =
      decides_as
      (λ p. λ i. record { header = p.0 i; payload = p.1 i })
      (λ e. (ap (λ (m : View M). m.header) e, ap (λ (m : View M). m.payload) e))
      (and_decides (header_equality a.header b.header) (payload_equality a.payload b.payload))
