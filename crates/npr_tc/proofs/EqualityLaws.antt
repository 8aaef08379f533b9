-- What `==` answers of messages of traffic control: whether two values are equal, or mean the same.
use Rattle.std.specs.Prelude.{ℕ}
use Rattle.std.specs.Cmp.{signed_Decides, unsigned_Decides}
use Rattle.std.proofs.Common.{◌≡◌, refl, rules, map, drop, inl, inr, ap}
use Rattle.npr_base.proofs.AddressFamilyLaws.{family_equality}
use Rattle.npr_base.proofs.EqualityLaws.{one_equality}
use Rattle.npr_base.proofs.FieldEquality.{one, list, number, bytes, kept, nothing}
use Rattle.npr_base.proofs.Firsts.{head_of, first-decides}
use Rattle.npr_base.proofs.MeaningLaws.{enum_meaning, one_meaning, items_meaning, text_equality}
use Rattle.npr_base.proofs.StructLaws.{◌beside◌, decides_as, struct_equality}
use Rattle.npr_base.specs.EnumTable.{◌also◌}
use Rattle.npr_base.specs.Equality.{IsEquality, IsEqualityOf}
use Rattle.npr_base.specs.Framing.{Item}
use Rattle.npr_base.specs.lemmas.EnumTable.{choices-decide}
use Rattle.npr_base.specs.Tables.{table_decides}
use Rattle.npr_tc_actions.proofs.EqualityLaws.{action_equality}
use Rattle.npr_tc_filters.proofs.EqualityLaws.{basic_equality, bpf_equality, flower_equality, fw_equality, match_all_equality, u32_equality}
use Rattle.npr_tc_filters.specs.Basic as OfBasic
use Rattle.npr_tc_filters.specs.Bpf as OfBpf
use Rattle.npr_tc_filters.specs.Fw as OfFw
use Rattle.npr_tc_filters.specs.Flower as OfFlower
use Rattle.npr_tc_filters.specs.MatchAll as OfMatchAll
use Rattle.npr_tc_filters.specs.U32Option as OfU32
use Rattle.npr_tc_qdiscs.proofs.EqualityLaws.{fq_codel_equality, ingress_equality}
use Rattle.npr_tc_values.proofs.EqualityLaws.{bitfield_equality, estimator_equality, handle_equality}
use Rattle.npr_tc_qdiscs.proofs.EqualityLaws.{stab_equality}
use Rattle.npr_tc_values.proofs.EqualityLaws.{stats2_equality, stats_equality, xstats_equality}
use Rattle.npr_tc_qdiscs.proofs.EqualityLaws.{cake_equality, sfq_qopt_equality}
use Rattle.npr_tc_qdiscs.proofs.EqualityLaws.{fifo_qopt_equality, fq_equality, htb_equality, netem_equality, prio_qopt_equality, red_equality, tbf_equality}
use Rattle.npr_tc_qdiscs.specs.Cake as OfCake
use Rattle.npr_tc_qdiscs.specs.Fq as OfFq
use Rattle.npr_tc_qdiscs.specs.FqCodel as OfFqCodel
use Rattle.npr_tc_qdiscs.specs.Htb as OfHtb
use Rattle.npr_tc_qdiscs.specs.Netem.{netem_of}
use Rattle.npr_tc_qdiscs.specs.Red as OfRed
use Rattle.npr_tc_qdiscs.specs.Tbf as OfTbf
use Rattle.npr_tc_qdiscs.specs.Ingress as OfIngress
use Rattle.npr_tc_values.specs.declared.form.TcForm.TheVariants.{Kept}
use Rattle.npr_tc.specs.ActionAttribute as OfAction
use Rattle.npr_tc.specs.Attribute as OfAttribute
use Rattle.npr_tc.specs.Options as O
use Rattle.npr_tc.specs.contracts.action_attribute.TcActionMessageAttributePartialEq.TheImpl as ActionAttributeEq
use Rattle.npr_tc.specs.contracts.action_flags.TcActionMessageFlagsPartialEq.TheImpl as FlagsEq
use Rattle.npr_tc.specs.contracts.action_flags.TcActionMessageFlagsWithSelectorPartialEq.TheImpl as WithSelectorEq
use Rattle.npr_tc.specs.contracts.action_header.TcActionMessageHeaderPartialEq.TheImpl as ActionHeaderEq
use Rattle.npr_tc.specs.contracts.attribute.TcAttribute.{enum as attribute_enum}
use Rattle.npr_tc.specs.contracts.attribute.TcAttributePartialEq.TheImpl as AttributeEq
use Rattle.npr_tc.specs.contracts.header.TcHeader.{struct}
use Rattle.npr_tc.specs.contracts.header.TcHeaderPartialEq.TheImpl as HeaderEq
use Rattle.npr_tc.specs.contracts.header.TcMessageBuffer.{struct as buffer_struct}
use Rattle.npr_tc.specs.contracts.header.TcMessageBufferPartialEq.TheImpl as BufferEq
use Rattle.npr_tc.specs.contracts.option.TcOption.{enum as option_enum}
use Rattle.npr_tc.specs.contracts.option.TcOptionPartialEq.TheImpl as OptionEq
use denote.Enum.Declared.{Choice}
use denote.Struct.Values.{Values}

-- ---- values

pub flags_equality : IsEquality FlagsEq.ghosts.eq
flags_equality = search rules

pub with_selector_equality : IsEquality WithSelectorEq.ghosts.eq
with_selector_equality = search rules

pub header_equality : IsEquality HeaderEq.ghosts.eq
header_equality =
    struct_equality struct (λ v. tt) (λ d. refl)
    (family_equality beside signed_Decides beside handle_equality beside handle_equality beside one_equality unsigned_Decides)

pub header_buffer_equality : IsEquality BufferEq.ghosts.eq
header_buffer_equality =
    struct_equality buffer_struct (λ v. tt) (λ d. refl)
    (unsigned_Decides beside signed_Decides beside unsigned_Decides beside unsigned_Decides beside one_equality unsigned_Decides)

pub action_header_equality : IsEquality ActionHeaderEq.ghosts.eq
action_header_equality a b = decides_as (λ e. λ i. record { family = e i }) (λ e. ap (λ h. h.family) e) (family_equality a.family b.family)

-- ---- data

-- the places of the variants
option_order : O.Options → ℕ
option_order (O.fq_codel xs) = 0
option_order (O.ingress xs) = 1
option_order (O.clsact xs) = 2
option_order (O.u32 xs) = 3
option_order (O.flower xs) = 4
option_order (O.match_all xs) = 5
option_order (O.htb xs) = 6
option_order (O.tbf xs) = 7
option_order (O.red xs) = 8
option_order (O.fq xs) = 9
option_order (O.netem_data x) = 10
option_order (O.prio x) = 11
option_order (O.fifo x) = 12
option_order (O.fw xs) = 13
option_order (O.bpf xs) = 14
option_order (O.cake xs) = 15
option_order (O.sfq bytes) = 16
option_order (O.basic xs) = 17

pub option_equality : IsEqualityOf O.options_of OptionEq.ghosts.eq
unfolding option_order
option_equality =
    enum_meaning option_order option_enum O.options_of _ (λ t.
    (λ x. refl, one_meaning (λ v. map OfFqCodel.family.meaning v.items) O.fq_codel (items_meaning OfFqCodel.family.meaning fq_codel_equality) (λ p q e. cc)) also
    (λ x. refl, one_meaning (λ v. map OfIngress.family.meaning v.items) O.ingress (items_meaning OfIngress.family.meaning ingress_equality) (λ p q e. cc)) also
    (λ x. refl, one_meaning (λ v. map OfIngress.family.meaning v.items) O.clsact (items_meaning OfIngress.family.meaning ingress_equality) (λ p q e. cc)) also
    (λ x. refl, one_meaning (λ v. map OfU32.family.meaning v.items) O.u32 (items_meaning OfU32.family.meaning u32_equality) (λ p q e. cc)) also
    (λ x. refl, one_meaning (λ v. map OfFlower.family.meaning v.items) O.flower (items_meaning OfFlower.family.meaning flower_equality) (λ p q e. cc)) also
    (λ x. refl, one_meaning (λ v. map OfMatchAll.family.meaning v.items) O.match_all (items_meaning OfMatchAll.family.meaning match_all_equality) (λ p q e. cc)) also
    (λ x. refl, one_meaning (λ v. map OfHtb.family.meaning v.items) O.htb (items_meaning OfHtb.family.meaning htb_equality) (λ p q e. cc)) also
    (λ x. refl, one_meaning (λ v. map OfTbf.family.meaning v.items) O.tbf (items_meaning OfTbf.family.meaning tbf_equality) (λ p q e. cc)) also
    (λ x. refl, one_meaning (λ v. map OfRed.family.meaning v.items) O.red (items_meaning OfRed.family.meaning red_equality) (λ p q e. cc)) also
    (λ x. refl, one_meaning (λ v. map OfFq.family.meaning v.items) O.fq (items_meaning OfFq.family.meaning fq_equality) (λ p q e. cc)) also
    (λ x. refl, one_meaning netem_of O.netem_data netem_equality (λ p q e. cc)) also
    (λ x. refl, one_meaning (λ q. q) O.prio prio_qopt_equality (λ p q e. cc)) also
    (λ x. refl, one_meaning (λ q. q) O.fifo fifo_qopt_equality (λ p q e. cc)) also
    (λ x. refl, one_meaning (λ v. map OfFw.family.meaning v.items) O.fw (items_meaning OfFw.family.meaning fw_equality) (λ p q e. cc)) also
    (λ x. refl, one_meaning (λ v. map OfBpf.family.meaning v.items) O.bpf (items_meaning OfBpf.family.meaning bpf_equality) (λ p q e. cc)) also
    (λ x. refl, one_meaning (λ v. map OfCake.family.meaning v.items) O.cake (items_meaning OfCake.family.meaning cake_equality) (λ p q e. cc)) also
    (λ x. refl, one_meaning (λ q. q.bytes.items) O.sfq sfq_qopt_equality (λ p q e. cc)) also
    (λ x. refl, one_meaning (λ v. map OfBasic.family.meaning v.items) O.basic (items_meaning OfBasic.family.meaning basic_equality) (λ p q e. cc)) also tt)

-- ---- attributes

-- what each of the first two variants means, no later one does
options_apart : (x : Values (head_of attribute_enum.parts)) (c : Choice (drop 1 attribute_enum.parts))
    → OfAttribute.meaning_of (inl x) ≡ OfAttribute.meaning_of (inr c) → ⊥
options_apart x (inl y) e = absurd cc
options_apart x (inr c) e = absurd cc

unknown_apart : (x : Values (head_of (drop 1 attribute_enum.parts))) (c : Choice OfAttribute.later)
    → OfAttribute.meaning_of (inr (inl x)) ≡ OfAttribute.meaning_of (inr (inr c)) → ⊥
unknown_apart x c e = absurd cc

pub attribute_equality : IsEqualityOf OfAttribute.meaning AttributeEq.ghosts.eq
attribute_equality a b =
    first-decides (head_of attribute_enum.parts) (drop 1 attribute_enum.parts) OfAttribute.meaning_of _
    (λ x y. decides_as (λ e. ap (λ (o : O.Options). inl (O.options o)) e) (λ e. cc) (one option_equality x y))
    (first-decides (head_of (drop 1 attribute_enum.parts)) OfAttribute.later (λ c. OfAttribute.meaning_of (inr c)) _
    (λ x y. decides_as (λ e. ap (λ (z : Item). inl (O.unknown z)) e) (λ e. cc) (kept x y))
    (λ c d. decides_as (λ e. ap (λ (m : OfAttribute.Rest). inr m) e) (λ e. cc)
    (choices-decide OfAttribute.later (OfAttribute.rows Kept).0 _
    (one text_equality also one stats_equality also one xstats_equality also one estimator_equality also bytes also list stats2_equality also
    list stab_equality also nothing also number also number also number also number also one bitfield_equality also one text_equality also
    kept also tt) c d)) unknown_apart) options_apart (attribute_enum.as_values a) (attribute_enum.as_values b)

pub action_attribute_equality : IsEqualityOf OfAction.family.meaning ActionAttributeEq.ghosts.eq
action_attribute_equality =
    table_decides OfAction.table _
    (list action_equality also one with_selector_equality also number also number also one text_equality also kept also tt)
