-- What `==` answers of actions: whether two values mean the same.
use Rattle.std.specs.Prelude.{ℕ}
use Rattle.std.specs.Cmp.{unsigned_Decides}
use Rattle.std.proofs.Common.{refl, map, ap}
use Rattle.npr_base.proofs.FieldEquality.{one, list, number, truth, bytes, kept, nothing}
use Rattle.npr_base.proofs.IpLaws.{ipv4_equality, ipv6_equality}
use Rattle.npr_base.proofs.MeaningLaws.{enum_meaning, one_meaning, items_equality, items_meaning, text_equality}
use Rattle.npr_base.proofs.StructLaws.{and_decides, decides_as}
use Rattle.npr_base.specs.EnumTable.{◌also◌}
use Rattle.npr_base.specs.Equality.{IsEqualityOf}
use Rattle.npr_base.specs.Tables.{table_decides}
use Rattle.npr_tc_values.proofs.EqualityLaws.{bitfield_equality, stats2_equality}
use Rattle.npr_tc_actions.specs.Action as OfAction
use Rattle.npr_tc_actions.specs.ActionOption as O
use Rattle.npr_tc_actions.specs.Attribute as OfAttribute
use Rattle.npr_tc_actions.specs.MirrorOption as OfMirror
use Rattle.npr_tc_actions.specs.NatOption as OfNat
use Rattle.npr_tc_actions.specs.TunnelKeyOption as OfTunnelKey
use Rattle.npr_tc_actions.specs.contracts.action.TcActionPartialEq.TheImpl as ActionEq
use Rattle.npr_tc_actions.specs.contracts.action_option.TcActionOption.{enum as option_enum}
use Rattle.npr_tc_actions.specs.contracts.action_option.TcActionOptionPartialEq.TheImpl as OptionEq
use Rattle.npr_tc_actions.specs.contracts.attribute.TcActionAttributePartialEq.TheImpl as AttributeEq
use Rattle.npr_tc_actions.specs.contracts.mirror_option.TcActionMirrorOptionPartialEq.TheImpl as MirrorOptionEq
use Rattle.npr_tc_actions.specs.contracts.nat_option.TcActionNatOptionPartialEq.TheImpl as NatOptionEq
use Rattle.npr_tc_actions.specs.contracts.tunnel_key_option.TcActionTunnelKeyOptionPartialEq.TheImpl as TunnelKeyOptionEq
use Rattle.npr_tc_actions.specs.declared.form.TcActionForm.TheVariants.{Kept}
use Rattle.npr_tc_actions.specs.GactOption as OfGact
use Rattle.npr_tc_actions.specs.PoliceOption as OfPolice
use Rattle.npr_tc_actions.specs.VlanOption as OfVlan
use Rattle.npr_tc_actions.specs.SkbeditOption as OfSkbedit
use Rattle.npr_tc_actions.specs.CsumOption as OfCsum
use Rattle.npr_tc_actions.specs.CtOption as OfCt
use Rattle.npr_tc_actions.specs.SampleOption as OfSample
use Rattle.npr_tc_actions.specs.BpfOption as OfBpf
use Rattle.npr_tc_actions.specs.PeditOption as OfPedit
use Rattle.npr_tc_actions.proofs.PeditEquality.{pedit_option_equality}
use Rattle.npr_tc_actions.proofs.EncEquality.{enc_option_equality}
use Rattle.npr_tc_actions.proofs.ValueEquality.{times_equality, mirror_equality, nat_equality, tunnel_key_equality}
use Rattle.npr_tc_actions.proofs.KindEquality.{gact_option_equality, police_option_equality, vlan_option_equality, skbedit_option_equality}
use Rattle.npr_tc_actions.proofs.KindEquality.{csum_option_equality, ct_option_equality, sample_option_equality, bpf_option_equality}

-- ---- sets

pub mirror_option_equality : IsEqualityOf OfMirror.family.meaning MirrorOptionEq.ghosts.eq
mirror_option_equality = table_decides OfMirror.table _ (one times_equality also one mirror_equality also number also kept also tt)

pub nat_option_equality : IsEqualityOf OfNat.family.meaning NatOptionEq.ghosts.eq
nat_option_equality = table_decides OfNat.table _ (one nat_equality also one times_equality also kept also tt)

pub tunnel_key_option_equality : IsEqualityOf OfTunnelKey.family.meaning TunnelKeyOptionEq.ghosts.eq
tunnel_key_option_equality =
    table_decides OfTunnelKey.table _
    (one times_equality also one tunnel_key_equality also one ipv4_equality also one ipv4_equality also one ipv6_equality also
    one ipv6_equality also number also number also truth also list enc_option_equality also number also number also nothing also kept also tt)

-- the places of the variants
option_order : O.Options → ℕ
option_order (O.mirror xs) = 0
option_order (O.nat xs) = 1
option_order (O.tunnel_key xs) = 2
option_order (O.gact xs) = 3
option_order (O.police xs) = 4
option_order (O.vlan xs) = 5
option_order (O.skbedit xs) = 6
option_order (O.csum xs) = 7
option_order (O.ct xs) = 8
option_order (O.sample xs) = 9
option_order (O.bpf xs) = 10
option_order (O.pedit xs) = 11
option_order (O.other bytes) = 12

pub option_equality : IsEqualityOf O.action_option_of OptionEq.ghosts.eq
unfolding option_order
option_equality =
    enum_meaning option_order option_enum O.action_option_of _ (λ t.
    (λ x. refl, one_meaning (λ v. map OfMirror.family.meaning v.items) O.mirror (items_meaning OfMirror.family.meaning mirror_option_equality) (λ p q e. cc)) also
    (λ x. refl, one_meaning (λ v. map OfNat.family.meaning v.items) O.nat (items_meaning OfNat.family.meaning nat_option_equality) (λ p q e. cc)) also
    (λ x. refl, one_meaning (λ v. map OfTunnelKey.family.meaning v.items) O.tunnel_key (items_meaning OfTunnelKey.family.meaning tunnel_key_option_equality) (λ p q e. cc)) also
    (λ x. refl, one_meaning (λ v. map OfGact.family.meaning v.items) O.gact (items_meaning OfGact.family.meaning gact_option_equality) (λ p q e. cc)) also
    (λ x. refl, one_meaning (λ v. map OfPolice.family.meaning v.items) O.police (items_meaning OfPolice.family.meaning police_option_equality) (λ p q e. cc)) also
    (λ x. refl, one_meaning (λ v. map OfVlan.family.meaning v.items) O.vlan (items_meaning OfVlan.family.meaning vlan_option_equality) (λ p q e. cc)) also
    (λ x. refl, one_meaning (λ v. map OfSkbedit.family.meaning v.items) O.skbedit (items_meaning OfSkbedit.family.meaning skbedit_option_equality) (λ p q e. cc)) also
    (λ x. refl, one_meaning (λ v. map OfCsum.family.meaning v.items) O.csum (items_meaning OfCsum.family.meaning csum_option_equality) (λ p q e. cc)) also
    (λ x. refl, one_meaning (λ v. map OfCt.family.meaning v.items) O.ct (items_meaning OfCt.family.meaning ct_option_equality) (λ p q e. cc)) also
    (λ x. refl, one_meaning (λ v. map OfSample.family.meaning v.items) O.sample (items_meaning OfSample.family.meaning sample_option_equality) (λ p q e. cc)) also
    (λ x. refl, one_meaning (λ v. map OfBpf.family.meaning v.items) O.bpf (items_meaning OfBpf.family.meaning bpf_option_equality) (λ p q e. cc)) also
    (λ x. refl, one_meaning (λ v. map OfPedit.family.meaning v.items) O.pedit (items_meaning OfPedit.family.meaning pedit_option_equality) (λ p q e. cc)) also
    (λ x. refl, one_meaning (λ v. v.items) O.other (items_equality unsigned_Decides) (λ p q e. cc)) also tt)

pub attribute_equality : IsEqualityOf OfAttribute.family.meaning AttributeEq.ghosts.eq
attribute_equality =
    table_decides (OfAttribute.table Kept) _
    (one text_equality also one option_equality also number also list stats2_equality also bytes also one bitfield_equality also
    one bitfield_equality also one bitfield_equality also number also kept also tt)

pub action_equality : IsEqualityOf OfAction.family.meaning ActionEq.ghosts.eq
action_equality a b =
    decides_as (λ p. λ i. record { number = p.0 i; value = p.1 i }) (λ e. (ap (λ (m : OfAction.Meaning). m.number) e, ap (λ (m : OfAction.Meaning). m.value) e))
    (and_decides (unsigned_Decides a.tab b.tab) (items_meaning OfAttribute.family.meaning attribute_equality a.attributes b.attributes))
