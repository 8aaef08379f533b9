-- The attributes of an action are read with one failed look at most, and a kind is read alike whatever governs.
use Rattle.std.specs.Prelude.{◌==◌}
use Rattle.std.proofs.Common.{◌≡◌, Bool, true, false, Some, refl, inl, inr}
use Rattle.npr_base.specs.declared.refusal.DecodeError.{DecodeError}
use Rattle.npr_base.specs.Framing.{Item, number_of}
use Rattle.npr_base.specs.lemmas.Fails.{FailsOnce, InsideOnce, list-once, once_then, rows-once}
use Rattle.npr_base.specs.lemmas.ShortList.{Plain}
use Rattle.npr_tc_values.specs.lemmas.StatsOnce.{stats2_once}
use Rattle.npr_tc_values.specs.Stats2 as OfStats2
use Rattle.npr_tc_values.specs.declared.form.TcForm.TheVariants.{Kept as NoData}
use Rattle.npr_tc_actions.specs.ActionOption.{action_option}
use Rattle.npr_tc_actions.specs.Attribute.{Meaning, attributes, table, tells}
use Rattle.npr_tc_actions.specs.contracts.attribute.TcActionAttribute.{enum}
use Rattle.npr_tc_actions.specs.contracts.mirror_option.TcActionMirrorOption.{enum as mirror_enum}
use Rattle.npr_tc_actions.specs.contracts.nat_option.TcActionNatOption.{enum as nat_enum}
use Rattle.npr_tc_actions.specs.contracts.gact_option.TcActionGactOption.{enum as gact_enum}
use Rattle.npr_tc_actions.specs.contracts.police_option.TcActionPoliceOption.{enum as police_enum}
use Rattle.npr_tc_actions.specs.contracts.vlan_option.TcActionVlanOption.{enum as vlan_enum}
use Rattle.npr_tc_actions.specs.contracts.skbedit_option.TcActionSkbeditOption.{enum as skbedit_enum}
use Rattle.npr_tc_actions.specs.contracts.csum_option.TcActionCsumOption.{enum as csum_enum}
use Rattle.npr_tc_actions.specs.contracts.ct_option.TcActionCtOption.{enum as ct_enum}
use Rattle.npr_tc_actions.specs.contracts.sample_option.TcActionSampleOption.{enum as sample_enum}
use Rattle.npr_tc_actions.specs.contracts.bpf_option.TcActionBpfOption.{enum as bpf_enum}
use Rattle.npr_tc_actions.specs.declared.form.TcActionForm.{TcActionForm}
use Rattle.npr_tc_actions.specs.GactOption as OfGact
use Rattle.npr_tc_actions.specs.PoliceOption as OfPolice
use Rattle.npr_tc_actions.specs.VlanOption as OfVlan
use Rattle.npr_tc_actions.specs.SkbeditOption as OfSkbedit
use Rattle.npr_tc_actions.specs.CsumOption as OfCsum
use Rattle.npr_tc_actions.specs.CtOption as OfCt
use Rattle.npr_tc_actions.specs.SampleOption as OfSample
use Rattle.npr_tc_actions.specs.BpfOption as OfBpf
use Rattle.npr_tc_actions.specs.MirrorOption as OfMirror
use Rattle.npr_tc_actions.specs.NatOption as OfNat
use Rattle.npr_tc_actions.specs.TunnelKeyOption as OfTunnelKey
use Rattle.npr_tc_actions.specs.PeditOption as OfPedit
use Rattle.npr_tc_actions.specs.lemmas.PeditOnce.{pedit_once}
use Rattle.npr_tc_actions.specs.lemmas.TunnelOnce.{tunnel_key_once}

-- ---- one failed look

options_once : (form : TcActionForm) → InsideOnce (action_option form).members.looks
unfolding OfMirror.attributes OfNat.attributes OfGact.attributes OfPolice.attributes OfVlan.attributes OfSkbedit.attributes
    OfCsum.attributes OfCt.attributes OfSample.attributes OfBpf.attributes
options_once TcActionForm.Mirror = list-once OfMirror.attributes (rows-once mirror_enum.parts OfMirror.table.rows tt)
options_once TcActionForm.Nat = list-once OfNat.attributes (rows-once nat_enum.parts OfNat.table.rows tt)
options_once TcActionForm.TunnelKey = list-once OfTunnelKey.attributes tunnel_key_once
options_once TcActionForm.Gact = list-once OfGact.attributes (rows-once gact_enum.parts OfGact.table.rows tt)
options_once TcActionForm.Police = list-once OfPolice.attributes (rows-once police_enum.parts OfPolice.table.rows tt)
options_once TcActionForm.Vlan = list-once OfVlan.attributes (rows-once vlan_enum.parts OfVlan.table.rows tt)
options_once TcActionForm.Skbedit = list-once OfSkbedit.attributes (rows-once skbedit_enum.parts OfSkbedit.table.rows tt)
options_once TcActionForm.Csum = list-once OfCsum.attributes (rows-once csum_enum.parts OfCsum.table.rows tt)
options_once TcActionForm.Ct = list-once OfCt.attributes (rows-once ct_enum.parts OfCt.table.rows tt)
options_once TcActionForm.Sample = list-once OfSample.attributes (rows-once sample_enum.parts OfSample.table.rows tt)
options_once TcActionForm.Bpf = list-once OfBpf.attributes (rows-once bpf_enum.parts OfBpf.table.rows tt)
options_once TcActionForm.Pedit = list-once OfPedit.attributes pedit_once
options_once TcActionForm.Kept = tt

pub attributes_once : (form : TcActionForm) → FailsOnce (attributes form).looks
attributes_once form =
    rows-once enum.parts (table form).rows
    (once_then (action_option form).members.looks _ (options_once form) (list-once (OfStats2.attributes NoData) stats2_once, tt))

-- ---- a kind is read alike

is_kind : (b : Bool) (x : Item) (v : TcActionForm) → (number_of x.kind == 1) ≡ b → tells x ≡ Some v → (number_of x.kind == 1) ≡ true
is_kind true x v e is = e
is_kind false x v e is = let none = rw e at is in absurd cc

module _ (t u : TcActionForm) (x : Item) where
  reads_alike : (m : Meaning) → (number_of x.kind == 1) ≡ true → (attributes t).Reads x m → (attributes u).Reads x m
  reads_alike (inl text) e reads = reads
  reads_alike (inr m) e reads = absurd (rw e at reads)

  faulty_alike : (e : DecodeError) → (number_of x.kind == 1) ≡ true → (attributes t).Faulty x e → (attributes u).Faulty x e
  faulty_alike e is bad = rw is (rw is at bad)

pub attributes_plain : Plain tells attributes
attributes_plain = record {
  reads = λ t u v x m is p. reads_alike t u x m (is_kind (number_of x.kind == 1) x v refl is) p;
  faulty = λ t u v x e is p. faulty_alike t u x e (is_kind (number_of x.kind == 1) x v refl is) p;
}
