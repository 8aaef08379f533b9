-- The options of an action, by what governs them (linux/pkt_cls.h, TCA_ACT_OPTIONS): a list of a set, or bytes as they stand.
use Rattle.std.specs.Prelude.{ℕ, List, map}
use Rattle.std.proofs.Common.{refl}
use Rattle.npr_base.specs.Choices.{Held, as_list, as_bytes, Case, list_case, bytes_case, chosen}
use Rattle.npr_base.specs.Codec.{Codec}
use Rattle.npr_base.specs.declared.attribute_set.AttributeSet.TheVariants as At
use Rattle.npr_tc_actions.specs.MirrorOption as OfMirror
use Rattle.npr_tc_actions.specs.NatOption as OfNat
use Rattle.npr_tc_actions.specs.TunnelKeyOption as OfTunnelKey
use Rattle.npr_tc_actions.specs.GactOption as OfGact
use Rattle.npr_tc_actions.specs.PoliceOption as OfPolice
use Rattle.npr_tc_actions.specs.VlanOption as OfVlan
use Rattle.npr_tc_actions.specs.SkbeditOption as OfSkbedit
use Rattle.npr_tc_actions.specs.CsumOption as OfCsum
use Rattle.npr_tc_actions.specs.CtOption as OfCt
use Rattle.npr_tc_actions.specs.SampleOption as OfSample
use Rattle.npr_tc_actions.specs.BpfOption as OfBpf
use Rattle.npr_tc_actions.specs.PeditOption as OfPedit
use Rattle.npr_tc_actions.specs.declared.action_option.TcActionOption.{TcActionOption}
use Rattle.npr_tc_actions.specs.declared.action_option.TcActionOption.TheVariants as Has
use Rattle.npr_tc_actions.specs.declared.form.TcActionForm.{TcActionForm}

-- options, without where they lie in memory
pub data Options : Type 0 where
  mirror : List OfMirror.family.Meaning → Options
  nat : List OfNat.family.Meaning → Options
  tunnel_key : List OfTunnelKey.family.Meaning → Options
  gact : List OfGact.family.Meaning → Options
  police : List OfPolice.family.Meaning → Options
  vlan : List OfVlan.family.Meaning → Options
  skbedit : List OfSkbedit.family.Meaning → Options
  csum : List OfCsum.family.Meaning → Options
  ct : List OfCt.family.Meaning → Options
  sample : List OfSample.family.Meaning → Options
  bpf : List OfBpf.family.Meaning → Options
  pedit : List OfPedit.family.Meaning → Options
  other : List ℕ → Options

abbrev pub action_option_of : TcActionOption → Options
action_option_of (Has.Mirror xs) = mirror (map OfMirror.family.meaning xs.items)
action_option_of (Has.Nat xs) = nat (map OfNat.family.meaning xs.items)
action_option_of (Has.TunnelKey xs) = tunnel_key (map OfTunnelKey.family.meaning xs.items)
action_option_of (Has.Gact xs) = gact (map OfGact.family.meaning xs.items)
action_option_of (Has.Police xs) = police (map OfPolice.family.meaning xs.items)
action_option_of (Has.Vlan xs) = vlan (map OfVlan.family.meaning xs.items)
action_option_of (Has.Skbedit xs) = skbedit (map OfSkbedit.family.meaning xs.items)
action_option_of (Has.Csum xs) = csum (map OfCsum.family.meaning xs.items)
action_option_of (Has.Ct xs) = ct (map OfCt.family.meaning xs.items)
action_option_of (Has.Sample xs) = sample (map OfSample.family.meaning xs.items)
action_option_of (Has.Bpf xs) = bpf (map OfBpf.family.meaning xs.items)
action_option_of (Has.Pedit xs) = pedit (map OfPedit.family.meaning xs.items)
action_option_of (Has.Other bytes) = other bytes.items

-- how they are written, whatever governs
abbrev pub held : Options → Held
held (mirror xs) = as_list At.TcActionMirror OfMirror.attributes xs
held (nat xs) = as_list At.TcActionNat OfNat.attributes xs
held (tunnel_key xs) = as_list At.TcActionTunnelKey OfTunnelKey.attributes xs
held (gact xs) = as_list At.TcActionGact OfGact.attributes xs
held (police xs) = as_list At.TcActionPolice OfPolice.attributes xs
held (vlan xs) = as_list At.TcActionVlan OfVlan.attributes xs
held (skbedit xs) = as_list At.TcActionSkbedit OfSkbedit.attributes xs
held (csum xs) = as_list At.TcActionCsum OfCsum.attributes xs
held (ct xs) = as_list At.TcActionCt OfCt.attributes xs
held (sample xs) = as_list At.TcActionSample OfSample.attributes xs
held (bpf xs) = as_list At.TcActionBpf OfBpf.attributes xs
held (pedit xs) = as_list At.TcActionPedit OfPedit.attributes xs
held (other bytes) = as_bytes bytes

-- and read
abbrev pub case : TcActionForm → Case held
case TcActionForm.Mirror = list_case held At.TcActionMirror OfMirror.attributes mirror (λ xs. refl)
case TcActionForm.Nat = list_case held At.TcActionNat OfNat.attributes nat (λ xs. refl)
case TcActionForm.TunnelKey = list_case held At.TcActionTunnelKey OfTunnelKey.attributes tunnel_key (λ xs. refl)
case TcActionForm.Gact = list_case held At.TcActionGact OfGact.attributes gact (λ xs. refl)
case TcActionForm.Police = list_case held At.TcActionPolice OfPolice.attributes police (λ xs. refl)
case TcActionForm.Vlan = list_case held At.TcActionVlan OfVlan.attributes vlan (λ xs. refl)
case TcActionForm.Skbedit = list_case held At.TcActionSkbedit OfSkbedit.attributes skbedit (λ xs. refl)
case TcActionForm.Csum = list_case held At.TcActionCsum OfCsum.attributes csum (λ xs. refl)
case TcActionForm.Ct = list_case held At.TcActionCt OfCt.attributes ct (λ xs. refl)
case TcActionForm.Sample = list_case held At.TcActionSample OfSample.attributes sample (λ xs. refl)
case TcActionForm.Bpf = list_case held At.TcActionBpf OfBpf.attributes bpf (λ xs. refl)
case TcActionForm.Pedit = list_case held At.TcActionPedit OfPedit.attributes pedit (λ xs. refl)
case TcActionForm.Kept = bytes_case held other (λ bytes. refl)

abbrev pub action_option : TcActionForm → Codec Options
action_option form = chosen held (case form)
