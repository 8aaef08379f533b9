-- How the options of an action are read, by what they are.
use Rattle.std.specs.Prelude.{◌≡◌, ℕ, List}
use Rattle.std.proofs.Common.{refl}
use Rattle.npr_base.specs.Lists.{ReadsList}
use Rattle.npr_tc_actions.specs.ActionOption as O
use Rattle.npr_tc_actions.specs.BpfOption as OfBpf
use Rattle.npr_tc_actions.specs.CsumOption as OfCsum
use Rattle.npr_tc_actions.specs.CtOption as OfCt
use Rattle.npr_tc_actions.specs.GactOption as OfGact
use Rattle.npr_tc_actions.specs.MirrorOption as OfMirror
use Rattle.npr_tc_actions.specs.NatOption as OfNat
use Rattle.npr_tc_actions.specs.PeditOption as OfPedit
use Rattle.npr_tc_actions.specs.PoliceOption as OfPolice
use Rattle.npr_tc_actions.specs.SampleOption as OfSample
use Rattle.npr_tc_actions.specs.SkbeditOption as OfSkbedit
use Rattle.npr_tc_actions.specs.TunnelKeyOption as OfTunnelKey
use Rattle.npr_tc_actions.specs.VlanOption as OfVlan
use Rattle.npr_tc_actions.specs.declared.form.TcActionForm.{TcActionForm}

-- the kind that they are of
abbrev pub form_of : O.Options → TcActionForm
form_of (O.mirror xs) = TcActionForm.Mirror
form_of (O.nat xs) = TcActionForm.Nat
form_of (O.tunnel_key xs) = TcActionForm.TunnelKey
form_of (O.gact xs) = TcActionForm.Gact
form_of (O.police xs) = TcActionForm.Police
form_of (O.vlan xs) = TcActionForm.Vlan
form_of (O.skbedit xs) = TcActionForm.Skbedit
form_of (O.csum xs) = TcActionForm.Csum
form_of (O.ct xs) = TcActionForm.Ct
form_of (O.sample xs) = TcActionForm.Sample
form_of (O.bpf xs) = TcActionForm.Bpf
form_of (O.pedit xs) = TcActionForm.Pedit
form_of (O.other bytes) = TcActionForm.Kept

-- the bytes are these
abbrev pub AreOptions : List ℕ → O.Options → Type 0
AreOptions bytes (O.mirror xs) = ReadsList OfMirror.attributes.Reads bytes xs
AreOptions bytes (O.nat xs) = ReadsList OfNat.attributes.Reads bytes xs
AreOptions bytes (O.tunnel_key xs) = ReadsList OfTunnelKey.attributes.Reads bytes xs
AreOptions bytes (O.gact xs) = ReadsList OfGact.attributes.Reads bytes xs
AreOptions bytes (O.police xs) = ReadsList OfPolice.attributes.Reads bytes xs
AreOptions bytes (O.vlan xs) = ReadsList OfVlan.attributes.Reads bytes xs
AreOptions bytes (O.skbedit xs) = ReadsList OfSkbedit.attributes.Reads bytes xs
AreOptions bytes (O.csum xs) = ReadsList OfCsum.attributes.Reads bytes xs
AreOptions bytes (O.ct xs) = ReadsList OfCt.attributes.Reads bytes xs
AreOptions bytes (O.sample xs) = ReadsList OfSample.attributes.Reads bytes xs
AreOptions bytes (O.bpf xs) = ReadsList OfBpf.attributes.Reads bytes xs
AreOptions bytes (O.pedit xs) = ReadsList OfPedit.attributes.Reads bytes xs
AreOptions bytes (O.other kept) = kept ≡ bytes

pub options_read : (form : TcActionForm) (bytes : List ℕ) (x : O.Options) → form ≡ form_of x → AreOptions bytes x → (O.action_option form).Reads bytes x
options_read form bytes (O.mirror xs) is reads = rw is (xs, reads, refl)
options_read form bytes (O.nat xs) is reads = rw is (xs, reads, refl)
options_read form bytes (O.tunnel_key xs) is reads = rw is (xs, reads, refl)
options_read form bytes (O.gact xs) is reads = rw is (xs, reads, refl)
options_read form bytes (O.police xs) is reads = rw is (xs, reads, refl)
options_read form bytes (O.vlan xs) is reads = rw is (xs, reads, refl)
options_read form bytes (O.skbedit xs) is reads = rw is (xs, reads, refl)
options_read form bytes (O.csum xs) is reads = rw is (xs, reads, refl)
options_read form bytes (O.ct xs) is reads = rw is (xs, reads, refl)
options_read form bytes (O.sample xs) is reads = rw is (xs, reads, refl)
options_read form bytes (O.bpf xs) is reads = rw is (xs, reads, refl)
options_read form bytes (O.pedit xs) is reads = rw is (xs, reads, refl)
options_read form bytes (O.other kept) is reads = rw is (kept, reads, refl)
