-- What governs the options of an action, by the kernel's names of the kinds.
use Rattle.std.specs.Prelude.{ℕ, List, [], ◌∷◌, codes}
use Rattle.npr_base.specs.Unterminated.{named_in}
use Rattle.npr_tc_actions.specs.declared.form.TcActionForm.{TcActionForm}

-- what governs options under a kind of this name
abbrev pub form_named : List ℕ → TcActionForm
form_named =
    named_in TcActionForm.Kept
    ((codes "mirred", TcActionForm.Mirror) ∷ (codes "nat", TcActionForm.Nat) ∷ (codes "tunnel_key", TcActionForm.TunnelKey)
    ∷ (codes "gact", TcActionForm.Gact) ∷ (codes "police", TcActionForm.Police) ∷ (codes "vlan", TcActionForm.Vlan)
    ∷ (codes "skbedit", TcActionForm.Skbedit) ∷ (codes "csum", TcActionForm.Csum) ∷ (codes "ct", TcActionForm.Ct)
    ∷ (codes "sample", TcActionForm.Sample) ∷ (codes "bpf", TcActionForm.Bpf) ∷ (codes "pedit", TcActionForm.Pedit) ∷ [])
