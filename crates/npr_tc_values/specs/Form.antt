-- What governs the data of a queueing discipline or a filter, by the kernel's names of the kinds.
use Rattle.std.specs.Prelude.{ℕ, List, [], ◌∷◌, codes}
use Rattle.npr_base.specs.Unterminated.{named_in}
use Rattle.npr_tc_values.specs.declared.form.TcForm.{TcForm}

-- what governs data under a kind of this name
abbrev pub form_named : List ℕ → TcForm
form_named =
    named_in TcForm.Kept
    ((codes "fq_codel", TcForm.FqCodel) ∷ (codes "ingress", TcForm.Ingress) ∷ (codes "clsact", TcForm.Clsact) ∷ (codes "u32", TcForm.U32)
    ∷ (codes "flower", TcForm.Flower) ∷ (codes "matchall", TcForm.MatchAll) ∷ (codes "htb", TcForm.Htb) ∷ (codes "tbf", TcForm.Tbf)
    ∷ (codes "red", TcForm.Red) ∷ (codes "fq", TcForm.Fq) ∷ (codes "netem", TcForm.Netem) ∷ (codes "prio", TcForm.Prio)
    ∷ (codes "pfifo_fast", TcForm.Prio) ∷ (codes "pfifo", TcForm.Fifo) ∷ (codes "bfifo", TcForm.Fifo) ∷ (codes "pfifo_head_drop", TcForm.Fifo)
    ∷ (codes "fw", TcForm.Fw) ∷ (codes "bpf", TcForm.Bpf) ∷ (codes "cake", TcForm.Cake) ∷ (codes "sfq", TcForm.Sfq)
    ∷ (codes "basic", TcForm.Basic) ∷ [])
