-- What is done at a local segment (linux/seg6_local.h, SEG6_LOCAL_ACTION_*), by its table.
use Rattle.std.specs.Prelude.{ℕ, List, [], ◌∷◌, codes}
use Rattle.std.proofs.Common.{refl}
use Rattle.npr_base.specs.Layout.{Layout, le32, formed}
use Rattle.npr_base.specs.Numbering.{Numbering}
use Rattle.npr_base.specs.Rows.{Named, numbered, number_in, text_in}
use Rattle.npr_base.specs.Enumeration.{by_rows}
use Rattle.npr_base.specs.Text.{other_text}
use Rattle.npr_srh.specs.declared.seg6local_action.Seg6LocalAction.{Seg6LocalAction}
use Rattle.npr_srh.specs.declared.seg6local_action.Seg6LocalAction.TheVariants.{End, EndX, EndT, EndDx2, EndDx6, EndDx4, EndDt6, EndDt4, EndB6, EndB6Encap}
use Rattle.npr_srh.specs.declared.seg6local_action.Seg6LocalAction.TheVariants.{EndBm, EndS, EndAs, EndAm, EndBpf, EndDt46, Unspec, Other}
use Rattle.npr_srh.specs.contracts.seg6local_action.Seg6LocalAction.{enum}

abbrev pub action_rows : List (Named Seg6LocalAction)
action_rows =
    (1, End, codes "End") ∷ (2, EndX, codes "End.X") ∷ (3, EndT, codes "End.T") ∷ (4, EndDx2, codes "End.DX2")
    ∷ (5, EndDx6, codes "End.DX6") ∷ (6, EndDx4, codes "End.DX4") ∷ (7, EndDt6, codes "End.DT6") ∷ (8, EndDt4, codes "End.DT4")
    ∷ (9, EndB6, codes "End.B6") ∷ (10, EndB6Encap, codes "End.B6.Encaps") ∷ (11, EndBm, codes "End.BM") ∷ (12, EndS, codes "End.S")
    ∷ (13, EndAs, codes "End.AS") ∷ (14, EndAm, codes "End.AM") ∷ (15, EndBpf, codes "End.BPF") ∷ (16, EndDt46, codes "End.DT46") ∷ []

-- and one that is written by a number which reads as `Other`: all stand in the order of the variants
abbrev pub all_action_rows : List (Named Seg6LocalAction)
all_action_rows = (0, Unspec, codes "unspec") ∷ action_rows

-- the action that a number reads as, and the number that one is written as: never `Unspec`, whose number reads as `Other`
abbrev pub actions : Numbering ℕ Seg6LocalAction
actions = by_rows (number_in enum (numbered all_action_rows) (λ f. f.0)) Other (numbered action_rows) (λ d. refl) refl

-- how one is read and written
abbrev pub action : Layout Seg6LocalAction
action = formed le32 actions

-- the text of an action, as RFC 8986 names it
abbrev pub action_text : Seg6LocalAction → List ℕ
action_text x = text_in enum all_action_rows (λ f. other_text f.0) x
