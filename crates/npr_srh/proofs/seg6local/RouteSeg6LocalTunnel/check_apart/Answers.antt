use Rattle.std.proofs.Common.{◌≡◌, sym, ◌∙◌, inl, inr, refl}
use Rattle.npr_base.specs.Framing.{Item, number_of}
use Rattle.npr_srh.specs.Seg6LocalTunnel.{family, attributes}
use Rattle.npr_srh.proofs.Apart.{local_or_not}
use Rattle.npr_srh.proofs.seg6local.RouteSeg6LocalTunnel.check_apart.Goals as goal

-- a header, or else the attribute as it stands
read : (x : Item) → number_of x.kind ≡ 2 → (m : family.Meaning) × attributes.Reads x m
unfolding attributes
read x number = elim (local_or_not x.value) [
  | inl h ↦ (inr (inr (inl h.0)), inl (rw number h.1))
  | inr none ↦ (inr (inr (inr (inr (inr (inr (inr (inr (inr x)))))))), inr (record { unreadable = record { number = number; unread = none }; is = refl }))
]

pub returns-clause-ok : goal.returns-clause-ok
returns-clause-ok c = read c.args.item.now (sym c.kind.ensures ∙ c.if-kind-ne-SEG6_LOCAL_SRH.false)
