-- What is left of a list of attributes, and next hops in it, decides what all is: from each step of the walk to the next.
use Rattle.std.specs.Prelude.{◌≡◌, ℕ, ◌<◌, true, List, [], ◌∷◌, length}
use Rattle.std.proofs.Common.{ap, arith, inl, inr}
use Rattle.npr_base.specs.declared.refusal.DecodeError.{DecodeError}
use Rattle.npr_base.specs.Framing.{Item, Front, Fault, number_of}
use Rattle.npr_base.specs.lemmas.Front.{Front-shrinks, Front-takes}
use Rattle.npr_route.specs.Attribute.{HopHead, HopFront, HopFault}
use Rattle.npr_route.specs.lemmas.NextHopFront.{HopFront-length}
use Rattle.netlink_packet_route.proofs.CheckLaws.{Leads, leads-all, list-ends, list-stops, list-wrong, list-more, hop-more, hop-wrong, hops-end, hops-stop}
use Rattle.netlink_packet_route.proofs.CheckLaws.{hops-read, hops-faulty}
use Rattle.netlink_packet_route.specs.NestLists.{IsAttributeAt, IsListAt, ListFaultAt, AreHopsAt, HopsWrongAt}
use Rattle.netlink_packet_route.specs.Nests.{reading_of, OfNextHop, holds_hops}
use Rattle.netlink_packet_route.specs.declared.nests.Nest.{Nest}
use Rattle.netlink_packet_route.specs.Pending.{Pending, AreLeft, LeftWrong, LeftLeads, HopLeads}

pub left-all : (all : Pending) → LeftLeads all all
left-all all = record { within = omega arith; is = λ p. p; wrong = λ e p. p }

pub left-on : (all left more inner : Pending) → LeftLeads all left → HopLeads left more inner → AreLeft inner → LeftLeads all more
left-on all left more inner past step are = record {
  within = omega (arith, past.within, step.fewer);
  is = λ p. past.is (step.is are p);
  wrong = λ e bad. past.wrong e (step.later e are bad);
}

pub left-through : (all left more : Pending) → LeftLeads all left → LeftLeads left more → LeftLeads all more
left-through all left more past step = record {
  within = omega (arith, past.within, step.within);
  is = λ p. past.is (step.is p);
  wrong = λ e bad. past.wrong e (step.wrong e bad);
}

pub hop-reached : (all left inner reached : Pending) → HopLeads all left inner → LeftLeads inner reached → HopLeads all left reached
hop-reached all left inner reached step past = record {
  fewer = step.fewer;
  inside = omega (arith, past.within, step.inside);
  is = λ p q. step.is (past.is p) q;
  wrong = λ e bad. step.wrong e (past.wrong e bad);
  later = λ e p bad. step.later e (past.is p) bad;
}

-- ---- a list, or next hops, and nothing else

pub list-wrong-alone : (nest : Nest) (rest : List ℕ) (e : DecodeError) → LeftWrong (record { nest = nest; hops = []; rest = rest }) e
    → ListFaultAt nest rest e
list-wrong-alone nest rest e (inl (left, bad)) = absurd (omega (arith, left))
list-wrong-alone nest rest e (inr (are, bad)) = bad

nothing-wrong : (nest : Nest) (e : DecodeError) → ListFaultAt nest [] e → ⊥
nothing-wrong nest e (ms, left, ([], passes, each), inl (some, bad)) = omega (arith, some, ap length passes)
nothing-wrong nest e (ms, left, ([], passes, each), inr (x, more, front, bad)) = omega (arith, Front-shrinks left x more front, ap length passes)
nothing-wrong nest e (ms, left, (x ∷ items, (more, front, passes), each), bad) = omega (arith, Front-shrinks [] x more front)

pub hops-wrong-alone : (nest : Nest) (hops : List ℕ) (e : DecodeError) → LeftWrong (record { nest = nest; hops = hops; rest = [] }) e
    → HopsWrongAt nest hops e
hops-wrong-alone nest hops e (inl (left, bad)) = bad
hops-wrong-alone nest hops e (inr (are, bad)) = absurd (nothing-wrong nest e bad)

-- ---- no next hops are in hand

module _ (nest : Nest) (hops rest : List ℕ) (none : hops ≡ []) where
  here : AreHopsAt nest hops
  here = hops-end nest.set nest.context hops none

  pub left-ends : rest ≡ [] → AreLeft (record { nest = nest; hops = hops; rest = rest })
  left-ends end = (here, list-ends nest rest end)

  pub left-stops : (e : DecodeError) → 0 < length rest → Fault rest e → LeftWrong (record { nest = nest; hops = hops; rest = rest }) e
  left-stops e left bad = inr (here, list-stops nest rest e left bad)

  module _ (x : Item) (more : List ℕ) (front : Front rest x more) where
    list-leads : IsAttributeAt nest x → Leads (IsListAt nest) (ListFaultAt nest) rest more
    list-leads reads = list-more nest rest rest more x (leads-all (IsListAt nest) (ListFaultAt nest) rest) front reads

    pub left-wrong : (e : DecodeError) → (reading_of nest).reading.Faulty x e → LeftWrong (record { nest = nest; hops = hops; rest = rest }) e
    left-wrong e bad = inr (here, list-wrong nest rest more x e front bad)

    -- the attribute holds no next hops
    module _ (reads : IsAttributeAt nest x) where
      later-wrong : (e : DecodeError) → LeftWrong (record { nest = nest; hops = hops; rest = more }) e
          → LeftWrong (record { nest = nest; hops = hops; rest = rest }) e
      later-wrong e (inl (left, bad)) = inl (left, bad)
      later-wrong e (inr (are, bad)) = inr (here, (list-leads reads).faulty e bad)

      pub left-more : LeftLeads (record { nest = nest; hops = hops; rest = rest }) (record { nest = nest; hops = hops; rest = more })
      left-more = record {
        within = omega (arith, Front-shrinks rest x more front);
        is = λ (are, list). (here, (list-leads reads).is list);
        wrong = later-wrong;
      }

    -- it holds some, which come into hand
    module _ (nine : holds_hops nest.set (number_of x.kind) ≡ true) where
      taken-wrong : (e : DecodeError) → LeftWrong (record { nest = nest; hops = x.value; rest = more }) e
          → LeftWrong (record { nest = nest; hops = hops; rest = rest }) e
      taken-wrong e (inl (left, bad)) = inr (here, list-wrong nest rest more x e front (hops-faulty nest.set nest.context x e nine bad))
      taken-wrong e (inr (are, bad)) = inr (here, (list-leads (hops-read nest.set nest.context x nine are)).faulty e bad)

      pub left-taken : LeftLeads (record { nest = nest; hops = hops; rest = rest }) (record { nest = nest; hops = x.value; rest = more })
      left-taken = record {
        within = omega (arith, Front-takes rest x more front);
        is = λ (are, list). (here, (list-leads (hops-read nest.set nest.context x nine are)).is list);
        wrong = taken-wrong;
      }

-- ---- next hops are in hand

module _ (nest : Nest) (hops rest : List ℕ) where
  pub hop-stops : (e : DecodeError) → 0 < length hops → HopFault hops e → LeftWrong (record { nest = nest; hops = hops; rest = rest }) e
  hop-stops e left bad = inl (left, hops-stop nest.set nest.context hops e left bad)

  module _ (h : HopHead) (inside more : List ℕ) (inner : Nest) (front : HopFront hops h inside more) (under : OfNextHop nest inside inner) where
    some : 0 < length hops
    some = omega (arith, HopFront-length hops h inside more front)

    behind : IsListAt inner inside → Leads (AreHopsAt nest) (HopsWrongAt nest) hops more
    behind list =
        hop-more hops hops inside more h inner nest.context nest.set under (leads-all (AreHopsAt nest) (HopsWrongAt nest) hops) front
        (omega (arith, HopFront-length hops h inside more front)) list

    inside-wrong : (e : DecodeError) → LeftWrong (record { nest = inner; hops = []; rest = inside }) e
        → LeftWrong (record { nest = nest; hops = hops; rest = rest }) e
    inside-wrong e bad = inl (some, hop-wrong hops hops inside more h inner nest.context nest.set e under front (list-wrong-alone inner inside e bad))

    behind-wrong : (e : DecodeError) → AreLeft (record { nest = inner; hops = []; rest = inside })
        → LeftWrong (record { nest = nest; hops = more; rest = rest }) e → LeftWrong (record { nest = nest; hops = hops; rest = rest }) e
    behind-wrong e are (inl (left, bad)) = inl (some, (behind are.1).faulty e bad)
    behind-wrong e are (inr (past, bad)) = inr ((behind are.1).is past, bad)

    pub hop-leads : HopLeads (record { nest = nest; hops = hops; rest = rest }) (record { nest = nest; hops = more; rest = rest })
        (record { nest = inner; hops = []; rest = inside })
    hop-leads = record {
      fewer = omega (arith, HopFront-length hops h inside more front);
      inside = omega (arith, HopFront-length hops h inside more front);
      is = λ are (past, list). ((behind are.1).is past, list);
      wrong = inside-wrong;
      later = behind-wrong;
    }

-- behind what was gone through
pub hop-on : (all left behind inner : Pending) → LeftLeads all left → HopLeads left behind inner → HopLeads all behind inner
hop-on all left behind inner past step = record {
  fewer = omega (arith, past.within, step.fewer);
  inside = omega (arith, past.within, step.inside);
  is = λ p q. past.is (step.is p q);
  wrong = λ e bad. past.wrong e (step.wrong e bad);
  later = λ e p bad. past.wrong e (step.later e p bad);
}
