-- The lists in the attributes of traffic control: of a message, of statistics, of actions and of one action, under every context.
use Rattle.std.specs.Prelude.{◌≡◌}
use Rattle.std.proofs.Common.{refl, sym, ap, subst, ◌∙◌, arith}
use Rattle.npr_base.specs.EnumTable.{family_in}
use Rattle.npr_base.specs.lemmas.FirstTold.{governs-one}
use Rattle.npr_base.specs.Framing.{Item, number_of}
use Rattle.npr_base.specs.ListCodec.{list_of}
use Rattle.npr_base.specs.Lists.{ReadsList}
use Rattle.npr_base.specs.Nesting.{IsListOf, IsFaultOf, Nests, Opened, ListRow, NestRows}
use Rattle.npr_base.specs.Refusal.{at_number}
use Rattle.npr_base.proofs.NestLaws.{plain-list, opened-by, in-rows, table-nests, beside-nests, retold-nests}
use Rattle.npr_base.specs.declared.attribute_set.AttributeSet.{AttributeSet}
use Rattle.npr_base.specs.declared.attribute_set.AttributeSet.TheVariants as At
use Rattle.npr_base.specs.declared.value.Form.TheVariants.{List as Listed}
use Rattle.npr_tc.specs.Attribute as OfTc
use Rattle.npr_tc.specs.Options.{Kind, Said, kept, holding, kind_of, options, place, said, said_by}
use Rattle.npr_tc_actions.specs.Action as OfActions
use Rattle.npr_tc_actions.specs.ActionOption as OfOption
use Rattle.npr_tc_actions.specs.Attribute as OfAction
use Rattle.npr_tc_values.specs.Numbered.{IsNumbered}
use Rattle.npr_tc_actions.specs.contracts.attribute.TcActionAttribute.{enum as action_enum}
use Rattle.npr_tc_actions.specs.declared.form.TcActionForm.{TcActionForm}
use Rattle.npr_tc_actions.specs.declared.form.TcActionForm.TheVariants as Action
use Rattle.npr_tc_values.specs.CakeTin as OfTins
use Rattle.npr_tc_qdiscs.specs.Netem.{default_qopt}
use Rattle.npr_tc_qdiscs.specs.NetemOption as OfNetemOption
use Rattle.npr_tc_qdiscs.specs.NetemQopt.{netem_qopt}
use Rattle.npr_tc_values.specs.Stats2 as OfStats2
use Rattle.npr_tc_values.specs.Xstats as OfXstats
use Rattle.npr_tc_values.specs.contracts.stats2.TcStats2.{enum as stats2_enum}
use Rattle.npr_tc_values.specs.declared.form.TcForm.{TcForm}
use Rattle.netlink_packet_route.specs.Nests.{Inner, nest_in, reading_of, within}
use Rattle.netlink_packet_route.specs.declared.context.Context.{Context}
use Rattle.netlink_packet_route.specs.declared.nests.Nest.{Nest}
use Rattle.netlink_packet_route.proofs.NestRows.{Own, listed-row, headed-row, chosen-row}

module _ (c : Context) where
  -- ---- of a message

  -- statistics tell the kind that governs it
  stats-row : (form : TcForm) → c.tc ≡ form → ListRow reading_of (Inner c) (Own At.Tc c) (list_of At.TcStats2 (OfStats2.attributes form)) At.TcStats2 0
  stats-row form same =
      plain-list reading_of (Inner c) (Own At.Tc c) At.TcStats2 (nest_in At.TcStats2 (record c { tc = form }))
      (λ bytes n p. p ∙ ap (λ (t : TcForm). nest_in At.TcStats2 (record c { tc = t })) same)

  tc-rows : (form : TcForm) → c.tc ≡ form → NestRows reading_of (Inner c) (Own At.Tc c) OfTc.later (OfTc.rows form).0
  tc-rows TcForm.Kept same = (stats-row TcForm.Kept same, (listed-row At.Tc c At.TcStab (λ bytes n p. p), tt))
  tc-rows TcForm.FqCodel same = (stats-row TcForm.FqCodel same, (listed-row At.Tc c At.TcStab (λ bytes n p. p), tt))
  tc-rows TcForm.Ingress same = (stats-row TcForm.Ingress same, (listed-row At.Tc c At.TcStab (λ bytes n p. p), tt))
  tc-rows TcForm.Clsact same = (stats-row TcForm.Clsact same, (listed-row At.Tc c At.TcStab (λ bytes n p. p), tt))
  tc-rows TcForm.U32 same = (stats-row TcForm.U32 same, (listed-row At.Tc c At.TcStab (λ bytes n p. p), tt))
  tc-rows TcForm.Flower same = (stats-row TcForm.Flower same, (listed-row At.Tc c At.TcStab (λ bytes n p. p), tt))
  tc-rows TcForm.MatchAll same = (stats-row TcForm.MatchAll same, (listed-row At.Tc c At.TcStab (λ bytes n p. p), tt))
  tc-rows TcForm.Htb same = (stats-row TcForm.Htb same, (listed-row At.Tc c At.TcStab (λ bytes n p. p), tt))
  tc-rows TcForm.Tbf same = (stats-row TcForm.Tbf same, (listed-row At.Tc c At.TcStab (λ bytes n p. p), tt))
  tc-rows TcForm.Red same = (stats-row TcForm.Red same, (listed-row At.Tc c At.TcStab (λ bytes n p. p), tt))
  tc-rows TcForm.Fq same = (stats-row TcForm.Fq same, (listed-row At.Tc c At.TcStab (λ bytes n p. p), tt))
  tc-rows TcForm.Netem same = (stats-row TcForm.Netem same, (listed-row At.Tc c At.TcStab (λ bytes n p. p), tt))
  tc-rows TcForm.Prio same = (stats-row TcForm.Prio same, (listed-row At.Tc c At.TcStab (λ bytes n p. p), tt))
  tc-rows TcForm.Fifo same = (stats-row TcForm.Fifo same, (listed-row At.Tc c At.TcStab (λ bytes n p. p), tt))
  tc-rows TcForm.Fw same = (stats-row TcForm.Fw same, (listed-row At.Tc c At.TcStab (λ bytes n p. p), tt))
  tc-rows TcForm.Bpf same = (stats-row TcForm.Bpf same, (listed-row At.Tc c At.TcStab (λ bytes n p. p), tt))
  tc-rows TcForm.Sfq same = (stats-row TcForm.Sfq same, (listed-row At.Tc c At.TcStab (λ bytes n p. p), tt))
  tc-rows TcForm.Basic same = (stats-row TcForm.Basic same, (listed-row At.Tc c At.TcStab (λ bytes n p. p), tt))
  tc-rows TcForm.Cake same = (
    chosen-row At.Tc c OfXstats.held (OfXstats.case TcForm.Cake) At.TcCakeStat (listed-row At.Tc c At.TcCakeStat (λ bytes n p. p)),
    (stats-row TcForm.Cake same, (listed-row At.Tc c At.TcStab (λ bytes n p. p), tt)),
  )

  rest-nests : (form : TcForm) → c.tc ≡ form → Nests reading_of (Inner c) (Own At.Tc c) (OfTc.rest form)
  rest-nests form same = λ x.
      let rows = (OfTc.rows form).0 in
      in-rows reading_of (Inner c) (Own At.Tc c) (family_in OfTc.later rows) OfTc.later rows (number_of x.kind) x (tc-rows form same)

  -- what the bytes of data open, the data of the kind open
  DataRow : Kind → Type 0
  DataRow kept = Unit {0}
  DataRow (holding codec made is) = (x : Item) → Opened reading_of (Inner c) (Own At.Tc c) 2 codec.showing.form (codec.Reads x.value) (codec.Wrong place x.value) x.value

  kind-nests : (k : Kind) → DataRow k → Nests reading_of (Inner c) (Own At.Tc c) (said_by k)
  unfolding DataRow
  kind-nests kept row = λ x. tt
  kind-nests (holding {V} codec made is) row = λ x.
      let Has = λ (s : Said). (v : V) × codec.Reads x.value v × (s ≡ options (made v)) in
      opened-by reading_of (Inner c) (Own At.Tc c) (number_of x.kind) codec.showing.form (codec.Reads x.value) Has (codec.Wrong place x.value)
      (codec.Wrong place x.value) x.value (λ s p. (p.0, p.1)) (λ v p. (options (made v), (v, p, refl))) (λ e p. p) (row x)

  data-row : (form : TcForm) → DataRow (kind_of form)
  unfolding DataRow
  data-row TcForm.FqCodel = λ x. listed-row At.Tc c At.TcQdiscFqCodel (λ bytes n p. p) place x.value
  data-row TcForm.Ingress = λ x. listed-row At.Tc c At.TcQdiscIngress (λ bytes n p. p) place x.value
  data-row TcForm.Clsact = λ x. listed-row At.Tc c At.TcQdiscIngress (λ bytes n p. p) place x.value
  data-row TcForm.U32 = λ x. listed-row At.Tc c At.TcFilterU32 (λ bytes n p. p) place x.value
  data-row TcForm.Flower = λ x. listed-row At.Tc c At.TcFilterFlower (λ bytes n p. p) place x.value
  data-row TcForm.MatchAll = λ x. listed-row At.Tc c At.TcFilterMatchAll (λ bytes n p. p) place x.value
  data-row TcForm.Htb = λ x. listed-row At.Tc c At.TcQdiscHtb (λ bytes n p. p) place x.value
  data-row TcForm.Tbf = λ x. listed-row At.Tc c At.TcQdiscTbf (λ bytes n p. p) place x.value
  data-row TcForm.Red = λ x. listed-row At.Tc c At.TcQdiscRed (λ bytes n p. p) place x.value
  data-row TcForm.Fq = λ x. listed-row At.Tc c At.TcQdiscFq (λ bytes n p. p) place x.value
  data-row TcForm.Fw = λ x. listed-row At.Tc c At.TcFilterFw (λ bytes n p. p) place x.value
  data-row TcForm.Bpf = λ x. listed-row At.Tc c At.TcFilterBpf (λ bytes n p. p) place x.value
  data-row TcForm.Netem =
      λ x. headed-row At.Tc c OfNetemOption.family netem_qopt default_qopt At.TcQdiscNetem (λ bytes n is. ap reading_of is) place x.value
  data-row TcForm.Cake = λ x. listed-row At.Tc c At.TcQdiscCake (λ bytes n p. p) place x.value
  data-row TcForm.Basic = λ x. listed-row At.Tc c At.TcFilterBasic (λ bytes n p. p) place x.value
  data-row TcForm.Sfq = λ x. tt
  data-row TcForm.Prio = λ x. tt
  data-row TcForm.Fifo = λ x. tt
  data-row TcForm.Kept = tt

  pub tc-nests : Nests reading_of (Inner c) (Own At.Tc c) (OfTc.attributes c.tc)
  tc-nests =
      let form = c.tc in
      retold-nests reading_of (Inner c) (Own At.Tc c) (OfTc.reading form) (OfTc.told_form form) (OfTc.told-same form)
      (beside-nests reading_of (Inner c) (Own At.Tc c) 2 (said form) (OfTc.rest form) (OfTc.sides form) (kind-nests (kind_of form) (data-row form)) (rest-nests form refl))

  -- ---- of statistics

  stats2-rows : (form : TcForm) → NestRows reading_of (Inner c) (Own At.TcStats2 c) stats2_enum.parts (OfStats2.table form).rows
  stats2-rows TcForm.Kept = tt
  stats2-rows TcForm.FqCodel = tt
  stats2-rows TcForm.Ingress = tt
  stats2-rows TcForm.Clsact = tt
  stats2-rows TcForm.U32 = tt
  stats2-rows TcForm.Flower = tt
  stats2-rows TcForm.MatchAll = tt
  stats2-rows TcForm.Htb = tt
  stats2-rows TcForm.Tbf = tt
  stats2-rows TcForm.Red = tt
  stats2-rows TcForm.Fq = tt
  stats2-rows TcForm.Netem = tt
  stats2-rows TcForm.Prio = tt
  stats2-rows TcForm.Fifo = tt
  stats2-rows TcForm.Fw = tt
  stats2-rows TcForm.Bpf = tt
  stats2-rows TcForm.Sfq = tt
  stats2-rows TcForm.Basic = tt
  stats2-rows TcForm.Cake = (
    chosen-row At.TcStats2 c OfXstats.held (OfXstats.case TcForm.Cake) At.TcCakeStat (listed-row At.TcStats2 c At.TcCakeStat (λ bytes n p. p)),
    tt,
  )

  pub stats2-nests : Nests reading_of (Inner c) (Own At.TcStats2 c) (OfStats2.attributes c.tc)
  unfolding OfStats2.attributes
  stats2-nests = table-nests reading_of (Inner c) (Own At.TcStats2 c) (OfStats2.table c.tc) (stats2-rows c.tc)

  -- ---- of tins

  pub tins-nests : Nests reading_of (Inner c) (Own At.TcCakeTins c) OfTins.attributes
  tins-nests = λ x.
      let at = at_number At.TcCakeTins (number_of x.kind) in
      let faulty = OfTins.tin_stats.Wrong at x.value in
      opened-by reading_of (Inner c) (Own At.TcCakeTins c) (number_of x.kind) (Listed At.TcCakeTinStat 0) (OfTins.tin_stats.Reads x.value)
      (IsNumbered At.TcCakeTins OfTins.tin_stats x) faulty faulty x.value (λ n q. (n.value, q.1))
      (λ m p. (record { number = number_of x.kind; value = m }, (refl, p))) (λ e p. p)
      (listed-row At.TcCakeTins c At.TcCakeTinStat (λ bytes n p. p) at x.value)

  -- ---- of actions

  -- one, under the first kind in it
  action-row : (outer : AttributeSet) → ListRow reading_of (Inner c) (Own outer c) OfActions.action_list At.TcAction 0
  action-row outer = λ at bytes. record {
    down = λ n ms (form, governs, is) (other, also, p).
        let same = governs-one OfAction.tells Action.Kept bytes other form also governs in
        let reads = subst (λ (t : TcActionForm). ReadsList (OfAction.attributes t).Reads bytes ms) same p in
        subst (λ (m : Nest). IsListOf (reading_of m) bytes) (sym is) (ms, reads);
    up = λ n (form, governs, is) long list.
        let (ms, p) = subst (λ (m : Nest). IsListOf (reading_of m) bytes) is list in
        (ms, (form, governs, p));
    fault = λ n e (form, governs, is) long p.
        (form, governs, subst (λ (m : Nest). IsFaultOf (reading_of m) bytes e) is p);
    cut = λ short. absurd (omega (arith, short));
  }

  pub actions-nests : Nests reading_of (Inner c) (Own At.TcActions c) OfActions.attributes
  actions-nests = λ x.
      let at = at_number At.TcActions (number_of x.kind) in
      let faulty = OfActions.action_list.Wrong at x.value in
      opened-by reading_of (Inner c) (Own At.TcActions c) (number_of x.kind) (Listed At.TcAction 0) (OfActions.action_list.Reads x.value)
      (IsNumbered At.TcActions OfActions.action_list x) faulty faulty x.value (λ n q. (n.value, q.1))
      (λ m p. (record { number = number_of x.kind; value = m }, (refl, p))) (λ e p. p) (action-row At.TcActions at x.value)

  -- ---- of one action

  -- what it counts is under no kind of the message
  abbrev alone : Context
  alone = within At.TcAction c

  abbrev Counted : Type 0
  Counted = ListRow reading_of (Inner alone) (Own At.TcAction alone) (list_of At.TcStats2 (OfStats2.attributes TcForm.Kept)) At.TcStats2 0

  counted : Counted
  counted = listed-row At.TcAction alone At.TcStats2 (λ bytes n p. p)

  option-row : (form : TcActionForm) (set : AttributeSet) → ListRow reading_of (Inner alone) (Own At.TcAction alone) (OfOption.case form).codec set 0
      → ListRow reading_of (Inner alone) (Own At.TcAction alone) (OfOption.action_option form) set 0
  option-row form set row = chosen-row At.TcAction alone OfOption.held (OfOption.case form) set row

  action-rows : (form : TcActionForm) → NestRows reading_of (Inner alone) (Own At.TcAction alone) action_enum.parts (OfAction.table form).rows
  action-rows Action.Mirror = (option-row Action.Mirror At.TcActionMirror (listed-row At.TcAction alone At.TcActionMirror (λ bytes n p. p)), (counted, tt))
  action-rows Action.Nat = (option-row Action.Nat At.TcActionNat (listed-row At.TcAction alone At.TcActionNat (λ bytes n p. p)), (counted, tt))
  action-rows Action.TunnelKey = (option-row Action.TunnelKey At.TcActionTunnelKey (listed-row At.TcAction alone At.TcActionTunnelKey (λ bytes n p. p)), (counted, tt))
  action-rows Action.Gact = (option-row Action.Gact At.TcActionGact (listed-row At.TcAction alone At.TcActionGact (λ bytes n p. p)), (counted, tt))
  action-rows Action.Police = (option-row Action.Police At.TcActionPolice (listed-row At.TcAction alone At.TcActionPolice (λ bytes n p. p)), (counted, tt))
  action-rows Action.Vlan = (option-row Action.Vlan At.TcActionVlan (listed-row At.TcAction alone At.TcActionVlan (λ bytes n p. p)), (counted, tt))
  action-rows Action.Skbedit = (option-row Action.Skbedit At.TcActionSkbedit (listed-row At.TcAction alone At.TcActionSkbedit (λ bytes n p. p)), (counted, tt))
  action-rows Action.Csum = (option-row Action.Csum At.TcActionCsum (listed-row At.TcAction alone At.TcActionCsum (λ bytes n p. p)), (counted, tt))
  action-rows Action.Ct = (option-row Action.Ct At.TcActionCt (listed-row At.TcAction alone At.TcActionCt (λ bytes n p. p)), (counted, tt))
  action-rows Action.Sample = (option-row Action.Sample At.TcActionSample (listed-row At.TcAction alone At.TcActionSample (λ bytes n p. p)), (counted, tt))
  action-rows Action.Bpf = (option-row Action.Bpf At.TcActionBpf (listed-row At.TcAction alone At.TcActionBpf (λ bytes n p. p)), (counted, tt))
  action-rows Action.Pedit = (option-row Action.Pedit At.TcActionPedit (listed-row At.TcAction alone At.TcActionPedit (λ bytes n p. p)), (counted, tt))
  action-rows Action.Kept = (counted, tt)

  pub action-nests : Nests reading_of (Inner (within At.TcAction c)) (Own At.TcAction c) (OfAction.attributes c.tc_action)
  action-nests = table-nests reading_of (Inner alone) (Own At.TcAction alone) (OfAction.table c.tc_action) (action-rows c.tc_action)
