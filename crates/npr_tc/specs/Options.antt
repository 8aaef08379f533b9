-- The data of a queueing discipline, a class or a filter (linux/rtnetlink.h, TCA_OPTIONS), by what governs the message: what its kind
-- has, or the attribute as it stands, with its kind.
use Rattle.std.specs.Prelude.{◌≡◌, ℕ, ◌<◌, ◌^◌, ◌==◌, true, List, map}
use Rattle.std.proofs.Common.{refl, ap, ◌∙◌, arith}
use Rattle.npr_base.specs.Beside.{has}
use Rattle.npr_base.specs.ByNumber.{valued, whole, valued-number, whole-written}
use Rattle.npr_base.specs.Codec.{Codec, leading, raw}
use Rattle.npr_base.specs.Counts.{Counts}
use Rattle.npr_base.specs.Family.{Writing, Reading, written_by}
use Rattle.npr_base.specs.Framing.{Item}
use Rattle.npr_base.specs.ListCodec.{list_of}
use Rattle.npr_base.specs.Looks.{TakesInside}
use Rattle.npr_base.specs.Message.{View}
use Rattle.npr_base.specs.Refusal.{at_number}
use Rattle.npr_base.specs.Table.{Slot, slot_plain, slot_other, writing_by}
use Rattle.npr_base.specs.declared.attribute_set.At.{At}
use Rattle.npr_base.specs.declared.attribute_set.AttributeSet.TheVariants as At
use Rattle.npr_base.specs.declared.refusal.DecodeError.{DecodeError}
use Rattle.npr_base.specs.declared.value.Form.{Form}
use Rattle.npr_base.specs.declared.value.Form.TheVariants.{Raw}
use Rattle.npr_tc_filters.specs.Basic as OfBasic
use Rattle.npr_tc_filters.specs.Bpf as OfBpf
use Rattle.npr_tc_filters.specs.Flower as OfFlower
use Rattle.npr_tc_filters.specs.Fw as OfFw
use Rattle.npr_tc_filters.specs.MatchAll as OfMatchAll
use Rattle.npr_tc_filters.specs.U32Option as OfU32
use Rattle.npr_tc_qdiscs.specs.Cake as OfCake
use Rattle.npr_tc_qdiscs.specs.Fq as OfFq
use Rattle.npr_tc_qdiscs.specs.FqCodel as OfFqCodel
use Rattle.npr_tc_qdiscs.specs.Htb as OfHtb
use Rattle.npr_tc_qdiscs.specs.Ingress as OfIngress
use Rattle.npr_tc_qdiscs.specs.Red as OfRed
use Rattle.npr_tc_qdiscs.specs.Tbf as OfTbf
use Rattle.npr_tc_qdiscs.specs.FifoQopt.{fifo_qopt}
use Rattle.npr_tc_qdiscs.specs.Netem.{netem, netem_of, netems}
use Rattle.npr_tc_qdiscs.specs.PrioQopt.{prio_qopt}
use Rattle.npr_tc_qdiscs.specs.declared.fifo_qopt.TcFifoQopt.{TcFifoQopt}
use Rattle.npr_tc_values.specs.declared.form.TcForm.{TcForm}
use Rattle.npr_tc_qdiscs.specs.declared.prio_qopt.TcPrioQopt.{TcPrioQopt}
use Rattle.npr_tc.specs.declared.option.TcOption.{TcOption}
use Rattle.npr_tc.specs.declared.option.TcOption.TheVariants as Has

-- data, without where they lie in memory
pub data Options : Type 0 where
  fq_codel : List OfFqCodel.family.Meaning → Options
  ingress : List OfIngress.family.Meaning → Options
  clsact : List OfIngress.family.Meaning → Options
  u32 : List OfU32.family.Meaning → Options
  flower : List OfFlower.family.Meaning → Options
  match_all : List OfMatchAll.family.Meaning → Options
  htb : List OfHtb.family.Meaning → Options
  tbf : List OfTbf.family.Meaning → Options
  red : List OfRed.family.Meaning → Options
  fq : List OfFq.family.Meaning → Options
  netem_data : View netems → Options
  prio : TcPrioQopt → Options
  fifo : TcFifoQopt → Options
  fw : List OfFw.family.Meaning → Options
  bpf : List OfBpf.family.Meaning → Options
  cake : List OfCake.family.Meaning → Options
  sfq : List ℕ → Options
  basic : List OfBasic.family.Meaning → Options

abbrev pub options_of : TcOption → Options
options_of (Has.FqCodel xs) = fq_codel (map OfFqCodel.family.meaning xs.items)
options_of (Has.Ingress xs) = ingress (map OfIngress.family.meaning xs.items)
options_of (Has.Clsact xs) = clsact (map OfIngress.family.meaning xs.items)
options_of (Has.U32 xs) = u32 (map OfU32.family.meaning xs.items)
options_of (Has.Flower xs) = flower (map OfFlower.family.meaning xs.items)
options_of (Has.MatchAll xs) = match_all (map OfMatchAll.family.meaning xs.items)
options_of (Has.Htb xs) = htb (map OfHtb.family.meaning xs.items)
options_of (Has.Tbf xs) = tbf (map OfTbf.family.meaning xs.items)
options_of (Has.Red xs) = red (map OfRed.family.meaning xs.items)
options_of (Has.Fq xs) = fq (map OfFq.family.meaning xs.items)
options_of (Has.Netem x) = netem_data (netem_of x)
options_of (Has.Prio x) = prio x
options_of (Has.Fifo x) = fifo x
options_of (Has.Fw xs) = fw (map OfFw.family.meaning xs.items)
options_of (Has.Bpf xs) = bpf (map OfBpf.family.meaning xs.items)
options_of (Has.Cake xs) = cake (map OfCake.family.meaning xs.items)
options_of (Has.Sfq x) = sfq x.bytes.items
options_of (Has.Basic xs) = basic (map OfBasic.family.meaning xs.items)

-- how they are written, whatever governs
abbrev pub options_slot : Options → Slot
options_slot (fq_codel x) = slot_plain 2 (list_of At.TcQdiscFqCodel OfFqCodel.attributes) x
options_slot (ingress x) = slot_plain 2 (list_of At.TcQdiscIngress OfIngress.attributes) x
options_slot (clsact x) = slot_plain 2 (list_of At.TcQdiscIngress OfIngress.attributes) x
options_slot (u32 x) = slot_plain 2 (list_of At.TcFilterU32 OfU32.attributes) x
options_slot (flower x) = slot_plain 2 (list_of At.TcFilterFlower OfFlower.attributes) x
options_slot (match_all x) = slot_plain 2 (list_of At.TcFilterMatchAll OfMatchAll.attributes) x
options_slot (htb x) = slot_plain 2 (list_of At.TcQdiscHtb OfHtb.attributes) x
options_slot (tbf x) = slot_plain 2 (list_of At.TcQdiscTbf OfTbf.attributes) x
options_slot (red x) = slot_plain 2 (list_of At.TcQdiscRed OfRed.attributes) x
options_slot (fq x) = slot_plain 2 (list_of At.TcQdiscFq OfFq.attributes) x
options_slot (netem_data x) = slot_plain 2 netem x
options_slot (prio x) = slot_plain 2 (leading prio_qopt) x
options_slot (fifo x) = slot_plain 2 (leading fifo_qopt) x
options_slot (fw x) = slot_plain 2 (list_of At.TcFilterFw OfFw.attributes) x
options_slot (bpf x) = slot_plain 2 (list_of At.TcFilterBpf OfBpf.attributes) x
options_slot (cake x) = slot_plain 2 (list_of At.TcQdiscCake OfCake.attributes) x
options_slot (sfq x) = slot_plain 2 raw x
options_slot (basic x) = slot_plain 2 (list_of At.TcFilterBasic OfBasic.attributes) x

-- what a kind has: its codec, and the data of it; or none
pub data Kind : Type 1 where
  kept : Kind
  holding : {V : Type 0} (codec : Codec V) (made : V → Options) → ((v : V) → options_slot (made v) ≡ slot_plain 2 codec v) → Kind

-- that of each form
abbrev pub kind_of : TcForm → Kind
kind_of TcForm.Kept = kept
kind_of TcForm.FqCodel = holding (list_of At.TcQdiscFqCodel OfFqCodel.attributes) fq_codel (λ x. refl)
kind_of TcForm.Ingress = holding (list_of At.TcQdiscIngress OfIngress.attributes) ingress (λ x. refl)
kind_of TcForm.Clsact = holding (list_of At.TcQdiscIngress OfIngress.attributes) clsact (λ x. refl)
kind_of TcForm.U32 = holding (list_of At.TcFilterU32 OfU32.attributes) u32 (λ x. refl)
kind_of TcForm.Flower = holding (list_of At.TcFilterFlower OfFlower.attributes) flower (λ x. refl)
kind_of TcForm.MatchAll = holding (list_of At.TcFilterMatchAll OfMatchAll.attributes) match_all (λ x. refl)
kind_of TcForm.Htb = holding (list_of At.TcQdiscHtb OfHtb.attributes) htb (λ x. refl)
kind_of TcForm.Tbf = holding (list_of At.TcQdiscTbf OfTbf.attributes) tbf (λ x. refl)
kind_of TcForm.Red = holding (list_of At.TcQdiscRed OfRed.attributes) red (λ x. refl)
kind_of TcForm.Fq = holding (list_of At.TcQdiscFq OfFq.attributes) fq (λ x. refl)
kind_of TcForm.Netem = holding netem netem_data (λ x. refl)
kind_of TcForm.Prio = holding (leading prio_qopt) prio (λ x. refl)
kind_of TcForm.Fifo = holding (leading fifo_qopt) fifo (λ x. refl)
kind_of TcForm.Fw = holding (list_of At.TcFilterFw OfFw.attributes) fw (λ x. refl)
kind_of TcForm.Bpf = holding (list_of At.TcFilterBpf OfBpf.attributes) bpf (λ x. refl)
kind_of TcForm.Cake = holding (list_of At.TcQdiscCake OfCake.attributes) cake (λ x. refl)
kind_of TcForm.Sfq = holding raw sfq (λ x. refl)
kind_of TcForm.Basic = holding (list_of At.TcFilterBasic OfBasic.attributes) basic (λ x. refl)

-- data that are read, or the attribute as it stands
pub data Said : Type 0 where
  options : Options → Said
  unknown : Item → Said

abbrev pub slot_of : Said → Slot
slot_of (options o) = options_slot o
slot_of (unknown x) = slot_other x

abbrev pub writing : Writing Said
writing = writing_by slot_of

abbrev pub place : At
place = at_number At.Tc 2

pub small : 2 < 2 ^ 16
small = omega arith

-- and read
abbrev pub said_by : Kind → Reading writing
said_by kept = whole slot_of place unknown (λ x. refl)
said_by (holding codec made is) = valued slot_of place 2 small codec (λ v. options (made v)) is

abbrev pub said : TcForm → Reading writing
said form = said_by (kind_of form)

-- without memory
abbrev pub shown_by : Kind → Form
shown_by kept = Raw
shown_by (holding codec made is) = codec.showing.form

abbrev pub shown_as : TcForm → Form
shown_as form = shown_by (kind_of form)

-- the bytes of data alone: what they are, what is wrong with them, and the looks that they take
abbrev pub AreData : Kind → List ℕ → Options → Type 0
AreData kept bytes o = ⊥
AreData (holding {V} codec made is) bytes o = (v : V) × codec.Reads bytes v × (o ≡ made v)

abbrev pub AreNoData : Kind → List ℕ → DecodeError → Type 0
AreNoData kept bytes e = ⊥
AreNoData (holding codec made is) bytes e = codec.Wrong place bytes e

abbrev pub TakesLooks : Kind → List ℕ → Counts → Counts → Type 0
TakesLooks kept bytes old new = ⊥
TakesLooks (holding codec made is) bytes old new = TakesInside codec.members.looks bytes old new

-- what is read of the number is written with it
number-kept : (k : Kind) (x : Item) (s : Said) → has 2 x ≡ true → (said_by k).Reads x s → has 2 (written_by writing s) ≡ true
number-kept kept x s same reads = ap (λ (y : Item). has 2 y) (whole-written slot_of place unknown (λ y. refl) s x reads) ∙ same
number-kept (holding codec made is) x s same reads =
    ap (λ (n : ℕ). n == 2) (valued-number slot_of place 2 small codec (λ v. options (made v)) is s x reads)

pub kept-number : (form : TcForm) (x : Item) (s : Said) → has 2 x ≡ true → (said form).Reads x s → has 2 (written_by writing s) ≡ true
kept-number form = number-kept (kind_of form)
