-- The children of which options of Geneve are made, as a family of attributes, with the laws of both directions.
use Rattle.std.proofs.Common.{◌≡◌, ◌+◌, ◌*◌, ◌^◌, ◌<◌, ◌≤◌, true, false, List, length, refl, ap, arith, true≢false}
use Rattle.std.specs.Prelude.{None}
use Rattle.npr_base.specs.declared.attribute_set.AttributeSet.TheVariants.{Geneve as OfGeneve}
use Rattle.npr_base.specs.declared.refusal.DecodeError.{DecodeError}
use Rattle.npr_base.specs.declared.value.Form.TheVariants.{Inside}
use Rattle.npr_base.specs.Codec.{Codec, exactly, raw}
use Rattle.npr_base.specs.Framing.{Item, Proper, IsBytes, framed}
use Rattle.npr_base.specs.Layout.{byte, be16}
use Rattle.npr_base.specs.ListCodec.{list_of}
use Rattle.npr_base.specs.lemmas.Looks.{none-most, none-saw}
use Rattle.npr_base.specs.Looking.{no_looking}
use Rattle.npr_base.specs.Refusal.{at_number}
use Rattle.npr_base.specs.Value.{is_inside}
use Rattle.npr_base.specs.Family.{Writing, Reading}
use Rattle.npr_encapsulation.specs.Geneve.{Child, class_child, type_child, data_child, child_item, ReadsChild}
use Rattle.npr_encapsulation.specs.Geneve.{WrongChild, class_length, type_length, order, child}

abbrev pub IsChild : Child → Type 0
IsChild (class_child n) = n < 2 ^ 16
IsChild (type_child n) = n < 2 ^ 8
IsChild (data_child d) = IsBytes d

pub child-one : (x : Item) (c d : Child) → ReadsChild x c → ReadsChild x d → c ≡ d
child-one x (class_child n) (class_child m) p q = ap class_child ((exactly be16).one_reading x.value n m p.1 q.1)
child-one x (type_child n) (type_child m) p q = ap type_child ((exactly byte).one_reading x.value n m p.1 q.1)
child-one x (data_child n) (data_child m) p q = ap data_child (raw.one_reading x.value n m p.1 q.1)
child-one x c d p q = absurd (omega (arith, p.0, q.0))

pub child-sound : (x : Item) (c : Child) (e : DecodeError) → ReadsChild x c → WrongChild true x e → ⊥
child-sound x (class_child n) f p (class_length e k w) = (exactly be16).no_fault (at_number OfGeneve 1) x.value n e p.1 w
child-sound x (type_child n) f p (type_length e k o w) = (exactly byte).no_fault (at_number OfGeneve 2) x.value n e p.1 w
child-sound x c f p (class_length e k w) = absurd (omega (arith, p.0, k))
child-sound x c f p (type_length e k o w) = absurd (omega (arith, p.0, k))
child-sound x c f p (order o k) = absurd (true≢false o)
child-sound x (class_child n) f p (child i j k) = i p.0
child-sound x (type_child n) f p (child i j k) = j p.0
child-sound x (data_child d) f p (child i j k) = k p.0

pub child-known : (x : Item) (c : Child) → Proper x → ReadsChild x c → IsChild c
child-known x (class_child n) proper p = (exactly be16).reads_holds x.value n proper.value p.1
child-known x (type_child n) proper p = (exactly byte).reads_holds x.value n proper.value p.1
child-known x (data_child d) proper p = raw.reads_holds x.value d proper.value p.1

pub child-kind : (c : Child) → (child_item c).kind < 2 ^ 16
child-kind (class_child n) = omega arith
child-kind (type_child n) = omega arith
child-kind (data_child d) = omega arith

pub child-back : (c : Child) → IsChild c → ReadsChild (child_item c) c
child-back (class_child n) h = (refl, (exactly be16).reads_back 1 n h refl)
child-back (type_child n) h = (refl, (exactly byte).reads_back 2 n h refl)
child-back (data_child d) h = (refl, raw.reads_back 3 d h refl)

pub child-grows : (x : Item) (c : Child) → Proper x → ReadsChild x c → 2 * framed (length (child_item c).value) ≤ 5 * (4 + length x.value)
child-grows x (class_child n) proper p = (exactly be16).grows x.value n proper.value p.1
child-grows x (type_child n) proper p = (exactly byte).grows x.value n proper.value p.1
child-grows x (data_child d) proper p = raw.grows x.value d proper.value p.1

-- nothing stands inside a child
abbrev pub child_writing : Writing Child
child_writing = record { shape = λ c. record { item = child_item c; nested = false; unfit = None }; members = λ c. 0 }

-- what they mean where an option is open; an option is read of several, by a reader of its own
abbrev pub child_reading : Reading child_writing
child_reading = record {
  Reads = ReadsChild;
  Faulty = WrongChild true;
  looks = no_looking;
  Coherent = IsChild;
  one_reading = child-one;
  no_fault = child-sound;
  reads_coherent = child-known;
  kinds = λ c h. child-kind c;
  reads_back = λ c h fits. child-back c h;
  grows = child-grows;
  bounded = λ x old new t. none-most (length x.value) old new t;
  saw = λ x c old new p t. none-saw old new t;
  seeing = record {
    form_at = λ k. (at_number OfGeneve k, Inside);
    sees = λ x c. is_inside x.value;
    shows = λ x s c p q. p;
    whole = λ x s whole p. absurd whole;
    wrong = λ x e p. absurd p;
  };
}

-- a list of them
abbrev pub children_list : Codec (List Child)
children_list = list_of OfGeneve child_reading
