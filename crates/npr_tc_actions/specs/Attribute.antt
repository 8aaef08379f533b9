-- The attributes of an action (linux/pkt_cls.h, TCA_ACT_*), by their table under the kind that governs the list: the options are read by
-- the first TCA_ACT_KIND beside them, wherever that stands, without one final zero.
use Rattle.std.specs.Prelude.{◌==◌}
use Rattle.std.proofs.Common.{◌≡◌, ℕ, List, Option, Some, None, inl, inr, refl, ap}
use Rattle.npr_base.specs.declared.attribute_set.AttributeSet.TheVariants.{TcAction as AtTcAction, TcStats2 as AtStats2}
use Rattle.npr_base.specs.EnumFamily.{rewritten}
use Rattle.npr_base.specs.Family.{Writing, Reading, Family}
use Rattle.npr_base.specs.Framing.{Item, number_of}
use Rattle.npr_base.specs.lemmas.Bool.{one_of}
use Rattle.npr_base.specs.Tables.{EnumTable, table_of, row, marked_row, others, ◌or◌, value, text, items, seen, listed, exactly, raw, le32, list_of, name}
use Rattle.npr_base.specs.Tables.{Meanings, writing_of, attributes_of, family_of_table}
use Rattle.npr_base.specs.NameText.{IsName}
use Rattle.npr_base.specs.Unterminated.{told_by, name_is}
use Rattle.npr_tc_values.specs.Bitfield.{bitfield}
use Rattle.npr_tc_values.specs.Stats2 as OfStats2
use Rattle.npr_tc_values.specs.declared.form.TcForm.TheVariants.{Kept as NoData}
use Rattle.npr_tc_actions.specs.ActionOption.{action_option, action_option_of}
use Rattle.npr_tc_actions.specs.contracts.attribute.TcActionAttribute.{enum}
use Rattle.npr_tc_actions.specs.declared.attribute.TcActionAttribute.{TcActionAttribute}
use Rattle.npr_tc_actions.specs.declared.form.TcActionForm.{TcActionForm}
use Rattle.npr_tc_actions.specs.declared.form.TcActionForm.TheVariants.{Kept}
use Rattle.npr_tc_actions.specs.Form.{form_named}

-- the table, in the order of the variants; an action has no statistics of its own
abbrev pub table : TcActionForm → EnumTable enum
table form =
    table_of enum (
    row AtTcAction 1 name (text TcActionAttribute.Kind)  -- TCA_ACT_KIND
    or marked_row AtTcAction 2 (action_option form) (seen action_option_of TcActionAttribute.Options)  -- TCA_ACT_OPTIONS
    or row AtTcAction 3 (exactly le32) (value TcActionAttribute.Index)  -- TCA_ACT_INDEX
    or row AtTcAction 4 (list_of AtStats2 (OfStats2.attributes NoData)) (listed OfStats2.family.meaning TcActionAttribute.Stats)  -- TCA_ACT_STATS
    or row AtTcAction 6 raw (items TcActionAttribute.Cookie)  -- TCA_ACT_COOKIE
    or row AtTcAction 7 (exactly bitfield) (value TcActionAttribute.Flags)  -- TCA_ACT_FLAGS
    or row AtTcAction 8 (exactly bitfield) (value TcActionAttribute.HwStats)  -- TCA_ACT_HW_STATS
    or row AtTcAction 9 (exactly bitfield) (value TcActionAttribute.UsedHwStats)  -- TCA_ACT_USED_HW_STATS
    or row AtTcAction 10 (exactly le32) (value TcActionAttribute.InHwCount)  -- TCA_ACT_IN_HW_COUNT
    or others (value TcActionAttribute.Other)) refl refl

-- what an attribute is, without where it lies in memory
abbrev pub Meaning : Type 0
Meaning = Meanings (table Kept)

-- how each is written, whatever governs
abbrev pub writing : Writing Meaning
writing = writing_of (table Kept)

pub shapes : (form : TcActionForm) (m : Meaning) → writing.shape m ≡ (writing_of (table form)).shape m
shapes form (inl kind) = refl
shapes form (inr (inl options)) = refl
shapes form (inr (inr m)) = refl

pub members : (form : TcActionForm) (m : Meaning) → writing.members m ≡ (writing_of (table form)).members m
members form (inl kind) = refl
members form (inr (inl options)) = refl
members form (inr (inr m)) = refl

-- the family, under what governs the list
abbrev pub attributes : TcActionForm → Reading writing
attributes form = rewritten (attributes_of (table form)) writing (shapes form) (members form)

abbrev pub family : Family TcActionAttribute TcActionForm
family = family_of_table (table Kept) attributes

-- ---- what governs

abbrev pub tells : Item → Option TcActionForm
tells x = told_by 1 form_named x

abbrev pub told : Meaning → Option TcActionForm
told (inl kind) = Some (form_named kind)
told m = None

pub alike : (form : TcActionForm) (x : Item) (m : Meaning) → (attributes form).Reads x m → tells x ≡ told m
alike form x (inl kind) reads = one_of (number_of x.kind == 1)
    (λ e (p : IsName x.value kind). rw e (ap (λ (w : List ℕ). Some (form_named w)) (name_is x.value kind p.1))) (λ e none. absurd none) reads
alike form x (inr m) reads = one_of (number_of x.kind == 1) (λ e none. absurd none) (λ e p. rw e refl) reads
