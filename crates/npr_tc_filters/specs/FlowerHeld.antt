-- What an attribute of a flower filter holds, without where it lies in memory, and when two hold the same.
--     Held, held_of    what a value holds
--     same_held        whether two hold the same
--     helds            what the field of each variant holds, in the order of the variants
--     tag_at           the kind that is written of an attribute, and 0 of one that no row has the number of
--     held_at          what it holds
--     same_option      whether two attributes are the same: what `==` answers
use Rattle.std.specs.Prelude.{ℕ, ◌==◌, ◌&&◌, Bool, false, List, [], ◌∷◌}
use Rattle.std.specs.Cmp.Lexicographic.{pointwise}
use Rattle.std.specs.Str.{bytes_eq}
use Rattle.std.specs.String.{string_bytes}
use Rattle.std.specs.declared.alloc.Global.{Global}
use Rattle.std.specs.declared.string.String.{String}
use Rattle.std.specs.declared.vec.Vec.{Vec}
use Rattle.std.proofs.Common.{inl, inr}
use Rattle.npr_base.specs.EnumTable.{VariantRows, kind_at, ◌also◌}
use Rattle.npr_base.specs.Framing.{Item}
use Rattle.npr_base.specs.ViewEquality.{same_bytes, same_item}
use Rattle.npr_base.specs.contracts.ip.Ipv4AddrPartialEq.TheImpl as Ipv4Eq
use Rattle.npr_base.specs.contracts.ip.Ipv6AddrPartialEq.TheImpl as Ipv6Eq
use Rattle.npr_tc_actions.specs.contracts.action.TcActionPartialEq.TheImpl as ActionEq
use Rattle.npr_tc_actions.specs.declared.action.TcAction.{TcAction}
use Rattle.npr_tc_actions.specs.contracts.enc_option.TcEncOptionPartialEq.TheImpl as EncEq
use Rattle.npr_tc_actions.specs.declared.enc_option.TcEncOption.{TcEncOption}
use Rattle.npr_tc_values.specs.contracts.handle.TcHandlePartialEq.TheImpl as HandleEq
use Rattle.npr_tc_values.specs.declared.handle.TcHandle.{TcHandle}
use Rattle.npr_tc_filters.specs.Flower.{table}
use Rattle.npr_tc_filters.specs.contracts.flower_cfm.TcFlowerCfmOptionPartialEq.TheImpl as CfmEq
use Rattle.npr_tc_filters.specs.contracts.flower_mpls.TcFilterFlowerMplsOptionPartialEq.TheImpl as MplsEq
use Rattle.npr_tc_filters.specs.contracts.flower_option.TcFilterFlowerOption.{enum}
use Rattle.npr_tc_filters.specs.declared.flower_cfm.TcFlowerCfmOption.{TcFlowerCfmOption}
use Rattle.npr_tc_filters.specs.declared.flower_mpls.TcFilterFlowerMplsOption.{TcFilterFlowerMplsOption}
use Rattle.npr_tc_filters.specs.declared.flower_option.TcFilterFlowerOption.{TcFilterFlowerOption}
use Rattle.npr_tc_filters.specs.declared.flower_value.FlowerValue.{FlowerValue}
use Rattle.npr_tc_filters.specs.declared.flower_value.FlowerValue.TheVariants as Of
use denote.Enum.Declared.{Choice}
use denote.Struct.Field.{Field}
use denote.Struct.Values.{Values}

pub data Held : Type 0 where
  byte : ℕ → Held
  little16 : ℕ → Held
  little32 : ℕ → Held
  big16 : ℕ → Held
  big32 : ℕ → Held
  address4 : List ℕ → Held
  address16 : List ℕ → Held
  six : List ℕ → Held
  sixteen : List ℕ → Held
  a_class : TcHandle → Held
  text : List ℕ → Held
  actions : List TcAction → Held
  labels : List TcFilterFlowerMplsOption → Held
  cfm : List TcFlowerCfmOption → Held
  options : List TcEncOption → Held
  other : Item → Held

abbrev pub held_of : FlowerValue → Held
held_of (Of.Byte x) = byte x
held_of (Of.Little16 x) = little16 x
held_of (Of.Little32 x) = little32 x
held_of (Of.Big16 x) = big16 x
held_of (Of.Big32 x) = big32 x
held_of (Of.Octets4 x) = address4 x
held_of (Of.Octets16 x) = address16 x
held_of (Of.Six x) = six x
held_of (Of.Sixteen x) = sixteen x
held_of (Of.Handle x) = a_class x
held_of (Of.Name x) = text (string_bytes x.now)
held_of (Of.Actions xs) = actions xs.now.items
held_of (Of.Mpls xs) = labels xs.now.items
held_of (Of.Cfm xs) = cfm xs.now.items
held_of (Of.Enc xs) = options xs.now.items
held_of (Of.Other x) = other x.now

-- by the tests of their types
abbrev pub same_held : Held → Held → Bool
same_held (byte x) (byte y) = x == y
same_held (little16 x) (little16 y) = x == y
same_held (little32 x) (little32 y) = x == y
same_held (big16 x) (big16 y) = x == y
same_held (big32 x) (big32 y) = x == y
same_held (address4 x) (address4 y) = Ipv4Eq.ghosts.eq x y
same_held (address16 x) (address16 y) = Ipv6Eq.ghosts.eq x y
same_held (six x) (six y) = same_bytes x y
same_held (sixteen x) (sixteen y) = same_bytes x y
same_held (a_class x) (a_class y) = HandleEq.ghosts.eq x y
same_held (text x) (text y) = bytes_eq x y
same_held (actions xs) (actions ys) = pointwise ActionEq.ghosts.eq xs ys
same_held (labels xs) (labels ys) = pointwise MplsEq.ghosts.eq xs ys
same_held (cfm xs) (cfm ys) = pointwise CfmEq.ghosts.eq xs ys
same_held (options xs) (options ys) = pointwise EncEq.ghosts.eq xs ys
same_held (other x) (other y) = same_item x y
same_held v w = false

-- ---- what the field of each variant holds

abbrev pub Helds : List (List Field) → Type 0
Helds [] = Unit {0}
Helds (Fs ∷ Fss) = (Values Fs → Held) × Helds Fss

abbrev pub held_in : (Fss : List (List Field)) → Helds Fss → Choice Fss → Held
held_in [] hs c = absurd c
held_in (Fs ∷ Fss) hs (inl x) = hs.0 x
held_in (Fs ∷ Fss) hs (inr c) = held_in Fss hs.1 c

-- in a variant of one field
abbrev of_field : {A : Type 0} → (A → Held) → A × Unit {0} → Held
of_field f x = f x.0

abbrev a_byte : ℕ × Unit {0} → Held
a_byte = of_field byte

abbrev a_little16 : ℕ × Unit {0} → Held
a_little16 = of_field little16

abbrev a_little32 : ℕ × Unit {0} → Held
a_little32 = of_field little32

abbrev a_big16 : ℕ × Unit {0} → Held
a_big16 = of_field big16

abbrev a_big32 : ℕ × Unit {0} → Held
a_big32 = of_field big32

abbrev an_address4 : List ℕ × Unit {0} → Held
an_address4 = of_field address4

abbrev an_address16 : List ℕ × Unit {0} → Held
an_address16 = of_field address16

abbrev a_six : List ℕ × Unit {0} → Held
a_six = of_field six

abbrev a_sixteen : List ℕ × Unit {0} → Held
a_sixteen = of_field sixteen

abbrev a_handle : TcHandle × Unit {0} → Held
a_handle = of_field a_class

abbrev a_name : String Global × Unit {0} → Held
a_name x = text (string_bytes x.0)

abbrev the_actions : Vec TcAction Global × Unit {0} → Held
the_actions x = actions x.0.items

abbrev the_labels : Vec TcFilterFlowerMplsOption Global × Unit {0} → Held
the_labels x = labels x.0.items

abbrev the_cfm : Vec TcFlowerCfmOption Global × Unit {0} → Held
the_cfm x = cfm x.0.items

abbrev the_options : Vec TcEncOption Global × Unit {0} → Held
the_options x = options x.0.items

abbrev an_other : Item × Unit {0} → Held
an_other = of_field other

abbrev pub helds : Helds enum.parts
helds =
    a_handle also a_name also the_actions also a_six also a_six also a_six also a_six also a_big16 also a_byte also an_address4 also an_address4 also
    an_address4 also an_address4 also an_address16 also an_address16 also an_address16 also an_address16 also a_big16 also a_big16 also a_big16 also
    a_big16 also a_little32 also a_little16 also a_byte also a_big16 also a_big32 also an_address4 also an_address4 also an_address4 also
    an_address4 also an_address16 also an_address16 also an_address16 also an_address16 also a_big16 also a_big16 also a_big16 also a_big16 also
    a_big16 also a_big16 also a_big16 also a_big16 also a_big16 also a_big16 also a_big16 also a_big16 also a_big32 also a_big32 also a_byte also
    a_byte also a_byte also a_byte also a_byte also a_byte also a_byte also a_byte also an_address4 also an_address4 also an_address4 also
    an_address4 also a_byte also a_byte also a_six also a_six also a_six also a_six also a_byte also a_byte also a_byte also a_little32 also
    a_big16 also a_big16 also a_byte also a_byte also a_byte also a_byte also a_little16 also a_byte also a_big16 also a_byte also a_byte also
    a_byte also a_byte also the_options also the_options also a_little32 also a_big16 also a_big16 also a_big16 also a_big16 also a_little16 also
    a_little16 also a_little16 also a_little16 also a_little32 also a_little32 also a_sixteen also a_sixteen also the_labels also a_little32 also
    a_little32 also a_byte also a_big16 also a_big16 also a_big32 also a_byte also the_cfm also a_big32 also a_big32 also a_big32 also a_big32 also
    an_other also tt

abbrev pub held_at : TcFilterFlowerOption → Held
held_at a = held_in enum.parts helds (enum.as_values a)

-- ---- by the kinds of the rows

abbrev pub tag_in : (Fss : List (List Field)) → VariantRows Fss → Choice Fss → ℕ
tag_in [] rows c = absurd c
tag_in (Fs ∷ []) rows c = 0
tag_in (Fs ∷ Gs ∷ Fss) rows (inl x) = kind_at rows.0
tag_in (Fs ∷ Gs ∷ Fss) rows (inr c) = tag_in (Gs ∷ Fss) rows.1 c

abbrev pub tag_at : TcFilterFlowerOption → ℕ
tag_at a = tag_in enum.parts table.rows (enum.as_values a)

abbrev pub same_option : TcFilterFlowerOption → TcFilterFlowerOption → Bool
same_option a b = (tag_at a == tag_at b) && same_held (held_at a) (held_at b)
