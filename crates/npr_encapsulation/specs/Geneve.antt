-- The options of Geneve (linux/lwtunnel.h, LWTUNNEL_IP_OPT_GENEVE_*): attributes, of which a class opens an option, and
-- types and data that follow it stand in that option.
use Rattle.std.specs.Prelude.{◌≡◌, ◌≢◌, ◌⊎◌, ℕ, ◌^◌, ◌<◌, Bool, true, false, List, [], ◌∷◌, ◌++◌, Option, None, codes, decimal}
use Rattle.npr_base.specs.declared.attribute_set.AttributeSet.TheVariants.{Geneve as OfGeneve}
use Rattle.npr_base.specs.declared.refusal.DecodeError.{DecodeError}
use Rattle.npr_base.specs.declared.refusal.DecodeError.TheVariants.{GeneveOrder, GeneveChild}
use Rattle.npr_base.specs.declared.refusal.EmitError.{EmitError}
use Rattle.npr_base.specs.Codec.{exactly, raw}
use Rattle.npr_base.specs.Lists.{ReadsList, ReadsTo, IsWrong, encodings, list_unfit, unfit_of}
use Rattle.npr_base.specs.Framing.{Item, IsBytes, number_of}
use Rattle.npr_base.specs.Layout.{byte, be16}
use Rattle.npr_base.specs.Refusal.{at_number}
use Rattle.npr_base.specs.Text.{hex_text}
use Rattle.npr_encapsulation.specs.declared.geneve.RouteGeneveOpt.{RouteGeneveOpt}

-- an option, without where it lies in memory
pub record Geneve : Type 0 where
  pub class : ℕ
  pub typ : ℕ
  pub opt_data : List ℕ

abbrev pub option_of : RouteGeneveOpt → Geneve
option_of o = record { class = o.class; typ = o.typ; opt_data = o.opt_data.items }

-- one attribute of the list
pub data Child : Type 0 where
  class_child : ℕ → Child
  type_child : ℕ → Child
  data_child : List ℕ → Child

-- what it means
abbrev pub ReadsChild : Item → Child → Type 0
ReadsChild x (class_child n) = (number_of x.kind ≡ 1) × (exactly be16).Reads x.value n
ReadsChild x (type_child n) = (number_of x.kind ≡ 2) × (exactly byte).Reads x.value n
ReadsChild x (data_child d) = (number_of x.kind ≡ 3) × raw.Reads x.value d

-- why it means nothing: it has the wrong length, it changes an option where none is open, or it has another number
pub data WrongChild (inside : Bool) (x : Item) : DecodeError → Type 0 where
  class_length : (e : DecodeError) → number_of x.kind ≡ 1 → (exactly be16).Wrong (at_number OfGeneve 1) x.value e → WrongChild inside x e
  type_length : (e : DecodeError) → number_of x.kind ≡ 2 → inside ≡ true → (exactly byte).Wrong (at_number OfGeneve 2) x.value e → WrongChild inside x e
  order : inside ≡ false → (number_of x.kind ≡ 2) ⊎ (number_of x.kind ≡ 3) → WrongChild inside x (GeneveOrder (number_of x.kind))
  child : number_of x.kind ≢ 1 → number_of x.kind ≢ 2 → number_of x.kind ≢ 3 → WrongChild inside x (GeneveChild (number_of x.kind))

-- an option of this class, before types and data
abbrev pub fresh : ℕ → Geneve
fresh n = record { class = n; typ = 0; opt_data = [] }

-- the options of children behind an open one: a class opens another, and a type and data overwrite what stands in the open one
abbrev pub options_behind : Geneve → List Child → List Geneve
options_behind o [] = o ∷ []
options_behind o (class_child n ∷ cs) = o ∷ options_behind (fresh n) cs
options_behind o (type_child n ∷ cs) = options_behind (record o { typ = n }) cs
options_behind o (data_child d ∷ cs) = options_behind (record o { opt_data = d }) cs

-- children are groups, each of which is an option: they are none, or begin with a class
abbrev pub AreGroups : List Child → List Geneve → Type 0
AreGroups [] os = os ≡ []
AreGroups (class_child n ∷ cs) os = os ≡ options_behind (fresh n) cs
AreGroups (c ∷ cs) os = ⊥

-- the bytes are the options
abbrev pub AreOptions : List ℕ → List Geneve → Type 0
AreOptions bytes os = (children : List Child) × ReadsList ReadsChild bytes children × AreGroups children os

-- an option is open behind the first child
abbrev pub is_open : List Child → Bool
is_open [] = false
is_open (c ∷ cs) = true

-- the first fault of bytes that are none: children that are options, and then what is wrong
abbrev pub OptionsFault : List ℕ → DecodeError → Type 0
OptionsFault bytes e =
    (children : List Child) × (os : List Geneve) × (rest : List ℕ) × ReadsTo ReadsChild bytes children rest
    × AreGroups children os × IsWrong (WrongChild (is_open children)) rest e

-- each option is written as its class, its type and its data
abbrev pub children_of : List Geneve → List Child
children_of [] = []
children_of (o ∷ os) = class_child o.class ∷ type_child o.typ ∷ data_child o.opt_data ∷ children_of os

abbrev pub child_item : Child → Item
child_item (class_child n) = record { kind = 1; value = (exactly be16).encode n }
child_item (type_child n) = record { kind = 2; value = (exactly byte).encode n }
child_item (data_child d) = record { kind = 3; value = d }

abbrev pub child_unfit : Child → Option EmitError
child_unfit c = unfit_of None (child_item c)

abbrev pub option_bytes : List Geneve → List ℕ
option_bytes os = encodings child_item (children_of os)

-- why an option can't be written, if so: its data are too long
abbrev pub option_unfit : Geneve → Option EmitError
option_unfit o = child_unfit (data_child o.opt_data)

-- and why the options can't
abbrev pub options_unfit : List Geneve → Option EmitError
options_unfit os = list_unfit child_unfit child_item (children_of os)

-- what can be read
pub record IsOption (o : Geneve) : Type 0 where
  pub class : o.class < 2 ^ 16
  pub typ : o.typ < 2 ^ 8
  pub opt_data : IsBytes o.opt_data

-- the text of an option
abbrev pub geneve_text : Geneve → List ℕ
geneve_text o = codes "geneve_opts " ++ decimal o.class ++ codes ":" ++ decimal o.typ ++ codes ":" ++ hex_text o.opt_data
