-- What is told of refusals: the attribute by its name, and lengths.
use Rattle.std.specs.Prelude.{◌≡◌, ◌⊎◌, ℕ, List, ◌++◌, length, Option, Some, None, codes, decimal}
use Rattle.npr_base.specs.Framing.{Item, Front, number_of}
use Rattle.npr_base.specs.declared.attribute_set.At.{At}
use Rattle.npr_base.specs.declared.attribute_set.AttributeSet.TheVariants.{Geneve}
use Rattle.npr_base.specs.declared.refusal.DecodeError.{DecodeError}
use Rattle.npr_base.specs.declared.refusal.DecodeError.TheVariants.{ValueLength, NotUtf8, Unsupported, GeneveOrder, GeneveChild}
use Rattle.npr_base.specs.declared.value.Form.{Form}
use Rattle.npr_base.specs.declared.value.Form.TheVariants.{Byte, Boolean, Little16, Big16, Signed32, Signed64, Little32, Big32, Octets4, Little64, Big64}
use Rattle.npr_base.specs.declared.value.Form.TheVariants.{Octets16, Uint, Flag, Ip, Exactly}
use Rattle.npr_base.specs.Value.{Shown, Shows}
use Rattle.npr_names.specs.Names.{name_at}

abbrev pub text_by_name : Option (List ℕ) → ℕ → List ℕ
text_by_name (Some name) number = name ++ codes " (" ++ decimal number ++ codes ")"
text_by_name None number = codes "attribute " ++ decimal number

-- an attribute as a text: IFLA_MTU (4)
abbrev pub named_text : At → List ℕ
named_text at = text_by_name (name_at at.set at.number) at.number

-- the lengths of a value that is read so: one, or two that are told apart; none where it may have more
abbrev pub lengths_told : Form → Option (ℕ × ℕ)
lengths_told Byte = Some (1, 1)
lengths_told Boolean = Some (1, 1)
lengths_told Little16 = Some (2, 2)
lengths_told Big16 = Some (2, 2)
lengths_told Signed32 = Some (4, 4)
lengths_told Little32 = Some (4, 4)
lengths_told Big32 = Some (4, 4)
lengths_told Octets4 = Some (4, 4)
lengths_told Signed64 = Some (8, 8)
lengths_told Little64 = Some (8, 8)
lengths_told Big64 = Some (8, 8)
lengths_told Octets16 = Some (16, 16)
lengths_told Uint = Some (4, 8)
lengths_told Flag = Some (0, 1)
lengths_told Ip = Some (4, 16)
lengths_told (Exactly size) = Some (size, size)
lengths_told _ = None

-- each value that is read so has one of two lengths
abbrev pub HasEither : Form → ℕ → ℕ → Type 0
HasEither form least most = (value : List ℕ) (s : Shown) → Shows form value s → (length value ≡ least) ⊎ (length value ≡ most)

-- an attribute of this number stands in front
abbrev pub Fronts : List ℕ → ℕ → Type 0
Fronts bytes number = (item : Item) × (rest : List ℕ) × Front bytes item rest × (number_of item.kind ≡ number)

-- the attribute that a refusal tells
abbrev pub told_of : DecodeError → Option At
told_of (ValueLength at got) = Some at
told_of (NotUtf8 at) = Some at
told_of (Unsupported at) = Some at
told_of (GeneveOrder kind) = Some (record { set = Geneve; number = kind })
told_of (GeneveChild kind) = Some (record { set = Geneve; number = kind })
told_of _ = None
