-- What an attribute of a flower filter holds, and what is written of it.
--     held_bytes       the bytes that are written
--     held_unfit       why there are none, if so
--     kind_of          the kind that is written, by that of the row
--     shape_of         what is written by it
use Rattle.std.specs.Prelude.{ℕ, List, Option, None, false, map}
use Rattle.std.specs.String.{string_bytes}
use Rattle.npr_base.specs.Family.{Shape}
use Rattle.npr_base.specs.Tables.{byte, le16, le32, be16, be32, octets, octets4, octets16, name, list_of}
use Rattle.npr_base.specs.declared.attribute_set.AttributeSet.TheVariants.{TcFilterFlowerMpls as AtMpls, TcActions as AtActions}
use Rattle.npr_base.specs.declared.attribute_set.AttributeSet.TheVariants.{TcFlowerCfm as AtCfm, TcEnc as AtEnc}
use Rattle.npr_base.specs.declared.refusal.EmitError.{EmitError}
use Rattle.npr_tc_actions.specs.Action as OfAction
use Rattle.npr_tc_actions.specs.EncOption as OfEnc
use Rattle.npr_tc_values.specs.Handle.{handle}
use Rattle.npr_tc_filters.specs.FlowerCfm as OfCfm
use Rattle.npr_tc_filters.specs.FlowerMpls as OfMpls
use Rattle.npr_tc_filters.specs.declared.flower_value.FlowerValue.{FlowerValue}
use Rattle.npr_tc_filters.specs.declared.flower_value.FlowerValue.TheVariants as Of

abbrev pub held_bytes : FlowerValue → List ℕ
held_bytes (Of.Byte x) = byte.encode x
held_bytes (Of.Little16 x) = le16.encode x
held_bytes (Of.Little32 x) = le32.encode x
held_bytes (Of.Big16 x) = be16.encode x
held_bytes (Of.Big32 x) = be32.encode x
held_bytes (Of.Octets4 x) = octets4.encode x
held_bytes (Of.Octets16 x) = octets16.encode x
held_bytes (Of.Six x) = (octets 6).encode x
held_bytes (Of.Sixteen x) = (octets 16).encode x
held_bytes (Of.Handle x) = handle.encode x
held_bytes (Of.Name x) = name.encode (string_bytes x.now)
held_bytes (Of.Actions xs) = (list_of AtActions OfAction.attributes).encode (map OfAction.family.meaning xs.now.items)
held_bytes (Of.Mpls xs) = (list_of AtMpls OfMpls.attributes).encode (map OfMpls.family.meaning xs.now.items)
held_bytes (Of.Cfm xs) = (list_of AtCfm OfCfm.attributes).encode (map OfCfm.family.meaning xs.now.items)
held_bytes (Of.Enc xs) = (list_of AtEnc OfEnc.attributes).encode (map OfEnc.family.meaning xs.now.items)
held_bytes (Of.Other x) = x.now.value

abbrev pub held_unfit : FlowerValue → Option EmitError
held_unfit (Of.Actions xs) = (list_of AtActions OfAction.attributes).unfit 0 (map OfAction.family.meaning xs.now.items)
held_unfit (Of.Mpls xs) = (list_of AtMpls OfMpls.attributes).unfit 0 (map OfMpls.family.meaning xs.now.items)
held_unfit (Of.Cfm xs) = (list_of AtCfm OfCfm.attributes).unfit 0 (map OfCfm.family.meaning xs.now.items)
held_unfit (Of.Enc xs) = (list_of AtEnc OfEnc.attributes).unfit 0 (map OfEnc.family.meaning xs.now.items)
held_unfit v = None

-- of an attribute that no row has the number of, its own
abbrev pub kind_of : ℕ → FlowerValue → ℕ
kind_of tag (Of.Other x) = x.now.kind
kind_of tag v = tag

abbrev pub shape_of : ℕ → FlowerValue → Shape
shape_of tag v = record { item = record { kind = kind_of tag v; value = held_bytes v }; nested = false; unfit = held_unfit v }
