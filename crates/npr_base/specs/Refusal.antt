-- The names of refusals, as a program prints them.
use Rattle.std.specs.Prelude.{ℕ, List, codes}
use Rattle.npr_base.specs.declared.attribute_set.At.{At}
use Rattle.npr_base.specs.declared.attribute_set.AttributeSet.{AttributeSet}
use Rattle.npr_base.specs.declared.attribute_set.AttributeSet.TheVariants.{Value}
use Rattle.npr_base.specs.declared.refusal.DecodeError.{DecodeError}
use Rattle.npr_base.specs.declared.refusal.DecodeError.TheVariants.{OutOfMemory, HeaderTooShort, AttributeTooShort, AttributeLength, NextHopTooShort}
use Rattle.npr_base.specs.declared.refusal.DecodeError.TheVariants.{NextHopLength, ValueLength, NotUtf8, Seg6Header, GeneveOrder, GeneveChild, ViaFamily}
use Rattle.npr_base.specs.declared.refusal.DecodeError.TheVariants.{Unsupported}
use Rattle.npr_base.specs.declared.refusal.EmitError.{EmitError}
use Rattle.npr_base.specs.declared.refusal.EmitError.TheVariants.{TooLong, NextHopTooLong, TooManySegments, IpProtocol, Total}
use Rattle.npr_base.specs.declared.refusal.Seg6Fault.{Seg6Fault}
use Rattle.npr_base.specs.declared.refusal.Seg6Fault.TheVariants.{Short, Length, Hmac, Segments}

abbrev pub decode_name : DecodeError → List ℕ
decode_name OutOfMemory = codes "OutOfMemory"
decode_name (HeaderTooShort got want) = codes "HeaderTooShort"
decode_name (AttributeTooShort got) = codes "AttributeTooShort"
decode_name (AttributeLength length left) = codes "AttributeLength"
decode_name (NextHopTooShort got) = codes "NextHopTooShort"
decode_name (NextHopLength length left) = codes "NextHopLength"
decode_name (ValueLength at got) = codes "ValueLength"
decode_name (NotUtf8 at) = codes "NotUtf8"
decode_name (Seg6Header fault) = codes "Seg6Header"
decode_name (GeneveOrder kind) = codes "GeneveOrder"
decode_name (GeneveChild kind) = codes "GeneveChild"
decode_name (ViaFamily family) = codes "ViaFamily"
decode_name (Unsupported at) = codes "Unsupported"

abbrev pub emit_name : EmitError → List ℕ
emit_name (TooLong kind len) = codes "TooLong"
emit_name (NextHopTooLong len) = codes "NextHopTooLong"
emit_name (TooManySegments count) = codes "TooManySegments"
emit_name (IpProtocol number) = codes "IpProtocol"
emit_name Total = codes "Total"

-- what is wrong with a SEG6 routing header, as a text
abbrev pub seg6_text : Seg6Fault → List ℕ
seg6_text Short = codes "without its fixed part"
seg6_text Length = codes "of another length than it states"
seg6_text Hmac = codes "without room for its HMAC"
seg6_text Segments = codes "of segments that are not whole"

-- where a value stands: at a number of a set
abbrev pub at_number : AttributeSet → ℕ → At
at_number set number = record { set = set; number = number }

-- where one is read by itself
abbrev pub no_place : At
no_place = at_number Value 0
