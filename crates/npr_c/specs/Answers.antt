-- What a call for canonical bytes answers.
use Rattle.std.specs.Prelude.{◌≡◌, ℕ, List, Result, Ok, Err}
use Rattle.netlink_packet_route.specs.Canonical.{Fills}
use Rattle.netlink_packet_route.specs.Messages.{Grammar}
use Rattle.netlink_packet_route.specs.declared.CanonicalError.TheVariants.{Refused, Unfit}
use Rattle.netlink_packet_route.specs.declared.WriteCanonicalError.{WriteCanonicalError}
use Rattle.netlink_packet_route.specs.declared.WriteCanonicalError.TheVariants.{Canonical, BufferTooShort}
use Rattle.netlink_packet_route.specs.declared.framing.DecodeError.{DecodeError}
use Rattle.netlink_packet_route.specs.declared.framing.EmitError.{EmitError}
use Rattle.npr_c.specs.Numbers.{cause_number, refusal_number}
use Rattle.npr_c.specs.declared.answer.Answer.{Answer}

-- so many bytes are written
abbrev pub written_answer : ℕ → Answer
written_answer n = record { status = 0; number = 0; length = n }

-- the call is refused by this number
abbrev pub refused_by : ℕ → Answer
refused_by number = record { status = 1; number = number; length = 0 }

-- the bytes are refused
abbrev pub refused_answer : DecodeError → Answer
refused_answer e = refused_by (refusal_number e)

-- the message can't be written
abbrev pub unfit_answer : EmitError → Answer
unfit_answer e = record { status = 2; number = cause_number e; length = 0 }

-- so many bytes have no room
abbrev pub short_answer : ℕ → Answer
short_answer n = record { status = 3; number = 0; length = n }

-- the answer where a call of the library for canonical bytes answers this
abbrev pub answer_of : Result ℕ WriteCanonicalError → Answer
answer_of (Ok n) = written_answer n
answer_of (Err (Canonical (Refused e))) = refused_answer e
answer_of (Err (Canonical (Unfit cause))) = unfit_answer cause
answer_of (Err (BufferTooShort got want)) = short_answer want

-- the answer for bytes, and the buffer before and after it
abbrev pub Tells : {H A : Type 0} → Grammar H A → List ℕ → List ℕ → List ℕ → Answer → Type 0
Tells g bytes old new answer = (r : Result ℕ WriteCanonicalError) × Fills g bytes old new r × (answer ≡ answer_of r)
