-- Bytes with a first fault are no message.
use Rattle.std.specs.Prelude.{ℕ, List}
use Rattle.npr_base.proofs.Messages.{message-sound}
use Rattle.npr_base.specs.declared.refusal.DecodeError.{DecodeError}
use Rattle.npr_base.specs.Message.{Grammar, View, IsMessage, MessageFault}

pub fault-none : {H A : Type 0} (g : Grammar H A) (bytes : List ℕ) (e : DecodeError) (m : View g) → MessageFault g bytes e → IsMessage g bytes m → ⊥
fault-none g bytes e m bad is = message-sound g bytes m e bad is
