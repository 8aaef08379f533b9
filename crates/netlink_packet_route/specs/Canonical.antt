-- What a call for canonical bytes answers.
--     IsCanonical       the canonical bytes of the message that the bytes are
--     CanonicalFault    why there are none
--     Fills             both, where they are written to the front of a buffer
--     TakesMemory       a call for them as a vector may take memory
use Rattle.std.specs.Prelude.{◌≡◌, ◌≢◌, ◌⊎◌, ℕ, ◌<◌, ◌≤◌, List, length, drop, Option, Some, None, Result, Ok, Err}
use Rattle.npr_base.specs.Framing.{Item, Front, Writes}
use Rattle.npr_base.specs.Message.{Grammar, View, IsMessage, MessageFault, message_unfit, canonical_bytes}
use Rattle.npr_base.specs.declared.emit.WriteError.{WriteError}
use Rattle.npr_base.specs.declared.emit.WriteError.TheVariants as Unwritten
use Rattle.npr_base.specs.declared.refusal.DecodeError.TheVariants.{OutOfMemory}
use Rattle.npr_base.specs.declared.refusal.EmitError.{EmitError}
use Rattle.netlink_packet_route.specs.declared.canonical_bytes.CanonicalError.{CanonicalError}
use Rattle.netlink_packet_route.specs.declared.canonical_bytes.CanonicalError.TheVariants.{Refused, Unfit}
use Rattle.netlink_packet_route.specs.declared.canonical_bytes.WriteCanonicalError.{WriteCanonicalError}
use Rattle.netlink_packet_route.specs.declared.canonical_bytes.WriteCanonicalError.TheVariants.{Canonical, BufferTooShort}

-- the bytes are a message that can be written, with these canonical bytes
unfoldable pub IsCanonical : {H A : Type 0} → Grammar H A → List ℕ → List ℕ → Type 0
IsCanonical g bytes canonical = (m : View g) × IsMessage g bytes m × (message_unfit g m ≡ None) × (canonical ≡ canonical_bytes g m)

-- why there are none: the first fault of the bytes, or the first cause why the message that they are can't be written
unfoldable pub CanonicalFault : {H A : Type 0} → Grammar H A → List ℕ → CanonicalError → Type 0
CanonicalFault g bytes (Refused e) = MessageFault g bytes e
CanonicalFault g bytes (Unfit cause) = (m : View g) × IsMessage g bytes m × (message_unfit g m ≡ Some cause)

-- the answer of a call that writes them to the front of a buffer, which was `old` and is `new`: how many are written, or why nothing is
unfoldable pub Fills : {H A : Type 0} → Grammar H A → List ℕ → List ℕ → List ℕ → Result ℕ WriteCanonicalError → Type 0
Fills g bytes old new (Ok n) =
    (canonical : List ℕ) × IsCanonical g bytes canonical × (n ≡ length canonical) × (n ≤ length old) × Writes old new canonical
Fills g bytes old new (Err (Canonical e)) = (e ≢ Refused OutOfMemory → CanonicalFault g bytes e) × (new ≡ old)
Fills g bytes old new (Err (BufferTooShort got want)) =
    (canonical : List ℕ) × IsCanonical g bytes canonical × (got ≡ length old) × (want ≡ length canonical) × (got < want) × (new ≡ old)

-- a first attribute stands behind the header, or there are canonical bytes
unfoldable pub TakesMemory : {H A : Type 0} → Grammar H A → List ℕ → Type 0
TakesMemory g bytes =
    ((x : Item) × (rest : List ℕ) × Front (drop g.layout.size bytes) x rest) ⊎ ((canonical : List ℕ) × IsCanonical g bytes canonical)

-- why there are none, where a message that was read is not written
abbrev pub unwritten : WriteError → CanonicalError
unwritten Unwritten.OutOfMemory = Refused OutOfMemory
unwritten (Unwritten.Unfit cause) = Unfit cause

-- the answer of a call that writes a message with these canonical bytes, or a cause why there are none
abbrev pub Emits : Option EmitError → List ℕ → List ℕ → List ℕ → Result ℕ WriteCanonicalError → Type 0
Emits (Some cause) canonical old new result = (result ≡ Err (Canonical (Unfit cause))) × (new ≡ old)
Emits None canonical old new result =
    ((length canonical ≤ length old) × (result ≡ Ok (length canonical)) × Writes old new canonical)
    ⊎ ((length old < length canonical) × (result ≡ Err (BufferTooShort (length old) (length canonical))) × (new ≡ old))
