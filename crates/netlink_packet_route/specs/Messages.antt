-- Messages of any kind: what bytes mean, what can be read, and the canonical bytes.
pub use Rattle.npr_base.specs.Message.{Message, Body, body_by, Grammar, grammar_of, grammar_by, Stored, View, view, IsMessageOf, IsCoherentOf}
pub use Rattle.npr_base.specs.Message.{IsMessage, MessageFault, MessageLooks, IsCoherent, canonical_bytes, message_unfit}
pub use Rattle.npr_base.specs.Message.{IsOfFamily, IsUnder, governs_by, none_searched}
