-- A header and attributes of one set to the end, as the value of an attribute: the attributes rest on nothing but their own bytes.
--     value_grammar                 what the bytes are
--     value_bytes, value_unfit      what is written, and why it can't be
--     message_value                 how it is read and written, with the laws
use Rattle.std.proofs.Common.{ℕ, ◌≡◌, ◌+◌, ◌*◌, ◌≤◌, List, ◌++◌, length, Option, None, inl, inr, arith, ap, length-append}
use Rattle.npr_base.specs.Codec.{Codec}
use Rattle.npr_base.specs.Counts.{Counts, AddsAtMost}
use Rattle.npr_base.specs.declared.attribute_set.AttributeSet.{AttributeSet}
use Rattle.npr_base.specs.declared.refusal.EmitError.{EmitError}
use Rattle.npr_base.specs.Family.{Family, written_by, unfit_by}
use Rattle.npr_base.specs.Framing.{IsBytes, framed}
use Rattle.npr_base.specs.Layout.{Layout}
use Rattle.npr_base.specs.Lists.{encodings, first_unfit, list_members, option_or, overlong}
use Rattle.npr_base.specs.Looks.{Looking, looked_through}
use Rattle.npr_base.specs.Message.{Grammar, View, grammar_by, IsMessage, MessageFault, MessageLooks, IsCoherent, canonical_bytes, message_unfit}
use Rattle.npr_base.specs.Showing.{shows_list}
use Rattle.npr_base.specs.lemmas.LookBounds.{list-bounded}
use Rattle.npr_base.specs.lemmas.Looks.{none-most}
use Rattle.npr_base.specs.lemmas.Messages.{message-one, message-sound, message-coherent, message-back, message-grows, message-saw}
use Rattle.npr_base.specs.lemmas.Messages.{message-looks-one, message-looks-add}

module _ {H A : Type 0} (f : Family A (Unit {0})) (L : Layout H) (standard : H) where
  abbrev pub value_grammar : Grammar H A
  value_grammar = grammar_by f L standard (λ h. tt)

  -- the looks behind its header
  abbrev pub value_looking : Looking (List ℕ)
  value_looking = record { Takes = MessageLooks value_grammar; one = message-looks-one value_grammar; adds = message-looks-add value_grammar }

  pub value-bounded : (bytes : List ℕ) (old new : Counts) → MessageLooks value_grammar bytes old new → AddsAtMost old new (length bytes)
  unfolding MessageLooks
  value-bounded bytes old new (inl (short, p)) = none-most (length bytes) old new p
  value-bounded bytes old new (inr (front, rest, is, size, t)) =
      let a = list-bounded (f.reading tt) rest old new t in
      let n : length rest ≤ length bytes = omega (arith, ap length is, length-append front rest) in
      record { kept = a.kept; successful = omega (arith, a.successful, n); failed_kept = a.failed_kept; failed = omega (arith, a.failed, n) }

  -- what is written, and why it can't be, if so: the first attribute that can't, or a length that no usize holds
  abbrev pub value_bytes : View value_grammar → List ℕ
  value_bytes m = L.encode m.header ++ encodings (written_by f.writing) m.attributes

  abbrev pub value_unfit : View value_grammar → Option EmitError
  value_unfit m = option_or (first_unfit (unfit_by f.writing) m.attributes) (overlong (length (value_bytes m)))

  pub value-back : (m : View value_grammar) → IsCoherent value_grammar m → value_unfit m ≡ None → IsMessage value_grammar (value_bytes m) m
  unfolding canonical_bytes message_unfit
  value-back m holds fits = message-back value_grammar m holds fits

  pub value-grows : (bytes : List ℕ) (m : View value_grammar) → IsBytes bytes → IsMessage value_grammar bytes m
      → 2 * framed (length (value_bytes m)) ≤ 5 * (4 + length bytes)
  unfolding canonical_bytes
  value-grows bytes m is reads = omega (arith, message-grows value_grammar bytes m is reads)

  abbrev pub message_value : AttributeSet → Codec (View value_grammar)
  message_value set = record {
    Reads = IsMessage value_grammar;
    Wrong = λ at bytes e. MessageFault value_grammar bytes e;
    encode = value_bytes;
    unfit = λ kind m. value_unfit m;
    Holds = IsCoherent value_grammar;
    members = record {
      count = λ m. list_members f.writing.members m.attributes;
      looks = looked_through value_looking;
      bounded = value-bounded;
      saw = λ bytes m old new reads t. message-saw value_grammar bytes m old new reads t;
    };
    one_reading = message-one value_grammar;
    no_fault = λ at bytes m e reads bad. message-sound value_grammar bytes m e bad reads;
    reads_holds = λ bytes m is reads. message-coherent value_grammar bytes m is reads;
    reads_back = λ kind m holds fits. value-back m holds fits;
    grows = value-grows;
    showing = shows_list set L.size;
  }
