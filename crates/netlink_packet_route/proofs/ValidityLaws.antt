-- A message is its header and the list behind it.
use Rattle.std.specs.Prelude.{◌≡◌, ℕ, ◌<◌, List, length, take, drop}
use Rattle.std.proofs.Common.{sym, subst, inl, inr}
use Rattle.std.proofs.lemmas.List.{length-take-le, take-append-drop}
use Rattle.npr_base.specs.Message.{View, IsMessage, MessageFault}
use Rattle.npr_base.specs.Nesting.{AnyReading, any_reading, IsListOf, IsFaultOf}
use Rattle.npr_base.specs.declared.refusal.DecodeError.{DecodeError}
use Rattle.npr_base.specs.declared.refusal.DecodeError.TheVariants.{HeaderTooShort}
use Rattle.netlink_packet_route.specs.NestLists.{IsListAt, ListFaultAt}
use Rattle.netlink_packet_route.specs.MessageKind.{Form, BeginsBy}
use Rattle.netlink_packet_route.specs.Nests.{reading_of}
use Rattle.netlink_packet_route.specs.declared.nests.Nest.{Nest}

module _ (form : Form) (bytes rest : List ℕ) (nest : Nest) (begins : BeginsBy form bytes nest rest) where
  -- what the list is named means what the kind's attributes do
  pub begun-reading : reading_of nest ≡ any_reading (form.family.reading begins.context)
  begun-reading = subst (λ (n : Nest). reading_of n ≡ any_reading (form.family.reading begins.context)) (sym begins.names) (form.named begins.context)

  pub begun-message : IsListAt nest rest → (m : View form.grammar) × IsMessage form.grammar bytes m
  unfolding IsMessage
  begun-message list =
      let size = form.grammar.layout.size in
      let all = subst (λ (r : AnyReading). IsListOf r rest) begun-reading list in
      let (ms, reads) = form.reads begins.header rest begins.context begins.governs all in (
        record { header = begins.header; attributes = ms },
        record {
          front = take size bytes;
          rest = drop size bytes;
          is = sym (take-append-drop size bytes);
          size = length-take-le size bytes begins.reads.0;
          header = begins.reads.1;
          attributes = subst (λ (b : List ℕ). form.grammar.body.Reads begins.header b ms) begins.is reads;
        },
      )

  pub begun-fault : (e : DecodeError) → ListFaultAt nest rest e → MessageFault form.grammar bytes e
  unfolding MessageFault
  begun-fault e bad =
      let size = form.grammar.layout.size in
      let first = subst (λ (r : AnyReading). IsFaultOf r rest e) begun-reading bad in
      let wrong = form.faulty begins.header rest begins.context e begins.governs first in
      let there = subst (λ (b : List ℕ). form.grammar.body.Faulty begins.header b e) begins.is wrong in
      let read = subst (λ (h : form.Header). form.grammar.body.Faulty h (drop size bytes) e) begins.reads.1 there in
      inr (take size bytes, drop size bytes, sym (take-append-drop size bytes), length-take-le size bytes begins.reads.0, read)

pub begun-short : (form : Form) (bytes : List ℕ) (e : DecodeError) → length bytes < form.grammar.layout.size
    → e ≡ HeaderTooShort (length bytes) form.grammar.layout.size → MessageFault form.grammar bytes e
unfolding MessageFault
begun-short form bytes e short is = inl (short, is)
