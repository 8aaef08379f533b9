-- What `==` answers of messages, and the lemmas on them.
use Rattle.std.specs.Prelude.{Bool, ◌&&◌}
use Rattle.std.specs.Cmp.Lexicographic.{pointwise}
use Rattle.std.proofs.Common.{ap}
use Rattle.npr_base.specs.Equality.{IsEquality, IsEqualityOf}
use Rattle.npr_base.specs.Message.{Grammar, Stored, View, view}
use Rattle.npr_base.proofs.MeaningLaws.{items_meaning}
use Rattle.npr_base.proofs.StructLaws.{and_decides, decides_as}
pub use Rattle.npr_base.specs.lemmas.Messages.{front_is, header_is, rest_reads, message_read, fault_after, fault_behind, message_list, looks_after}
pub use Rattle.npr_base.specs.lemmas.Messages.{message-looks-one, message-looks-add, message-one, message-sound, message-coherent, message-back}
pub use Rattle.npr_base.specs.lemmas.Messages.{message-canonical, message-grows, refused_no_message, ok_one, ok_coherent, ok_again, ok_grows}
pub use Rattle.npr_base.specs.lemmas.Messages.{message-deep, ok_deep, attributes_fit, list_fits, has_header, message-bounded, message-saw}

-- `==` of a message, from that of the header and of an attribute
pub message_equality : {H A : Type 0} {same_header : H → H → Bool} {same : A → A → Bool} (g : Grammar H A) → IsEquality same_header → IsEqualityOf g.meaning same
    → IsEqualityOf (view g) (λ (a b : Stored g). same_header a.header b.header && pointwise same a.attributes.items b.attributes.items)
message_equality {H} {A} g h k a b =
    decides_as
    (λ p. λ i. record { header = p.0 i; attributes = p.1 i })
    (λ e. (ap (λ (m : View g). m.header) e, ap (λ (m : View g). m.attributes) e))
    (and_decides (h a.header b.header) (items_meaning g.meaning k a.attributes b.attributes))
