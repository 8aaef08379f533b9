-- Bytes have one canonical form at most, and none where there is a fault.
use Rattle.std.specs.Prelude.{◌≢◌, IfErr, IfOk, Option, Some, None}
use Rattle.std.proofs.Common.{◌≡◌, ℕ, ◌≤◌, List, [], ◌∷◌, length, drop, map, Result, Ok, Err, refl, sym, ap, ◌∙◌, arith, inl, inr, length-append}
use Rattle.std.proofs.lemmas.List.{drop_at}
use Rattle.npr_base.proofs.Messages.{message-one, message-sound, message-coherent, attributes_fit}
use Rattle.npr_base.specs.Family.{Writing, Reading, fits-small, unfit_by, written_by}
use Rattle.npr_base.specs.lemmas.Fit.{none_both}
use Rattle.npr_base.specs.Framing.{IsBytes, Writes, Cut}
use Rattle.npr_base.specs.lemmas.List.{encoding-front}
use Rattle.npr_base.specs.Lists.{AllOf, encodings, first_unfit}
use Rattle.npr_base.specs.Message.{Grammar, View, IsMessage, IsCoherent, canonical_bytes, message_unfit}
use Rattle.npr_base.specs.declared.emit.WriteError.{WriteError}
use Rattle.npr_base.specs.declared.emit.WriteError.TheVariants as Unwritten
use Rattle.npr_base.specs.declared.refusal.DecodeError.TheVariants.{OutOfMemory}
use Rattle.npr_base.specs.declared.refusal.EmitError.{EmitError}
use Rattle.netlink_packet_route.specs.Canonical.{CanonicalFault, Emits, Fills, IsCanonical, unwritten}
use Rattle.netlink_packet_route.specs.declared.canonical_bytes.CanonicalError.{CanonicalError}
use Rattle.netlink_packet_route.specs.declared.canonical_bytes.CanonicalError.TheVariants.{Refused, Unfit}
use Rattle.netlink_packet_route.specs.declared.canonical_bytes.WriteCanonicalError.{WriteCanonicalError}
use Rattle.netlink_packet_route.specs.declared.canonical_bytes.WriteCanonicalError.TheVariants.{Canonical}

module _ {H A : Type 0} (g : Grammar H A) (bytes : List ℕ) where
  pub canonical-one : (a b : List ℕ) → IsCanonical g bytes a → IsCanonical g bytes b → a ≡ b
  unfolding IsCanonical
  canonical-one a b (m, p, fits, is) (n, q, fit, same) = is ∙ ap (canonical_bytes g) (message-one g bytes m n p q) ∙ sym same

  pub canonical-none : (e : CanonicalError) (a : List ℕ) → CanonicalFault g bytes e → IsCanonical g bytes a → ⊥
  unfolding IsCanonical CanonicalFault
  canonical-none (Refused e) a bad (m, p, fits, is) = message-sound g bytes m e bad p
  canonical-none (Unfit cause) a (n, q, unfit) (m, p, fits, is) =
      let same : None ≡ Some cause = sym fits ∙ ap (message_unfit g) (message-one g bytes m n p q) ∙ unfit in
      cc

  -- what is written of a message that the bytes are
  pub emits-fills : (m : View g) (unfit : Option EmitError) (old new : List ℕ) (r : Result ℕ WriteCanonicalError) → IsMessage g bytes m
      → message_unfit g m ≡ unfit → Emits unfit (canonical_bytes g m) old new r → Fills g bytes old new r
  unfolding Fills IsCanonical CanonicalFault
  emits-fills m (Some cause) old new r p is (e, same) = rw e (λ other. (m, p, is), same)
  emits-fills m None old new r p is (inl (le, e, w)) = rw e (canonical_bytes g m, (m, p, is, refl), refl, le, w)
  emits-fills m None old new r p is (inr (lt, e, same)) = rw e (canonical_bytes g m, (m, p, is, refl), refl, refl, lt, same)

  -- why the bytes of such a message don't come into a vector
  pub unwritten-fault : (m : View g) (e : WriteError) → IsMessage g bytes m
      → ((cause : EmitError) → e ≡ Unwritten.Unfit cause → message_unfit g m ≡ Some cause)
      → unwritten e ≢ Refused OutOfMemory → CanonicalFault g bytes (unwritten e)
  unfolding CanonicalFault
  unwritten-fault m Unwritten.OutOfMemory p unfit other = absurd (other refl)
  unwritten-fault m (Unwritten.Unfit cause) p unfit other = (m, p, unfit cause refl)

  pub unwritten-memory : (m : View g) (e : WriteError) → IsMessage g bytes m → (e ≡ Unwritten.OutOfMemory → message_unfit g m ≡ None)
      → unwritten e ≡ Refused OutOfMemory → (out : List ℕ) × IsCanonical g bytes out
  unfolding IsCanonical
  unwritten-memory m Unwritten.OutOfMemory p fits is = (canonical_bytes g m, (m, p, fits refl, refl))
  unwritten-memory m (Unwritten.Unfit cause) p fits is = cc

  -- an answer leaves no room for another
  pub fault-none : {V : Type 0} (r : Result V CanonicalError) → IfErr r (λ e. e ≢ Refused OutOfMemory → CanonicalFault g bytes e)
      → IfErr r (λ e. e ≢ Refused OutOfMemory → (other : List ℕ) → IsCanonical g bytes other → ⊥)
  fault-none (Ok v) fault = tt
  fault-none (Err e) fault = λ refused other also. canonical-none e other (fault refused) also

  pub fills-one : (old new : List ℕ) (r : Result ℕ WriteCanonicalError) → Fills g bytes old new r
      → IfOk r (λ n. (other : List ℕ) → IsCanonical g bytes other → Writes old new other)
  unfolding Fills
  fills-one old new (Ok n) (canonical, is, len, room, w) = λ other also. rw (canonical-one other canonical also is) w
  fills-one old new (Err e) f = tt

  pub fills-none : (old new : List ℕ) (r : Result ℕ WriteCanonicalError) → Fills g bytes old new r → (e : CanonicalError) → r ≡ Err (Canonical e)
      → e ≢ Refused OutOfMemory → (other : List ℕ) → IsCanonical g bytes other → ⊥
  unfolding Fills
  fills-none old new r f e is refused other also = canonical-none e other ((rw is at f).0 refused) also

-- what is written is cut into what is written
encodings-cut : {M : Type 0} {w : Writing M} (r : Reading w) (xs : List M) → AllOf r.Coherent xs → first_unfit (unfit_by w) xs ≡ None
    → Cut (encodings (written_by w) xs) (map (written_by w) xs)
encodings-cut r [] all fits = refl
encodings-cut {w = w} r (m ∷ ms) all fits =
    let f = none_both (unfit_by w m) (first_unfit (unfit_by w) ms) fits in
    (encodings (written_by w) ms, encoding-front (written_by w m) (encodings (written_by w) ms) (fits-small r m all.0 f.0), encodings-cut r ms all.1 f.1)

-- and so are canonical bytes, behind the header
pub cut-behind : {H A : Type 0} (g : Grammar H A) (r : Reading g.writing) (bytes : List ℕ) (m : View g) → IsBytes bytes → IsMessage g bytes m
    → message_unfit g m ≡ None → (g.body.Coherent m.header m.attributes → AllOf r.Coherent m.attributes)
    → Cut (drop g.layout.size (canonical_bytes g m)) (map (written_by g.writing) m.attributes)
unfolding canonical_bytes IsCoherent
cut-behind g r bytes m are p fits coherent =
    let c = message-coherent g bytes m are p in
    let size = g.layout.length-encode m.header c.header in
    let behind : drop g.layout.size (canonical_bytes g m) ≡ encodings (written_by g.writing) m.attributes =
    drop_at (g.layout.encode m.header) (encodings (written_by g.writing) m.attributes) g.layout.size size in
    rw behind (encodings-cut r m.attributes (coherent c.attributes) (attributes_fit g m fits))

-- which is whole in them
pub header-there : {H A : Type 0} (g : Grammar H A) (bytes canonical : List ℕ) → IsBytes bytes → IsCanonical g bytes canonical
    → g.layout.size ≤ length canonical
unfolding IsCanonical IsCoherent canonical_bytes
header-there g bytes canonical are (m, p, fits, is) =
    let c = message-coherent g bytes m are p in
    omega (
      arith,
      ap length is,
      length-append (g.layout.encode m.header) (encodings (written_by g.writing) m.attributes),
      g.layout.length-encode m.header c.header,
    )
