-- What the answer to a kind and bytes is, by the call for their canonical bytes.
use Rattle.std.specs.Prelude.{◌≢◌}
use Rattle.std.proofs.Common.{◌≡◌, ℕ, ◌<◌, List, length, map, drop, ap, sym, subst, ◌∙◌, arith, inl, inr, length-drop}
use Rattle.netlink_packet_route.proofs.CanonicalAttributes.{attributes-cut, begun-behind, header-some}
use Rattle.netlink_packet_route.proofs.Messages.{has_header}
use Rattle.netlink_packet_route.specs.Canonical.{CanonicalFault, IsCanonical, TakesMemory}
use Rattle.netlink_packet_route.specs.Family.{written_by}
use Rattle.netlink_packet_route.specs.Framing.{Item, IsBytes, Cut}
use Rattle.netlink_packet_route.specs.FrontLaws.{Front-shrinks}
use Rattle.netlink_packet_route.specs.MessageKind.{Begins, form_of, header_size, kind_name}
use Rattle.netlink_packet_route.specs.Messages.{canonical_bytes}
use Rattle.netlink_packet_route.specs.declared.CanonicalError.{CanonicalError}
use Rattle.netlink_packet_route.specs.declared.CanonicalError.TheVariants as Canonical
use Rattle.netlink_packet_route.specs.declared.Nest.{Nest}
use Rattle.netlink_packet_route.specs.declared.MessageKind.{MessageKind}
use Rattle.netlink_packet_route.specs.declared.framing.DecodeError.{DecodeError}
use Rattle.netlink_packet_route.specs.declared.framing.DecodeError.TheVariants.{OutOfMemory}
use Rattle.netlink_packet_route.specs.declared.framing.EmitError.{EmitError}
use Rattle.netlink_report.specs.Error.{ended_by, refusal_of}
use Rattle.netlink_report.specs.Report.{report}
use Rattle.netlink_report.specs.Run.{IsReport, IsRefused, IsUnfit}
use Rattle.netlink_report.specs.declared.error.RunError.TheVariants.{Memory, Refused, Unfit}

-- a refusal is told as it is, but for want of memory
refused-is : (f e : DecodeError) → refusal_of f ≡ Refused e → (f ≢ OutOfMemory) × (f ≡ e)
refused-is OutOfMemory e is = absurd (let no : Memory ≡ Refused e = is in cc)
refused-is f e is = (λ same. cc, cc)

never-unfit : (f : DecodeError) (e : EmitError) → refusal_of f ≡ Unfit e → ⊥
never-unfit OutOfMemory e is = cc
never-unfit f e is = cc

memory-is : (f : DecodeError) → refusal_of f ≡ Memory → f ≡ OutOfMemory
memory-is OutOfMemory is = cc
memory-is f is = cc

pub ended-refused : (kind : MessageKind) (bytes : List ℕ) (f : CanonicalError) (e : DecodeError)
    → (f ≢ Canonical.Refused OutOfMemory → CanonicalFault (form_of kind).grammar bytes f) → ended_by f ≡ Refused e → IsRefused kind bytes e
unfolding CanonicalFault IsRefused
ended-refused kind bytes (Canonical.Refused f) e fault is =
    let (other, same) = refused-is f e is in
    rw (← same) (other, fault (λ out. other (let no : Canonical.Refused f ≡ Canonical.Refused OutOfMemory = out in cc)))
ended-refused kind bytes (Canonical.Unfit cause) e fault is = absurd (let no : Unfit cause ≡ Refused e = is in cc)

pub ended-unfit : (kind : MessageKind) (bytes : List ℕ) (f : CanonicalError) (e : EmitError)
    → (f ≢ Canonical.Refused OutOfMemory → CanonicalFault (form_of kind).grammar bytes f) → ended_by f ≡ Unfit e → IsUnfit kind bytes e
unfolding CanonicalFault IsUnfit
ended-unfit kind bytes (Canonical.Refused f) e fault is = absurd (never-unfit f e is)
ended-unfit kind bytes (Canonical.Unfit cause) e fault is =
    let same : cause ≡ e = cc in
    rw (← same) (fault (λ out. cc))

pub ended-memory : (f : CanonicalError) → ended_by f ≡ Memory → f ≡ Canonical.Refused OutOfMemory
ended-memory (Canonical.Refused f) is = ap Canonical.Refused (memory-is f is)
ended-memory (Canonical.Unfit cause) is = absurd (let no : Unfit cause ≡ Memory = is in cc)

-- a message has a header
pub message-some : (kind : MessageKind) (bytes canonical : List ℕ) → IsCanonical (form_of kind).grammar bytes canonical → 0 < length bytes
unfolding IsCanonical
message-some kind bytes canonical (m, p, fits, is) =
    omega (arith, has_header (form_of kind).grammar bytes m p, header-some kind)

-- nothing takes no memory
pub memory-some : (kind : MessageKind) (bytes : List ℕ) → TakesMemory (form_of kind).grammar bytes → 0 < length bytes
unfolding TakesMemory
memory-some kind bytes (inl (x, rest, front)) =
    let n = (form_of kind).grammar.layout.size in
    omega (arith, Front-shrinks (drop n bytes) x rest front, length-drop n bytes)
memory-some kind bytes (inr (canonical, is)) = message-some kind bytes canonical is

-- a text over the attributes in canonical bytes is the report
pub reported : (kind : MessageKind) (bytes canonical rest name text : List ℕ) (nest : Nest) → IsBytes bytes
    → IsCanonical (form_of kind).grammar bytes canonical → Begins kind canonical nest rest → name ≡ kind_name kind
    → ((items : List Item) → Cut rest items → text ≡ report name (length bytes) items canonical) → IsReport kind bytes text
unfolding IsReport IsCanonical
reported kind bytes canonical rest name text nest are (m, p, fits, is) begins named says =
    let g = (form_of kind).grammar in
    let items : List Item = map (written_by g.writing) m.attributes in
    let there : rest ≡ drop (header_size kind) (canonical_bytes g m) = begun-behind kind canonical rest nest begins ∙ ap (drop (header_size kind)) is in
    let cut : Cut rest items = subst (λ (r : List ℕ). Cut r items) (sym there) (attributes-cut kind bytes m are p fits) in (
      m,
      p,
      fits,
      says items cut ∙ ap (λ (n : List ℕ). report n (length bytes) items canonical) named
          ∙ ap (λ (b : List ℕ). report (kind_name kind) (length bytes) items b) is,
    )
