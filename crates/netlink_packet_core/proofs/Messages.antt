-- The laws of messages.
use Rattle.std.proofs.Common.{◌≡◌, ℕ, ◌+◌, ◌%◌, ◌<◌, ◌^◌, List, [], ◌++◌, length, None, replicate, refl, sym, subst, ◌∙◌, arith, append_assoc, length-append}
use Rattle.std.proofs.lemmas.List.{append-nil, length-replicate}
use Rattle.npr_base.specs.Framing.{pad}
use Rattle.npr_base.specs.lemmas.Fit.{none_both}
use Rattle.npr_base.specs.declared.refusal.DecodeError.{DecodeError}
use Rattle.netlink_packet_core.specs.Header.{header}
use Rattle.netlink_packet_core.specs.Envelope.{Envelope, EnvelopeFront}
use Rattle.netlink_packet_core.specs.Protocol.{Protocol}
use Rattle.netlink_packet_core.specs.Payload.{payload_type, payload_bytes, payload_unfit}
use Rattle.netlink_packet_core.specs.Message.{View, IsNetlinkMessage, NetlinkFault, IsCoherentMessage, finalized, final_header, envelope_of, netlink_unfit, message_bytes, oversized}
use Rattle.netlink_packet_core.proofs.FrontLaws.{Front-same}
use Rattle.netlink_packet_core.proofs.Payloads.{Payload-one, Payload-sound, Payload-back}

-- what a length that fits is
pub oversized-fits : (n : ℕ) → oversized n ≡ None → 16 + n < 2 ^ 32
oversized-fits n fits = grind (arith, fits)

module _ {M : Type 0} (P : Protocol M) where
  pub Message-one : (x : Envelope) (m n : View M) → IsNetlinkMessage P x m → IsNetlinkMessage P x n → m ≡ n
  Message-one x m n p q =
      let h : m.header ≡ n.header = p.0 ∙ sym q.0 in
      let e : m.payload ≡ n.payload = Payload-one P x.header.message_type x.payload m.payload n.payload p.1 q.1 in
      λ i. record { header = h i; payload = e i }

  pub Message-sound : (x : Envelope) (m : View M) (e : DecodeError) → IsNetlinkMessage P x m → NetlinkFault P x e → ⊥
  Message-sound x m e p bad = Payload-sound P x.header.message_type x.payload m.payload e p.1 bad

  pub Message-back : (m : View M) → IsCoherentMessage P m → netlink_unfit P m ≡ None → IsNetlinkMessage P (envelope_of P m) (finalized P m)
  Message-back m c fits =
      (refl, Payload-back P m.payload c.payload (none_both (payload_unfit P m.payload) (oversized (length (payload_bytes P m.payload))) fits).0)

  pub Message-again : (x : Envelope) (m n : View M) → IsNetlinkMessage P x m → IsCoherentMessage P n → netlink_unfit P n ≡ None → x ≡ envelope_of P n → m ≡ finalized P n
  Message-again x m n p c fits is =
      Message-one (envelope_of P n) m (finalized P n) (subst (λ (y : Envelope). IsNetlinkMessage P y m) is p) (Message-back n c fits)

  final-holds : (m : View M) → IsCoherentMessage P m → netlink_unfit P m ≡ None → header.Holds (final_header P m)
  final-holds m c fits =
      let small : 16 + length (payload_bytes P m.payload) < 2 ^ 32
      = oversized-fits (length (payload_bytes P m.payload)) (none_both (payload_unfit P m.payload) (oversized (length (payload_bytes P m.payload))) fits).1 in
      let n = c.header.0 in
      let kind : payload_type P m.payload < 2 ^ 16 = subst (λ (k : ℕ). k < 2 ^ 16) c.kind n.1.0 in
      ((small, (kind, (n.1.1.0, (n.1.1.1.0, n.1.1.1.1)))), refl)

  -- what is written is one message and nothing else
  pub Message-front : (m : View M) → IsCoherentMessage P m → netlink_unfit P m ≡ None → EnvelopeFront (message_bytes P m) (envelope_of P m) []
  Message-front m c fits =
      let v : List ℕ = payload_bytes P m.payload in
      let zeros : List ℕ = replicate (pad (length v)) 0 in
      let front : List ℕ = header.encode (final_header P m) in
      record {
        front = front;
        padding = zeros;
        is = append_assoc front v zeros ∙ sym (append-nil (front ++ (v ++ zeros)));
        size = refl;
        header = sym (header.decode-encode (final_header P m) (final-holds m c fits));
        counts = refl;
        most = omega (arith, length-replicate {A = ℕ} (pad (length v)) 0);
        whole = λ h. absurd (omega arith);
      }

  pub Message-length : (m : View M) → length (message_bytes P m) % 4 ≡ 0
  Message-length m =
      let v : List ℕ = payload_bytes P m.payload in
      omega (arith, length-append v (replicate (pad (length v)) 0), length-replicate {A = ℕ} (pad (length v)) 0)

  -- so messages with one encoding are the same, but for their headers' lengths
  pub Message-canonical : (m n : View M) → IsCoherentMessage P m → netlink_unfit P m ≡ None → IsCoherentMessage P n → netlink_unfit P n ≡ None
      → message_bytes P m ≡ message_bytes P n → finalized P m ≡ finalized P n
  Message-canonical m n c f d g is =
      let fm = Message-front m c f in
      let fn = subst (λ (b : List ℕ). EnvelopeFront b (envelope_of P n) []) (sym is) (Message-front n d g) in
      let same = Front-same (message_bytes P m) (envelope_of P m) (envelope_of P n) [] [] fm fn in
      Message-again (envelope_of P m) (finalized P m) n (Message-back m c f) d g same.0
