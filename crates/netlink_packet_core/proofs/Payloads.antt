-- What stands behind the header of an envelope: one reading, no fault beside it, and both ways.
use Rattle.std.specs.Prelude.{ℤ, pos, FitsSigned, zero, suc, [], ◌∷◌, ◌≢◌, Result, Ok, Err, IfOk, IfErr}
use Rattle.std.specs.Bool.{MatchBool}
use Rattle.std.specs.Int.{w32}
use Rattle.std.proofs.Common.{◌≡◌, ℕ, ◌<◌, ◌^◌, ◌==◌, Bool, true, false, List, take, None, refl, sym, ap, subst, ◌∙◌, arith, length-take}
use Rattle.std.proofs.lemmas.Bool.{eqb-true, eqb-false, ne_eqb}
use Rattle.npr_base.specs.Framing.{IsBytes}
use Rattle.npr_base.specs.Layout.{signed32}
use Rattle.npr_base.specs.lemmas.List.{IsBytes-take, IsBytes-drop}
use Rattle.npr_base.specs.declared.refusal.DecodeError.{DecodeError}
use Rattle.npr_base.specs.declared.refusal.DecodeError.TheVariants.{OutOfMemory}
use Rattle.netlink_packet_core.specs.Protocol.{Protocol}
use Rattle.netlink_packet_core.specs.Payload.{Payload, noop, error, done, overrun, inner, payload_type, payload_bytes, payload_unfit, coded, IsCoded, IsUncoded, end_of, end-some, IsInner, PayloadReads, PayloadFault, IsCoherentPayload}

coded-one : {M : Type 0} (bytes : List ℕ) (k l : ℤ) (r s : List ℕ) (make : ℤ → List ℕ → Payload M) → IsCoded bytes k r → IsCoded bytes l s → make k r ≡ make l s
coded-one {M} bytes k l r s make a b = λ i. make ((a.code_is ∙ sym b.code_is) i) ((a.more_is ∙ sym b.more_is) i)

coded-holds : (bytes : List ℕ) (k : ℤ) (r : List ℕ) → IsBytes bytes → IsCoded bytes k r → FitsSigned w32 k × IsBytes r
coded-holds bytes k r is h = (
  subst (FitsSigned w32) (sym h.code_is) (signed32.Holds-decode (take 4 bytes) (IsBytes-take 4 bytes is) (let long = h.long in omega (arith, length-take 4 bytes))),
  subst IsBytes (sym h.more_is) (IsBytes-drop 4 bytes is),
)

zero-bytes : IsBytes (coded (pos 0) [])
zero-bytes zero = omega arith
zero-bytes (suc zero) = omega arith
zero-bytes (suc (suc zero)) = omega arith
zero-bytes (suc (suc (suc zero))) = omega arith
zero-bytes (suc (suc (suc (suc i)))) = omega arith

end-bytes : (bytes : List ℕ) → IsBytes bytes → IsBytes (end_of bytes)
end-bytes [] is = zero-bytes
end-bytes (byte ∷ bytes) is = is

coded-back : (k : ℤ) (r : List ℕ) → FitsSigned w32 k → IsCoded (coded k r) k r
coded-back k r h = record { long = omega arith; code_is = sym (signed32.decode-encode k h); more_is = refl }

module _ {M : Type 0} (P : Protocol M) where
  -- the tests of a type, answered
  abbrev ReadsIn : (a b c d : Bool) → ℕ → List ℕ → Payload M → Type 0
  ReadsIn a b c d kind bytes x =
      MatchBool a (x ≡ noop)
      (MatchBool b ((code : ℤ) × (more : List ℕ) × IsCoded bytes code more × (x ≡ error code more))
      (MatchBool c ((code : ℤ) × (more : List ℕ) × IsCoded (end_of bytes) code more × (x ≡ done code more))
      (MatchBool d (x ≡ overrun bytes)
      ((m : M) × P.Reads kind bytes m × (x ≡ inner m)))))

  abbrev FaultIn : (a b c d : Bool) → ℕ → List ℕ → DecodeError → Type 0
  FaultIn a b c d kind bytes e =
      MatchBool a ⊥ (MatchBool b (IsUncoded bytes e) (MatchBool c (IsUncoded (end_of bytes) e) (MatchBool d ⊥ (P.Faulty kind bytes e))))

  one_by : (a b c d : Bool) (kind : ℕ) (bytes : List ℕ) (x y : Payload M) → ReadsIn a b c d kind bytes x → ReadsIn a b c d kind bytes y → x ≡ y
  one_by true b c d kind bytes x y p q = p ∙ sym q
  one_by false true c d kind bytes x y (k, r, is, e) (l, s, js, f) = e ∙ coded-one bytes k l r s error is js ∙ sym f
  one_by false false true d kind bytes x y (k, r, is, e) (l, s, js, f) = e ∙ coded-one (end_of bytes) k l r s done is js ∙ sym f
  one_by false false false true kind bytes x y p q = p ∙ sym q
  one_by false false false false kind bytes x y (m, r, e) (n, s, f) = e ∙ ap inner (P.one_reading kind bytes m n r s) ∙ sym f

  pub Payload-one : (kind : ℕ) (bytes : List ℕ) (x y : Payload M) → PayloadReads P kind bytes x → PayloadReads P kind bytes y → x ≡ y
  Payload-one kind bytes x y p q = one_by (kind == 1) (kind == 2) (kind == 3) (kind == 4) kind bytes x y p q

  sound_by : (a b c d : Bool) (kind : ℕ) (bytes : List ℕ) (x : Payload M) (e : DecodeError) → ReadsIn a b c d kind bytes x → FaultIn a b c d kind bytes e → ⊥
  sound_by true b c d kind bytes x e p bad = bad
  sound_by false true c d kind bytes x e (k, r, is, _) (short, _) = let long = is.long in absurd (omega arith)
  sound_by false false true d kind bytes x e (k, r, is, _) (short, _) = let long = is.long in absurd (omega arith)
  sound_by false false false true kind bytes x e p bad = bad
  sound_by false false false false kind bytes x e (m, r, _) bad = P.no_fault kind bytes m e r bad

  pub Payload-sound : (kind : ℕ) (bytes : List ℕ) (x : Payload M) (e : DecodeError) → PayloadReads P kind bytes x → PayloadFault P kind bytes e → ⊥
  Payload-sound kind bytes x e p bad = sound_by (kind == 1) (kind == 2) (kind == 3) (kind == 4) kind bytes x e p bad

  -- what is read can be read again, and has the type under which it was read
  abbrev IsKnown : ℕ → Payload M → Type 0
  IsKnown kind x = IsCoherentPayload P x × (payload_type P x ≡ kind)

  known_by : (a b c d : Bool) (kind : ℕ) (bytes : List ℕ) (x : Payload M) → kind < 2 ^ 16 → IsBytes bytes
      → (kind == 1) ≡ a → (kind == 2) ≡ b → (kind == 3) ≡ c → (kind == 4) ≡ d → ReadsIn a b c d kind bytes x → IsKnown kind x
  known_by true b c d kind bytes x small is ea eb ec ed p = subst (λ (z : Payload M). IsKnown kind z) (sym p) (tt, sym (eqb-true kind 1 ea))
  known_by false true c d kind bytes x small is ea eb ec ed (k, r, h, e) =
      subst (λ (z : Payload M). IsKnown kind z) (sym e) (coded-holds bytes k r is h, sym (eqb-true kind 2 eb))
  known_by false false true d kind bytes x small is ea eb ec ed (k, r, h, e) =
      subst (λ (z : Payload M). IsKnown kind z) (sym e) (coded-holds (end_of bytes) k r (end-bytes bytes is) h, sym (eqb-true kind 3 ec))
  known_by false false false true kind bytes x small is ea eb ec ed p = subst (λ (z : Payload M). IsKnown kind z) (sym p) (is, sym (eqb-true kind 4 ed))
  known_by false false false false kind bytes x small is ea eb ec ed (m, r, e) =
      let k = P.reads_coherent kind bytes m small is r in
      let other : IsInner kind = record { noop = eqb-false kind 1 ea; error = eqb-false kind 2 eb; done = eqb-false kind 3 ec; overrun = eqb-false kind 4 ed } in
      subst (λ (z : Payload M). IsKnown kind z) (sym e) ((k.0, subst IsInner (sym k.1) other), k.1)

  pub Payload-known : (kind : ℕ) (bytes : List ℕ) (x : Payload M) → kind < 2 ^ 16 → IsBytes bytes → PayloadReads P kind bytes x
      → IsCoherentPayload P x × (payload_type P x ≡ kind)
  Payload-known kind bytes x small is p = known_by (kind == 1) (kind == 2) (kind == 3) (kind == 4) kind bytes x small is refl refl refl refl p

  inner_by : (a b c d : Bool) (kind : ℕ) (bytes : List ℕ) (m : M) → a ≡ false → b ≡ false → c ≡ false → d ≡ false → P.Reads kind bytes m
      → ReadsIn a b c d kind bytes (inner m)
  inner_by a b c d kind bytes m ea eb ec ed r = rw (ea, eb, ec, ed) (m, r, refl)

  -- what is coherent and fits is read back from its bytes
  pub Payload-back : (x : Payload M) → IsCoherentPayload P x → payload_unfit P x ≡ None → PayloadReads P (payload_type P x) (payload_bytes P x) x
  Payload-back noop h fits = refl
  Payload-back (error k r) h fits = (k, r, coded-back k r h.0, refl)
  Payload-back (done k r) h fits =
      (k, r, subst (λ (b : List ℕ). IsCoded b k r) (sym (end-some (coded k r) (omega arith))) (coded-back k r h.0), refl)
  Payload-back (overrun bytes) h fits = refl
  Payload-back (inner m) (c, is) fits =
      inner_by (P.number m == 1) (P.number m == 2) (P.number m == 3) (P.number m == 4) (P.number m) (P.encode m) m (ne_eqb (P.number m) 1 is.noop)
      (ne_eqb (P.number m) 2 is.error) (ne_eqb (P.number m) 3 is.done) (ne_eqb (P.number m) 4 is.overrun) (P.reads_back m c fits)

  -- what an answer says of the bytes says the rest
  module _ {I : Type 0} (view : I → Payload M) (kind : ℕ) (bytes : List ℕ) where
    pub ok_one : (r : Result I DecodeError) → IfOk r (λ p. PayloadReads P kind bytes (view p))
        → IfOk r (λ p. (q : Payload M) → PayloadReads P kind bytes q → view p ≡ q)
    ok_one (Ok p) h = λ q k. Payload-one kind bytes (view p) q h k
    ok_one (Err e) h = h

    pub ok_known : kind < 2 ^ 16 → IsBytes bytes → (r : Result I DecodeError) → IfOk r (λ p. PayloadReads P kind bytes (view p))
        → IfOk r (λ p. IsCoherentPayload P (view p)) × IfOk r (λ p. payload_type P (view p) ≡ kind)
    ok_known small is (Ok p) h = Payload-known kind bytes (view p) small is h
    ok_known small is (Err e) h = (tt, tt)

    pub refused_none : (r : Result I DecodeError) → IfErr r (λ e. e ≢ OutOfMemory → PayloadFault P kind bytes e)
        → IfErr r (λ e. e ≢ OutOfMemory → (q : Payload M) → PayloadReads P kind bytes q → ⊥)
    refused_none (Ok p) h = h
    refused_none (Err e) h = λ other q p. Payload-sound kind bytes q e p (h other)
