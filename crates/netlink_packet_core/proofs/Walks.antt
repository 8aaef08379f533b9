-- The steps of a walk over a datagram.
use Rattle.std.specs.Prelude.{Some}
use Rattle.std.proofs.Common.{◌≡◌, ℕ, ◌+◌, ◌-◌, ◌*◌, ◌<◌, ◌≤◌, List, [], ◌∷◌, ◌++◌, length, Result, Ok, Err, ◌⊎◌, refl, sym, ap, subst, ◌∙◌, arith, inl, inr}
use Rattle.netlink_packet_core.specs.Envelope.{Envelope, EnvelopeFront, EnvelopePasses, EnvelopeFault, EnvelopeStops, IsDatagram, Tail, EnvelopeStep}
use Rattle.netlink_packet_core.specs.Walk.{start, found, EnvelopeSteps, EnvelopeWalk, EnvelopeFinds}
use Rattle.netlink_packet_core.specs.declared.refusal.EnvelopeError.{EnvelopeError}
use Rattle.netlink_packet_core.proofs.FrontLaws.{Front-shrinks, Front-same, Front-sound, Fault-same, Passes-length}

-- how far a place is in a datagram of n bytes
abbrev At : ℕ → Tail → Type 0
At n w = w.offset + length w.bytes ≡ n

pub no_step_past_the_end : (old : Tail) (s : Result Envelope EnvelopeError) (new : Tail) → old.bytes ≡ [] → EnvelopeStep old (Some s) new → ⊥
no_step_past_the_end old (Ok x) new e (f, _) = absurd (omega (arith, ap length e, Front-shrinks old.bytes x new.bytes f))
no_step_past_the_end old (Err g) new e (left, _, _, _) = absurd (omega (arith, ap length e))

-- a fault is told with its place
fault_moved : (n : ℕ) (w : Tail) (e : EnvelopeError) → At n w → EnvelopeFault w.offset w.bytes e → EnvelopeFault (n - length w.bytes) w.bytes e
fault_moved n w e at bad = let o : w.offset ≡ n - length w.bytes = omega arith in subst (λ (k : ℕ). EnvelopeFault k w.bytes e) o bad

-- what steps find from a place on: messages up to the rest, or those before a stop and then the fault
abbrev Finds : ℕ → Tail → List (Result Envelope EnvelopeError) → Tail → List Envelope → Type 0
Finds n old steps new xs =
    ((steps ≡ found xs) × EnvelopePasses old.bytes xs new.bytes)
    ⊎ ((e : EnvelopeError) × (steps ≡ found xs ++ Err e ∷ []) × ((rest : List ℕ) × EnvelopePasses old.bytes xs rest × (0 < length rest) × EnvelopeFault (n - length rest) rest e) × (new.bytes ≡ []))

finds_more : (n : ℕ) (old more new : Tail) (x : Envelope) (steps : List (Result Envelope EnvelopeError)) (xs : List Envelope) → EnvelopeFront old.bytes x more.bytes
    → Finds n more steps new xs → Finds n old (Ok x ∷ steps) new (x ∷ xs)
finds_more n old more new x steps xs f (inl (is, p)) = inl (ap (λ (s : List (Result Envelope EnvelopeError)). Ok x ∷ s) is, (more.bytes, f, p))
finds_more n old more new x steps xs f (inr (e, is, (r, p, left, bad), end)) =
    inr (e, ap (λ (s : List (Result Envelope EnvelopeError)). Ok x ∷ s) is, (r, (more.bytes, f, p), left, bad), end)

Steps-find : (n : ℕ) (old : Tail) (steps : List (Result Envelope EnvelopeError)) (new : Tail) → At n old → EnvelopeSteps old steps new
    → (xs : List Envelope) × Finds n old steps new xs
Steps-find n old [] new at p = ([], inl (refl, ap (λ (w : Tail). w.bytes) p))
Steps-find n old (Ok x ∷ steps) new at (more, (f, moved), p) =
    let h = Steps-find n more steps new (moved ∙ at) p in (x ∷ h.0, finds_more n old more new x steps h.0 f h.1)
Steps-find n old (Err e ∷ []) new at (more, (left, bad, is, moved), p) =
    ([], inr (e, refl, (old.bytes, refl, left, fault_moved n old e at bad), ap (λ (w : Tail). w.bytes) (sym p) ∙ is))
Steps-find n old (Err e ∷ s ∷ steps) new at (more, (left, bad, is, moved), (after, step, p)) = absurd (no_step_past_the_end more s after is step)

-- steps find messages, and one fault after them at most
pub Walk-finds : (datagram : List ℕ) (steps : List (Result Envelope EnvelopeError)) (new : Tail) → EnvelopeSteps (start datagram) steps new
    → (xs : List Envelope) × EnvelopeFinds datagram steps new.bytes xs
Walk-finds datagram steps new p = Steps-find (length datagram) (start datagram) steps new (omega arith) p

pub Finds-length : (datagram : List ℕ) (steps : List (Result Envelope EnvelopeError)) (rest : List ℕ) (xs : List Envelope) → EnvelopeFinds datagram steps rest xs
    → 16 * length xs ≤ length datagram
Finds-length datagram steps rest xs (inl (is, p)) = omega (arith, Passes-length xs datagram rest p)
Finds-length datagram steps rest xs (inr (e, is, (r, p, left, bad), end)) = omega (arith, Passes-length xs datagram r p)

-- and the other way
Steps-pass : (xs : List Envelope) (old new : Tail) → EnvelopeSteps old (found xs) new → EnvelopePasses old.bytes xs new.bytes
Steps-pass [] old new p = ap (λ (w : Tail). w.bytes) p
Steps-pass (x ∷ xs) old new (more, (f, _), p) = (more.bytes, f, Steps-pass xs more new p)

pub Walk-is-datagram : (xs : List Envelope) (datagram : List ℕ) → EnvelopeWalk datagram (found xs) → IsDatagram datagram xs
Walk-is-datagram xs datagram (last, p, end) = subst (λ (b : List ℕ). EnvelopePasses datagram xs b) end (Steps-pass xs (start datagram) last p)

Steps-stop : (n : ℕ) (xs : List Envelope) (old new : Tail) (e : EnvelopeError) → At n old → EnvelopeSteps old (found xs ++ Err e ∷ []) new
    → (rest : List ℕ) × EnvelopePasses old.bytes xs rest × (0 < length rest) × EnvelopeFault (n - length rest) rest e
Steps-stop n [] old new e at (more, (left, bad, is, moved), p) = (old.bytes, refl, left, fault_moved n old e at bad)
Steps-stop n (x ∷ xs) old new e at (more, (f, moved), p) =
    let h = Steps-stop n xs more new e (moved ∙ at) p in (h.0, (more.bytes, f, h.1), h.2, h.3)

pub Walk-is-stop : (xs : List Envelope) (datagram : List ℕ) (e : EnvelopeError) → EnvelopeWalk datagram (found xs ++ Err e ∷ []) → EnvelopeStops datagram xs e
Walk-is-stop xs datagram e (last, p, end) = Steps-stop (length datagram) xs (start datagram) last e (omega arith) p

-- the place behind what is left
abbrev place : ℕ → List ℕ → Tail
place n rest = record { offset = n - length rest; bytes = rest }

Passes-steps : (n : ℕ) (xs : List Envelope) (bytes rest : List ℕ) → length bytes ≤ n → EnvelopePasses bytes xs rest → EnvelopeSteps (place n bytes) (found xs) (place n rest)
Passes-steps n [] bytes rest le p = ap (place n) p
Passes-steps n (x ∷ xs) bytes rest le (more, f, p) =
    let s = Front-shrinks bytes x more f in
    (place n more, (f, omega arith), Passes-steps n xs more rest (omega arith) p)

start-is : (datagram : List ℕ) → place (length datagram) datagram ≡ start datagram
start-is datagram = let z : length datagram - length datagram ≡ 0 = omega arith in λ i. record { offset = z i; bytes = datagram }

pub Datagram-is-walk : (xs : List Envelope) (datagram : List ℕ) → IsDatagram datagram xs → EnvelopeWalk datagram (found xs)
Datagram-is-walk xs datagram p =
    let n = length datagram in (
      place (length datagram) [],
      subst (λ (w : Tail). EnvelopeSteps w (found xs) (place (length datagram) [])) (start-is datagram)
          (Passes-steps (length datagram) xs datagram [] (omega arith) p),
      refl,
    )

Stops-steps : (n : ℕ) (xs : List Envelope) (bytes rest : List ℕ) (e : EnvelopeError) → length bytes ≤ n → EnvelopePasses bytes xs rest → 0 < length rest
    → EnvelopeFault (n - length rest) rest e → EnvelopeSteps (place n bytes) (found xs ++ Err e ∷ []) (place n [])
Stops-steps n [] bytes rest e le p left bad =
    (place n [], subst (λ (b : List ℕ). EnvelopeStep (place n b) (Some (Err e)) (place n [])) (sym p) (left, bad, refl, omega (arith, ap length p)), refl)
Stops-steps n (x ∷ xs) bytes rest e le (more, f, p) left bad =
    let s = Front-shrinks bytes x more f in
    (place n more, (f, omega arith), Stops-steps n xs more rest e (omega arith) p left bad)

pub Stop-is-walk : (xs : List Envelope) (datagram : List ℕ) (e : EnvelopeError) → EnvelopeStops datagram xs e → EnvelopeWalk datagram (found xs ++ Err e ∷ [])
Stop-is-walk xs datagram e (rest, p, left, bad) = (
  place (length datagram) [],
  subst (λ (w : Tail). EnvelopeSteps w (found xs ++ Err e ∷ []) (place (length datagram) [])) (start-is datagram)
      (Stops-steps (length datagram) xs datagram rest e (omega arith) p left bad),
  refl,
)

-- ---- a walk goes one way

place_is : (a b : Tail) → a.bytes ≡ b.bytes → a.offset + length a.bytes ≡ b.offset + length b.bytes → a ≡ b
place_is a b e moved = let o : a.offset ≡ b.offset = omega (arith, ap length e) in λ i. record { offset = o i; bytes = e i }

pub Step-same : (old : Tail) (s t : Result Envelope EnvelopeError) (m n : Tail) → EnvelopeStep old (Some s) m → EnvelopeStep old (Some t) n → (s ≡ t) × (m ≡ n)
Step-same old (Ok x) (Ok y) m n (f, fm) (g, gm) =
    let same = Front-same old.bytes x y m.bytes n.bytes f g in
    (ap (λ (z : Envelope). Ok z) same.0, place_is m n same.1 (fm ∙ sym gm))
Step-same old (Ok x) (Err e) m n (f, fm) (left, bad, _, _) = absurd (Front-sound old.offset old.bytes x m.bytes e f bad)
Step-same old (Err e) (Ok x) m n (left, bad, _, _) (f, fm) = absurd (Front-sound old.offset old.bytes x n.bytes e f bad)
Step-same old (Err e) (Err g) m n (left, bad, mb, mo) (more, worse, nb, nn) =
    (ap (λ (z : EnvelopeError). Err z) (Fault-same old.offset old.bytes e g bad worse), λ i. record { offset = (mo ∙ sym nn) i; bytes = (mb ∙ sym nb) i })
