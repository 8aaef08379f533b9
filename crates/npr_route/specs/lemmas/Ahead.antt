-- What stands ahead in bytes, and what a search through it looks at.
use Rattle.std.proofs.Common.{◌≡◌, ℕ, zero, suc, min, ◌+◌, ◌*◌, ◌/◌, ◌<◌, ◌≤◌, true, false, List, [], ◌∷◌, length}
use Rattle.std.proofs.Common.{Option, Some, None, Result, Ok, Err, refl, ap, ◌∙◌, arith, inl, inr, length-drop}
use Rattle.std.proofs.lemmas.Bool.{cases_Bool, cases_lt, le-ltb, lt-ltb}
use Rattle.npr_base.specs.declared.refusal.DecodeError.{DecodeError}
use Rattle.npr_base.specs.declared.refusal.DecodeError.TheVariants.{AttributeTooShort, AttributeLength}
use Rattle.npr_base.specs.Counts.{Counts, hit, looked}
use Rattle.npr_base.specs.FirstTold.{hit_each}
use Rattle.npr_base.specs.lemmas.FirstTold.{hit_each-counts, searched}
use Rattle.npr_base.specs.Framing.{Item, Front, Passes, Fault, Step, pad}
use Rattle.npr_base.specs.lemmas.Front.{length_at, length_at-is, rest_at, two_bytes, Front-is, Front-takes}
use Rattle.npr_encapsulation.specs.declared.encap_type.RouteLwEnCapType.{RouteLwEnCapType}
use Rattle.npr_route.specs.Governing.{item_type, Searches}
use Rattle.npr_route.specs.Ahead.{stands, along, ahead, stopped, walk_room, SoughtIn}

-- an attribute stands in front
front_stands : (bs : List ℕ) (x : Item) (rest : List ℕ) → Front bs x rest → stands bs ≡ true
front_stands bs x rest f =
    let took = Front-takes bs x rest f in
    let l : length_at bs ≡ 4 + length x.value = ap length_at f.is ∙ two_bytes (4 + length x.value) (omega (arith, f.small.value)) in
    rw (le-ltb (length bs) 4 (omega (arith, took)), le-ltb (length_at bs) 4 (omega (arith, l)), le-ltb (length bs) (length_at bs) (omega (arith, l, took))) refl

-- and none where there is a fault
fault_stands : (bs : List ℕ) (e : DecodeError) → Fault bs e → stands bs ≡ false
fault_stands bs (AttributeTooShort got) bad = rw (lt-ltb (length bs) 4 bad.1) refl
fault_stands bs (AttributeLength l left) bad =
    let is : l ≡ length_at bs = bad.2 ∙ length_at-is bs in
    let long = le-ltb (length bs) 4 bad.1 in
    elim (cases_lt (length_at bs) 4) [
      | inl low ↦ rw (long, lt-ltb (length_at bs) 4 low) refl
      | inr high ↦ elim bad.3 [
        | inl below ↦ absurd (omega (arith, is, below))
        | inr past ↦ rw (long, le-ltb (length_at bs) 4 high, lt-ltb (length bs) (length_at bs) (omega (arith, is, past))) refl
      ]
    ]
fault_stands bs other bad = absurd bad

-- what stands takes four bytes at least
stands_takes : (bs : List ℕ) → stands bs ≡ true → length (rest_at bs) + 4 ≤ length bs
stands_takes bs is = elim (cases_lt (length bs) 4) [
  | inl short ↦ absurd (let no : stands bs ≡ false = rw (lt-ltb (length bs) 4 short) refl in cc)
  | inr long ↦ elim (cases_lt (length_at bs) 4) [
    | inl low ↦ absurd (let no : stands bs ≡ false = rw (le-ltb (length bs) 4 long, lt-ltb (length_at bs) 4 low) refl in cc)
    | inr high ↦ omega (arith, high, long, length-drop (length_at bs + pad (length_at bs)) bs)
  ]
]

module _ {A : Type 0} (step : A → A) (behind : List ℕ → A) where
  -- as many steps as bytes are enough
  along_enough : (m n : ℕ) (bs : List ℕ) → length bs ≤ m → length bs ≤ n → along step behind m bs ≡ along step behind n bs
  along_enough zero zero bs p q = refl
  along_enough zero (suc n) [] p q = refl
  along_enough zero (suc n) (b ∷ bs) p q = absurd (omega arith)
  along_enough (suc m) zero [] p q = refl
  along_enough (suc m) zero (b ∷ bs) p q = absurd (omega arith)
  along_enough (suc m) (suc n) bs p q = elim (cases_Bool (stands bs)) [
    | inl is ↦ let less = stands_takes bs is in rw is (ap step (along_enough m n (rest_at bs) (omega (arith, less)) (omega (arith, less))))
    | inr not ↦ rw not refl
  ]

  along_front : (bs : List ℕ) (x : Item) (rest : List ℕ) → Front bs x rest → along step behind (length bs) bs ≡ step (along step behind (length rest) rest)
  along_front [] x rest f = absurd (omega (arith, Front-takes [] x rest f))
  along_front (b ∷ bs) x rest f =
      let is = front_stands (b ∷ bs) x rest f in
      let same : rest ≡ rest_at (b ∷ bs) = (Front-is (b ∷ bs) x rest f).1 in
      let less = stands_takes (b ∷ bs) is in
      let enough = along_enough (length bs) (length (rest_at (b ∷ bs))) (rest_at (b ∷ bs)) (omega (arith, less)) (omega arith) in
      rw (is, same) (ap step enough)

-- ---- how many they are, and whether a fault ends them

ahead_front : (bs : List ℕ) (x : Item) (rest : List ℕ) → Front bs x rest → ahead bs ≡ suc (ahead rest)
ahead_front = along_front suc (λ rest. 0)

pub stopped_front : (bs : List ℕ) (x : Item) (rest : List ℕ) → Front bs x rest → stopped bs ≡ stopped rest
stopped_front = along_front (λ n. n) (λ rest. min 1 (length rest))

ahead_passed : (items : List Item) (bs rest : List ℕ) → Passes bs items rest → ahead bs ≡ length items + ahead rest
ahead_passed [] bs rest p = omega (arith, ap ahead p)
ahead_passed (x ∷ items) bs rest (more, f, p) = omega (arith, ahead_front bs x more f, ahead_passed items more rest p)

stopped_passed : (items : List Item) (bs rest : List ℕ) → Passes bs items rest → stopped bs ≡ stopped rest
stopped_passed [] bs rest p = ap stopped p
stopped_passed (x ∷ items) bs rest (more, f, p) = stopped_front bs x more f ∙ stopped_passed items more rest p

-- each takes four bytes
ahead_within : (n : ℕ) (bs : List ℕ) → 4 * along suc (λ rest. 0) n bs ≤ length bs
ahead_within zero bs = omega arith
ahead_within (suc n) bs = elim (cases_Bool (stands bs)) [
  | inl is ↦ rw is (omega (arith, ahead_within n (rest_at bs), stands_takes bs is))
  | inr not ↦ rw not (omega arith)
]

ahead_fits : (bs : List ℕ) → 4 * ahead bs ≤ length bs
ahead_fits bs = ahead_within (length bs) bs

stopped_within : (n : ℕ) (bs : List ℕ) → along (λ m. m) (λ rest. min 1 (length rest)) n bs ≤ 1
stopped_within zero bs = omega arith
stopped_within (suc n) bs = elim (cases_Bool (stands bs)) [
  | inl is ↦ rw is (stopped_within n (rest_at bs))
  | inr not ↦ rw not (omega arith)
]

pub stopped_once : (bs : List ℕ) → stopped bs ≤ 1
stopped_once bs = stopped_within (length bs) bs

stopped_fault : (bs : List ℕ) (e : DecodeError) → 0 < length bs → Fault bs e → stopped bs ≡ 1
stopped_fault [] e left bad = absurd (omega arith)
stopped_fault (b ∷ bs) e left bad = rw (fault_stands (b ∷ bs) e bad) (omega arith)

-- ---- the room that an attribute leaves

pub room_opened : (bs : List ℕ) → walk_room bs + ahead bs ≡ 2 * (length bs / 4)
room_opened bs = omega (arith, ahead_fits bs)

pub room_front : (bs : List ℕ) (x : Item) (rest : List ℕ) → Front bs x rest → walk_room rest + (1 + 2 * (length x.value / 4)) ≤ walk_room bs
room_front bs x rest f = omega (arith, ahead_fits bs, ahead_fits rest, ahead_front bs x rest f, Front-takes bs x rest f)

-- ---- what a search adds

search_failed : (bytes : List ℕ) (items : List Item) (rest left : List ℕ) (last : Option (Result Item DecodeError)) (old new : Counts)
    → Passes bytes items rest → Step rest last left → new ≡ looked last (hit_each items old) → new.failed ≤ old.failed + stopped bytes
search_failed bytes items rest left None old new p step is = omega (arith, ap (λ (c : Counts). c.failed) is, (hit_each-counts items old).failed)
search_failed bytes items rest left (Some (Ok x)) old new p step is = omega (arith, ap (λ (c : Counts). c.failed) is, (hit_each-counts items old).failed)
search_failed bytes items rest left (Some (Err e)) old new p step is =
    omega (arith, ap (λ (c : Counts). c.failed) is, (hit_each-counts items old).failed, stopped_passed items bytes rest p, stopped_fault rest e step.0 step.1)

-- the header of a next hop, and the search through its attributes
pub sought : (outer type : RouteLwEnCapType) (inside : List ℕ) (old mid new : Counts) → mid ≡ hit old → Searches outer inside type mid new
    → SoughtIn inside old new
sought outer type inside old mid new is s =
    let p = searched item_type outer inside type mid new s in
    let failed = search_failed inside s.before s.rest s.left s.last mid new s.passes s.step s.looks in
    let a = ap (λ (c : Counts). c.successful) is in
    let b = ap (λ (c : Counts). c.failed) is in
    record {
      kept = omega (arith, a, p.kept);
      most = omega (arith, a, p.successful, ahead_passed p.passed inside p.rest p.passes);
      failed_kept = omega (arith, b, p.failed_kept);
      failed = omega (arith, b, failed);
      header = λ below. omega (arith, a, p.kept, below);
    }
