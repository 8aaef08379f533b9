-- Addresses as attributes whose kinds are not looked at, with what holds of them.
--     IsTarget, IsNoTarget       an attribute is an address of so many octets, or why it is none
--     target, targets            an address as the attribute at a place, and addresses from a place on
--     address_bytes              the bytes of a list
--     target_reading             the family of such attributes, as if each were written with the number 0
--     targets-read, targets-grow
--                                what is written is read again, and is at most five halves as long as what was read
--     in_order, targets-numbered
--                                what an attribute can hold is numbered 0, 1, 2 and so on
use Rattle.std.specs.Prelude.{None, false}
use Rattle.std.proofs.Common.{◌≡◌, ℕ, ◌+◌, ◌%◌, ◌^◌, ◌*◌, ◌<◌, ◌≤◌, true, List, [], ◌∷◌, length, refl, ap, arith, length-append, lit<}
use Rattle.std.proofs.lemmas.Bool.{ltb-true}
use Rattle.npr_base.specs.declared.attribute_set.At.{At}
use Rattle.npr_base.specs.declared.refusal.DecodeError.{DecodeError}
use Rattle.npr_base.specs.declared.value.Form.TheVariants.{Inside}
use Rattle.npr_base.specs.Codec.{exactly}
use Rattle.npr_base.specs.lemmas.Codec.{exactly-one, exactly-sound, exactly-holds, exactly-back, exactly-grows}
use Rattle.npr_base.specs.Family.{Writing, Reading, written_by}
use Rattle.npr_base.specs.Framing.{Item, Small, IsBytes, encoding, framed}
use Rattle.npr_base.specs.Layout.{octets}
use Rattle.npr_base.specs.lemmas.List.{encoding-front, length-encoding, list-grows}
use Rattle.npr_base.specs.Lists.{AllOf, ReadsList, encodings, is_short}
use Rattle.npr_base.specs.lemmas.Looks.{none-most, none-saw}
use Rattle.npr_base.specs.Looking.{no_looking}
use Rattle.npr_base.specs.Refusal.{no_place}
use Rattle.npr_base.specs.Value.{is_inside}

abbrev pub IsTarget : ℕ → Item → List ℕ → Type 0
IsTarget size x address = (exactly (octets size)).Reads x.value address

-- `at` is the attribute that holds the list
abbrev pub IsNoTarget : ℕ → At → Item → DecodeError → Type 0
IsNoTarget size at x e = (exactly (octets size)).Wrong at x.value e

-- a number has 16 bits
abbrev pub target : ℕ → List ℕ → Item
target place address = record { kind = place % 2 ^ 16; value = address }

abbrev pub targets : ℕ → List (List ℕ) → List Item
targets place [] = []
targets place (a ∷ xs) = target place a ∷ targets (place + 1) xs

abbrev pub address_bytes : List (List ℕ) → List ℕ
address_bytes addresses = encodings (λ x. x) (targets 0 addresses)

-- ---- the family

abbrev pub target_writing : Writing (List ℕ)
target_writing = record {
  shape = λ a. record { item = record { kind = 0; value = a }; nested = false; unfit = None };
  members = λ a. 0;
}

abbrev pub target_reading : ℕ → Reading target_writing
target_reading size = record {
  Reads = IsTarget size;
  Faulty = IsNoTarget size no_place;
  looks = no_looking;
  Coherent = (octets size).Holds;
  one_reading = λ x a b p q. exactly-one (octets size) x.value a b p q;
  no_fault = λ x a e p q. exactly-sound (octets size) no_place x.value a e p q;
  reads_coherent = λ x a proper p. exactly-holds (octets size) x.value a proper.value p;
  kinds = λ a h. lit< tt;
  reads_back = λ a h fits. exactly-back (octets size) a h;
  grows = λ x a proper p. exactly-grows (octets size) x.value a proper.value p;
  bounded = λ x old new p. none-most (length x.value) old new p;
  saw = λ x a old new reads p. none-saw old new p;
  seeing = record {
    form_at = λ k. (no_place, Inside);
    sees = λ x a. is_inside x.value;
    shows = λ x s a p q. p;
    whole = λ x s w p. absurd w;
    wrong = λ x e p. absurd p;
  };
}

-- ---- the list

-- what is written is read again, from whatever place on
pub targets-read : (size : ℕ) → is_short size ≡ true → (place : ℕ) (xs : List (List ℕ)) → AllOf (octets size).Holds xs
    → ReadsList (IsTarget size) (encodings (λ x. x) (targets place xs)) xs
targets-read size short place [] all = ([], refl, tt)
targets-read size short place (a ∷ xs) all =
    let x = target place a in
    let rest = encodings (λ y. y) (targets (place + 1) xs) in
    let later = targets-read size short (place + 1) xs all.1 in
    let few : size < 65532 = ltb-true size 65532 short in
    let small : Small x = record { kind = omega arith; value = omega (arith, few, all.0.0) } in
    (x ∷ later.0, (rest, encoding-front x rest small, later.1), (exactly-back (octets size) a all.0, later.2))

-- whatever the numbers are, they take the same bytes
length-targets : (place : ℕ) (xs : List (List ℕ)) → length (encodings (λ x. x) (targets place xs)) ≡ length (encodings (written_by target_writing) xs)
length-targets place [] = refl
length-targets place (a ∷ xs) =
    let x = target place a in
    let y = written_by target_writing a in
    omega (
      arith,
      length-append (encoding x) (encodings (λ z. z) (targets (place + 1) xs)),
      length-append (encoding y) (encodings (written_by target_writing) xs),
      length-encoding x,
      length-encoding y,
      length-targets (place + 1) xs,
    )

pub targets-grow : (size : ℕ) (bytes : List ℕ) (xs : List (List ℕ)) → IsBytes bytes → ReadsList (IsTarget size) bytes xs
    → 2 * framed (length (address_bytes xs)) ≤ 5 * (4 + length bytes)
targets-grow size bytes xs is p =
    rw (length-targets 0 xs) (list-grows (written_by target_writing) (IsTarget size) (target_reading size).grows bytes xs is p)

-- ---- the numbers

-- addresses numbered from a place on, however many they are
abbrev pub in_order : ℕ → List (List ℕ) → List Item
in_order place [] = []
in_order place (a ∷ xs) = record { kind = place; value = a } ∷ in_order (place + 1) xs

targets-long : (place : ℕ) (xs : List (List ℕ)) → 4 * length xs ≤ length (encodings (λ x. x) (targets place xs))
targets-long place [] = omega arith
targets-long place (a ∷ xs) =
    let x = target place a in
    omega (arith, length-append (encoding x) (encodings (λ z. z) (targets (place + 1) xs)), length-encoding x, targets-long (place + 1) xs)

targets-same : (place : ℕ) (xs : List (List ℕ)) → place + length xs ≤ 2 ^ 16 → targets place xs ≡ in_order place xs
targets-same place [] few = refl
targets-same place (a ∷ xs) few =
    let number : place % 2 ^ 16 ≡ place = omega arith in
    λ i. record { kind = number i; value = a } ∷ targets-same (place + 1) xs (omega arith) i

pub targets-numbered : (xs : List (List ℕ)) → length (address_bytes xs) ≤ 65531 → address_bytes xs ≡ encodings (λ x. x) (in_order 0 xs)
targets-numbered xs few = ap (encodings (λ x. x)) (targets-same 0 xs (omega (arith, targets-long 0 xs, few)))
