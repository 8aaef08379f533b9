-- Addresses that were read, summed and written so far, one after the other.
use Rattle.std.proofs.Common.{◌≡◌, ℕ, ◌+◌, ◌-◌, ◌<◌, ◌≤◌, List, [], ◌∷◌, ◌++◌, length, map, get_or, take, drop, refl, sym, ap, ◌∙◌, arith, append_assoc, length-append, length-take}
use Rattle.std.proofs.lemmas.List.{append-nil, length-map, length_push, map-append, map_push, take-append-drop, take_more}
use Rattle.npr_base.specs.declared.attribute_set.At.{At}
use Rattle.npr_base.specs.declared.refusal.DecodeError.{DecodeError}
use Rattle.npr_base.specs.declared.refusal.DecodeError.TheVariants.{ValueLength}
use Rattle.npr_base.specs.Counts.{Counts, hit, miss}
use Rattle.npr_base.specs.Framing.{Item, Front, Fault, encoding, framed}
use Rattle.npr_base.specs.lemmas.Front.{Front-takes}
use Rattle.npr_base.specs.lemmas.List.{length-encoding}
use Rattle.npr_base.specs.Lists.{ReadsTo, encodings}
use Rattle.npr_base.specs.Looks.{list_ends, none_stands, faulty_stands, passed}
use Rattle.npr_base.specs.Refusal.{no_place}
use Rattle.npr_base.proofs.Lists.{ReadsTo-more}
use Rattle.npr_base.proofs.Looking.{SoFar, SoFar-more, AddsAtMost-none}
use Rattle.npr_link_devices.specs.Addresses.{AddressesLooks}
use Rattle.npr_link_devices.specs.Targets.{IsTarget, IsNoTarget, target, targets, address_bytes}

-- ---- what is written

abbrev bytes_from : ℕ → List (List ℕ) → List ℕ
bytes_from place xs = encodings (λ x. x) (targets place xs)

bytes-both : (place : ℕ) (xs ys : List (List ℕ)) → bytes_from place (xs ++ ys) ≡ bytes_from place xs ++ bytes_from (place + length xs) ys
bytes-both place [] ys = ap (λ (n : ℕ). bytes_from n ys) (omega arith)
bytes-both place (x ∷ xs) ys =
    let one = encoding (target place x) in
    let same : place + 1 + length xs ≡ place + length (x ∷ xs) = omega arith in
    ap (λ (w : List ℕ). one ++ w) (bytes-both (place + 1) xs ys ∙ ap (λ (n : ℕ). bytes_from (place + 1) xs ++ bytes_from n ys) same)
    ∙ sym (append_assoc one (bytes_from (place + 1) xs) (bytes_from (place + length (x ∷ xs)) ys))

module _ {A : Type 0} (octets : A → List ℕ) (all : List A) where
  abbrev pub bytes_to : ℕ → List ℕ
  bytes_to i = address_bytes (map octets (take i all))

  -- the next one
  pub bytes-next : (i : ℕ) (x : A) → i < length all → x ≡ get_or all i x → bytes_to (i + 1) ≡ bytes_to i ++ encoding (target i (octets x))
  bytes-next i x lt is =
      let done = map octets (take i all) in
      let next : take (i + 1) all ≡ take i all ++ x ∷ [] = take_more all i x lt ∙ ap (λ (y : A). take i all ++ y ∷ []) (sym is) in
      let count : 0 + length done ≡ i = omega (arith, length-map (take i all) octets, length-take i all, lt) in
      ap (λ (xs : List A). address_bytes (map octets xs)) next ∙ ap address_bytes (map_push octets (take i all) x) ∙ bytes-both 0 done (octets x ∷ [])
      ∙ ap (λ (n : ℕ). bytes_to i ++ bytes_from n (octets x ∷ [])) count
      ∙ ap (λ (w : List ℕ). bytes_to i ++ w) (append-nil (encoding (target i (octets x))))

  -- and how long they are with it
  pub length-next : (i : ℕ) (x : A) → i < length all → x ≡ get_or all i x → length (bytes_to (i + 1)) ≡ length (bytes_to i) + framed (length (octets x))
  length-next i x lt is =
      omega (arith, ap length (bytes-next i x lt is), length-append (bytes_to i) (encoding (target i (octets x))), length-encoding (target i (octets x)))

  -- some are no longer than all
  pub bytes-below : (i : ℕ) → length (bytes_to i) ≤ length (address_bytes (map octets all))
  bytes-below i =
      let done = map octets (take i all) in
      let parts = ap (map octets) (sym (take-append-drop i all)) ∙ map-append octets (take i all) (drop i all) in
      omega (arith, ap length (ap address_bytes parts ∙ bytes-both 0 done (map octets (drop i all))), length-append (bytes_to i) (bytes_from (0 + length done) (map octets (drop i all))))

-- ---- what is read

pub record SoFarRead (size : ℕ) (bytes : List ℕ) (start now : Counts) (xs : List (List ℕ)) (rest : List ℕ) : Type 0 where
  pub read : ReadsTo (IsTarget size) bytes xs rest
  pub left : length rest ≤ length bytes
  pub exact : (end : Counts) → AddressesLooks size rest now end → AddressesLooks size bytes start end
  pub looks : SoFar start now (length bytes - length rest) (length xs)

pub none_read : (size : ℕ) (bytes : List ℕ) (start : Counts) → SoFarRead size bytes start start [] bytes
none_read size bytes start = record {
  read = ([], refl, tt);
  left = omega arith;
  exact = λ end later. later;
  looks = record { kept = omega arith; successful = omega arith; failed = refl };
}

module _ (size : ℕ) (bytes : List ℕ) (start now : Counts) (xs : List (List ℕ)) (walk : List ℕ) (past : SoFarRead size bytes start now xs walk) where
  -- reading an address looks at no header in it
  pub one_read : (rest : List ℕ) (x : Item) (a : List ℕ) → Front walk x rest → IsTarget size x a → SoFarRead size bytes start (hit now) (xs ++ a ∷ []) rest
  one_read rest x a f reads =
      let took = Front-takes walk x rest f in
      let fewer : (length bytes - length walk) + (4 + length x.value) ≤ length bytes - length rest = omega (arith, took, past.left) in
      let more = SoFar-more start now (hit now) (length bytes - length walk) (length xs) (length x.value) (length bytes - length rest) past.looks (AddsAtMost-none (hit now) (length x.value)) refl fewer in
      record {
        read = ReadsTo-more (IsTarget size) bytes xs walk x a rest past.read f reads;
        left = omega (arith, took, past.left);
        exact = λ end later. past.exact end (passed x rest a (hit now) f reads refl later);
        looks = rw (length_push xs a) more;
      }

  pub looks-end : (new : Counts) → walk ≡ [] → new ≡ now → AddressesLooks size bytes start new
  looks-end new is p = past.exact new (list_ends is p)

  pub looks-cut : (new : Counts) (e : DecodeError) → 0 < length walk → Fault walk e → new ≡ miss now → AddressesLooks size bytes start new
  looks-cut new e left bad p = past.exact new (none_stands e left bad p)

  -- wherever the list stands
  pub looks-faulty : (new : Counts) (rest : List ℕ) (x : Item) (at : At) (e : DecodeError) → Front walk x rest → IsNoTarget size at x e → new ≡ hit now
      → AddressesLooks size bytes start new
  looks-faulty new rest x at e f bad p = past.exact new (faulty_stands x rest (ValueLength no_place (length x.value)) f (bad.0, refl) p)
