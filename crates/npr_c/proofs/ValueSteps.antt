-- A value that stands at a place, and the lists that values and messages hold.
use Rattle.std.proofs.Common.{◌≡◌, ℕ, ◌+◌, ◌-◌, ◌<◌, ◌≤◌, List, ◌++◌, length, take, drop, false, refl, sym, ap, subst, ◌∙◌, inl, inr}
use Rattle.std.proofs.Common.{arith, length-drop}
use Rattle.std.proofs.lemmas.List.{drop-drop, drop-take, take-append-drop, take_all}
use Rattle.netlink_packet_route.proofs.CanonicalAttributes.{begun-behind}
use Rattle.netlink_packet_route.specs.Framing.{Item, Front, number_of}
use Rattle.netlink_packet_route.specs.FrontLaws.{Front-same}
use Rattle.netlink_packet_route.specs.MessageKind.{header_size, Begins}
use Rattle.netlink_packet_route.specs.Nests.{reading_of, FromBytes, IsInside, OfNextHop, holds_list}
use Rattle.netlink_packet_route.specs.Value.{Shown}
use Rattle.netlink_packet_route.specs.Values.{Seen}
use Rattle.netlink_packet_route.specs.declared.framing.At.{At}
use Rattle.netlink_packet_route.specs.declared.kind.MessageKind.{MessageKind}
use Rattle.netlink_packet_route.specs.declared.nests.Nest.{Nest}
use Rattle.npr_c.proofs.NestLaws.{nest-back}
use Rattle.npr_c.proofs.Places.{found_in, rest_is, step_over}
use Rattle.npr_c.proofs.ValuePlaces.{stands_there}
use Rattle.npr_c.specs.Nests.{nest_context, nest_set, set_number}
use Rattle.npr_c.specs.Steps.{FoundAt, item_of}
use Rattle.npr_c.specs.Values.{BeginsAt, HopInside, InsideAt, ListFound, StandsInside, ValueFound, between, form_number, integer_of, length_of, no_list}
use Rattle.npr_c.specs.declared.steps.Step.{Step}
use Rattle.npr_c.specs.declared.values.ListStep.{ListStep}
use Rattle.npr_c.specs.declared.values.ValueStep.{ValueStep}

-- ---- values

abbrev pub value_over : List ℕ → ℕ → ℕ → At → Shown → List ℕ → ValueStep
value_over bytes at kind place s left = record {
  status = 0;
  number = 0;
  family = set_number place.set;
  kind = kind;
  form = form_number s;
  integer = integer_of s;
  value = at + 4;
  length = length_of s;
  next = length bytes - length left;
}

-- what stands at a place is one attribute
item_is : (bytes : List ℕ) (at : ℕ) (x : Item) (rest : List ℕ) (step : Step) → FoundAt bytes at step → Front (drop at bytes) x rest → x ≡ item_of bytes step
item_is bytes at x rest step found f = (Front-same (drop at bytes) x (item_of bytes step) rest (drop step.next bytes) f found.front).0

pub value_found : (bytes inside left : List ℕ) (at kind : ℕ) (nest : Nest) (x : Item) (rest : List ℕ) (place : At) (s : Shown) → at < length bytes
    → inside ≡ drop at bytes → Front inside x rest → left ≡ rest → kind ≡ number_of x.kind
    → place ≡ ((reading_of nest).reading.seeing.form_at (number_of x.kind)).0 → Seen (reading_of nest).reading x s
    → ValueFound bytes at nest (value_over bytes at kind place s left)
value_found bytes inside left at kind nest x rest place s within same f l k p seen =
    let step : Step = step_over bytes at x.kind x.value left in
    let found : FoundAt bytes at step = found_in bytes inside x.value left at x.kind x rest within same f refl l refl in
    let is : x ≡ item_of bytes step = item_is bytes at x rest step found (subst (λ (w : List ℕ). Front w x rest) same f) in
    let there : Seen (reading_of nest).reading (item_of bytes step) s = subst (λ (y : Item). Seen (reading_of nest).reading y s) is seen in
    record {
      step = step;
      stands = found;
      status = refl;
      number = refl;
      kind = k;
      family = ap (λ (a : At). set_number a.set) p;
      value = refl;
      next = refl;
      shown = s;
      seen = there;
      form = refl;
      integer = refl;
      length = refl;
      bytes = stands_there bytes (at + 4) (length x.value) ((reading_of nest).reading.seeing.form_at (number_of x.kind)).1 s there;
    }

-- ---- lists

abbrev pub list_over : Nest → ℕ → ℕ → ListStep
list_over nest at end =
    record { status = 0; number = 0; family = nest_set nest; context = nest_context nest; at = at; end = end }

list_found : (bytes : List ℕ) (nest : Nest) (at end : ℕ) (Of : Nest → ℕ → ℕ → Type 0) → at ≤ end → end ≤ length bytes → FromBytes nest
    → Of nest at end → ListFound bytes (list_over nest at end) Of
list_found bytes nest at end Of order within from of = record {
  nest = nest;
  status = refl;
  number = refl;
  family = refl;
  context = refl;
  named = nest-back nest from;
  order = order;
  within = within;
  of = of;
}

-- ---- of a message

pub begin_found : (kind : MessageKind) (bytes : List ℕ) (nest : Nest) (rest : List ℕ) → Begins kind bytes nest rest → FromBytes nest
    → BeginsAt kind bytes (list_over nest (length bytes - length rest) (length bytes))
begin_found kind bytes nest rest begins from =
    let n : ℕ = header_size kind in
    let is : rest ≡ drop n bytes = begun-behind kind bytes rest nest begins in
    let split : bytes ≡ take n bytes ++ rest = sym (take-append-drop n bytes) ∙ ap (λ (w : List ℕ). take n bytes ++ w) (sym is) in
    let all : take (length bytes) bytes ≡ bytes = take_all (length bytes) bytes (omega arith) in
    let there : between bytes (length bytes - length rest) (length bytes) ≡ rest =
    ap (drop (length bytes - length rest)) all ∙ rest_is bytes (take n bytes) rest split in
    let first : length bytes - length rest ≡ n = omega (arith, ap length is, length-drop n bytes, begins.reads.0) in
    inr (list_found bytes nest (length bytes - length rest) (length bytes)
    (λ inner at end. (at ≡ n) × (end ≡ length bytes) × Begins kind bytes inner (between bytes at end)) (omega arith) (omega arith) from
    (first, refl, subst (λ (w : List ℕ). Begins kind bytes nest w) (sym there) begins))

-- ---- inside a value

pub nothing_inside : (bytes inside value : List ℕ) (at number : ℕ) (outer : Nest) (x : Item) (rest : List ℕ) → inside ≡ drop at bytes
    → Front inside x rest → number ≡ number_of x.kind → value ≡ x.value → holds_list outer number value ≡ false → InsideAt bytes at outer (no_list 2 0)
nothing_inside bytes inside value at number outer x rest same f k v none =
    let front : Front (drop at bytes) x rest = subst (λ (w : List ℕ). Front w x rest) same f in
    let of_item : holds_list outer (number_of x.kind) x.value ≡ false = sym (λ i. holds_list outer (k i) (v i)) ∙ none in
    inl (
      refl,
      λ step found.
          subst (λ (y : Item). holds_list outer (number_of y.kind) y.value ≡ false) (item_is bytes at x rest step found front) of_item,
    )

module _ (bytes : List ℕ) (at : ℕ) (outer inner : Nest) (x : Item) (rest attributes : List ℕ) (within : at < length bytes)
    (f : Front (drop at bytes) x rest) (from : FromBytes inner) (holds : IsInside outer (number_of x.kind) x.value inner attributes) where
  abbrev front : ℕ
  front = holds.front

  abbrev size : ℕ
  size = length x.value

  abbrev step : Step
  step = step_over bytes at x.kind x.value rest

  found : FoundAt bytes at step
  found = found_in bytes (drop at bytes) x.value rest at x.kind x rest within refl f refl refl refl

  is : x ≡ item_of bytes step
  is = item_is bytes at x rest step found f

  counted : length attributes ≡ size - front
  counted = ap length holds.is ∙ length-drop front x.value

  abbrev first : ℕ
  first = at + 4 + size - length attributes

  begins_at : first ≡ at + 4 + front
  begins_at = omega (arith, counted, holds.long)

  -- the attributes are the end of the value
  there : between bytes first (at + 4 + size) ≡ attributes
  there =
      ap (λ (n : ℕ). drop n (take (at + 4 + size) bytes)) begins_at ∙ sym (drop-drop front (at + 4) (take (at + 4 + size) bytes))
      ∙ ap (drop front) (drop-take (at + 4) size bytes ∙ sym (ap (λ (y : Item). y.value) is)) ∙ sym holds.is

  abbrev Held : Item → List ℕ → Type 0
  Held y w = (i : IsInside outer (number_of y.kind) y.value inner w) × (i.front ≡ front)

  held : Held (item_of bytes step) (between bytes first (at + 4 + size))
  held = subst (λ (w : List ℕ). Held (item_of bytes step) w) (sym there) (subst (λ (y : Item). Held y attributes) is (holds, refl))

  inside_same : InsideAt bytes at outer (list_over inner first (at + 4 + size))
  inside_same =
      let last : at + 4 + size ≤ length bytes = omega (arith, found.within, found.end) in
      let stands : StandsInside outer step bytes inner first (at + 4 + size) = record {
        inside = held.0;
        begin = begins_at ∙ ap (λ (n : ℕ). at + 4 + n) (sym held.1);
        end_is = refl;
      } in
      inr (step, found, list_found bytes inner first (at + 4 + size) (StandsInside outer step bytes) (omega arith) last from stands)

pub inside_found : (bytes inside value attributes : List ℕ) (at number count : ℕ) (outer inner : Nest) (x : Item) (rest : List ℕ) → at < length bytes
    → inside ≡ drop at bytes → Front inside x rest → number ≡ number_of x.kind → value ≡ x.value → count ≡ length value → FromBytes inner
    → IsInside outer number value inner attributes → InsideAt bytes at outer (list_over inner (at + 4 + count - length attributes) (at + 4 + count))
inside_found bytes inside value attributes at number count outer inner x rest within same f k v n from holds =
    let front : Front (drop at bytes) x rest = subst (λ (w : List ℕ). Front w x rest) same f in
    let held : IsInside outer (number_of x.kind) x.value inner attributes =
    subst (λ (m : ℕ). IsInside outer m x.value inner attributes) k (subst (λ (w : List ℕ). IsInside outer number w inner attributes) v holds) in
    subst (λ (m : ℕ). InsideAt bytes at outer (list_over inner (at + 4 + m - length attributes) (at + 4 + m))) (sym (n ∙ ap length v))
    (inside_same bytes at outer inner x rest attributes within front from held)

-- ---- of a next hop

pub hop_list : (bytes inside : List ℕ) (at : ℕ) (outer inner : Nest) → at ≤ length bytes → inside ≡ drop at bytes → FromBytes inner
    → OfNextHop outer inside inner → HopInside bytes at outer (list_over inner at (length bytes))
hop_list bytes inside at outer inner within same from of =
    inr (list_found bytes inner at (length bytes) (λ l first end. (first ≡ at) × (end ≡ length bytes) × OfNextHop outer (drop at bytes) l) within
    (omega arith) from (refl, refl, subst (λ (w : List ℕ). OfNextHop outer w inner) same of))
