-- What values of a reader of its own mean, and that each means something or nothing.
--     addresses        bytes of a multiple of sixteen are addresses
--     seg6_there       behind a layout that the bytes have room for, there is a header
--     local_or_not, rpl_or_not, trace_or_not
--                      bytes are a header of the family, or none
use Rattle.std.specs.List.{concat}
use Rattle.std.proofs.Common.{◌≡◌, ℕ, ◌+◌, ◌-◌, ◌*◌, ◌/◌, ◌%◌, ◌≤◌, ◌⊎◌, List, [], ◌∷◌, ◌++◌, length, take, drop, reverse, slice_index}
use Rattle.std.proofs.Common.{zero, suc, Option, Some, None, refl, sym, ap, ◌∙◌, inl, inr, arith, subst, length-take, length-drop}
use Rattle.std.proofs.lemmas.Bool.{cases_eq, cases_lt}
use Rattle.std.proofs.lemmas.List.{nil_from_length, take-append-drop, take_at, get_or-take}
use Rattle.std.specs.Int.{w32, from_be_bytes}
use Rattle.npr_base.specs.V6List.{IsV6List}
use Rattle.npr_srh.specs.Headed.{Fixed, Headed, IsParted, IsHeaded, front_layout, parted_sizes, unread_headed}
use Rattle.npr_srh.specs.Keeping.{IsUnread}
use Rattle.npr_srh.specs.Rpl.{Rpl, RplFront, RplReadable, rpl_front}
use Rattle.npr_srh.specs.Seg6.{Seg6, IsSeg6, IsKey, HasFront, hmac_len}
use Rattle.npr_srh.specs.Seg6Local.{Local, local_front}
use Rattle.npr_srh.specs.Seg6Mode.{seg6_modes}
use Rattle.npr_srh.specs.Trace.{IsTrace, trace_layout}
use Rattle.npr_srh.specs.declared.ioam6.Ioam6TraceHdr.{Ioam6TraceHdr}
use Rattle.npr_srh.specs.declared.seg6_header.Seg6MessageBuffer.{Seg6MessageBuffer}
use Rattle.npr_srh.proofs.Headers.{seg6_read}

-- ---- addresses

so_many : (count : ℕ) (bytes : List ℕ) → length bytes ≡ 16 * count → (addresses : List (List ℕ)) × IsV6List bytes addresses
so_many zero bytes size = ([], (nil_from_length bytes (omega (arith, size)), tt))
so_many (suc count) bytes size =
    let later = so_many count (drop 16 bytes) (omega (arith, size, length-drop 16 bytes)) in
    let is = sym (take-append-drop 16 bytes) ∙ ap (λ (b : List ℕ). take 16 bytes ++ b) later.1.0 in
    (take 16 bytes ∷ later.0, (is, (omega (arith, size, length-take 16 bytes), later.1.1)))

pub addresses : (bytes : List ℕ) → length bytes % 16 ≡ 0 → (wire : List (List ℕ)) × IsV6List bytes wire
addresses bytes whole = so_many (length bytes / 16) bytes (omega (arith, whole))

-- ---- SEG6

key_there : (hmac : List ℕ) → (length hmac ≡ 0) ⊎ (length hmac ≡ 40) → (key : Option ℕ) × IsKey hmac key
key_there hmac (inl none) = (None, none)
key_there hmac (inr some) = (Some (from_be_bytes w32 (take 4 (drop 4 hmac))), (some, refl))

some_key : (b : Seg6MessageBuffer) (rest : List ℕ) → hmac_len b ≤ length rest
    → (length (take (hmac_len b) rest) ≡ 0) ⊎ (length (take (hmac_len b) rest) ≡ 40)
some_key b rest room = elim (cases_eq (b.flags / 8 % 2) 0) [
  | inl e ↦ inl (omega (arith, e, room, length-take (hmac_len b) rest))
  | inr e ↦ inr (omega (arith, e, room, length-take (hmac_len b) rest))
]

with_parts : (bytes : List ℕ) (b : Seg6MessageBuffer) (len : ℕ) (wire : List (List ℕ)) (key : Option ℕ) → HasFront bytes b len
    → IsV6List (take len (drop 12 bytes)) wire → IsKey (take (hmac_len b) (drop (12 + len) bytes)) key → (h : Seg6) × IsSeg6 bytes h
with_parts bytes b len wire key f list is =
    let h : Seg6 = record { mode = seg6_modes.of b.mode; segments = reverse wire; hmac = key } in
    (h, seg6_read bytes b len wire h f list refl refl is)

pub seg6_there : (bytes : List ℕ) (b : Seg6MessageBuffer) (len : ℕ) → HasFront bytes b len → (h : Seg6) × IsSeg6 bytes h
seg6_there bytes b len f =
    let behind = drop (12 + len) bytes in
    let list = take len (drop 12 bytes) in
    let wire = addresses list (omega (arith, f.long, f.room, f.split, f.whole, length-take len (drop 12 bytes), length-drop 12 bytes)) in
    let key = key_there (take (hmac_len b) behind) (some_key b behind (omega (arith, f.long, f.room, f.split, length-drop (12 + len) bytes))) in
    with_parts bytes b len wire.0 key.0 f wire.1 key.1

-- ---- a header of eight bytes in front

parted : (bytes : List ℕ) → 8 ≤ length bytes → length bytes ≡ 8 * (slice_index bytes 1 + 1) → (length bytes - 8) % 16 ≡ 0
    → (p : Headed (List ℕ)) × IsParted bytes p
parted bytes long len whole =
    let list = addresses (drop 8 bytes) (omega (arith, long, whole, length-drop 8 bytes)) in
    let p : Headed (List ℕ) = record { front = take 8 bytes; segments = list.0 } in (
      p,
      record {
        is = sym (take-append-drop 8 bytes) ∙ ap (λ (b : List ℕ). take 8 bytes ++ b) list.1.0;
        size = omega (arith, long, length-take 8 bytes);
        whole = list.1.1;
        len = omega (arith, len, get_or-take 8 bytes 1 0 (omega arith));
      },
    )

-- bytes part, or do not
pub parted_or_not : (bytes : List ℕ) → ((p : Headed (List ℕ)) × IsParted bytes p) ⊎ IsUnread IsParted bytes
parted_or_not bytes = elim (cases_lt (length bytes) 8) [
  | inl short ↦ inr (record { no = λ p is. omega (arith, short, (parted_sizes bytes p is).0) })
  | inr long ↦ elim (cases_eq (length bytes) (8 * (slice_index bytes 1 + 1))) [
    | inr other ↦ inr (record { no = λ p is. other (parted_sizes bytes p is).1 })
    | inl len ↦ elim (cases_eq ((length bytes - 8) % 16) 0) [
      | inr part ↦ inr (record { no = λ p is. part (parted_sizes bytes p is).2 })
      | inl whole ↦ inl (parted bytes long len whole)
    ]
  ]
]

module _ {F : Type 0} (L : Fixed F) (readable : (f : F) → L.Readable f ⊎ (L.Readable f → ⊥)) where
  same_front : (bytes : List ℕ) (p : Headed (List ℕ)) → IsParted bytes p → (h : Headed F) (is : IsHeaded L bytes h)
      → h.front ≡ (front_layout L 0).decode p.front
  same_front bytes p is h reads =
      let own = take_at reads.head (concat h.segments) 8 reads.parts.size in
      let one = sym own ∙ ap (take 8) (sym reads.parts.is ∙ is.is) ∙ take_at p.front (concat p.segments) 8 is.size in
      reads.front ∙ ap (front_layout L 0).decode one

  of_parts : (bytes : List ℕ) (p : Headed (List ℕ)) → IsParted bytes p
      → ((h : Headed F) × IsHeaded L bytes h) ⊎ IsUnread (IsHeaded L) bytes
  of_parts bytes p is =
      let front = (front_layout L 0).decode p.front in
      elim (readable front) [
        | inl can ↦ inl (record { front = front; segments = p.segments }, record { head = p.front; parts = is; front = refl; readable = can })
        | inr hidden ↦ inr (record { no = λ h reads. hidden (subst L.Readable (same_front bytes p is h reads) reads.readable) })
      ]

  -- bytes are a header, or none
  pub headed_or_not : (bytes : List ℕ) → ((h : Headed F) × IsHeaded L bytes h) ⊎ IsUnread (IsHeaded L) bytes
  headed_or_not bytes = elim (parted_or_not bytes) [
    | inl p ↦ of_parts bytes p.0 p.1
    | inr none ↦ inr (unread_headed L bytes none)
  ]

pub local_or_not : (bytes : List ℕ) → ((h : Local) × IsHeaded local_front bytes h) ⊎ IsUnread (IsHeaded local_front) bytes
local_or_not = headed_or_not local_front (λ f. inl tt)

rpl_readable : (f : RplFront) → RplReadable f ⊎ (RplReadable f → ⊥)
rpl_readable f = elim (cases_eq f.cmpri 0) [
  | inr other ↦ inr (λ r. other r.cmpri)
  | inl front ↦ elim (cases_eq f.cmpre 0) [
    | inr other ↦ inr (λ r. other r.cmpre)
    | inl last ↦ inl (record { cmpri = front; cmpre = last })
  ]
]

pub rpl_or_not : (bytes : List ℕ) → ((h : Rpl) × IsHeaded rpl_front bytes h) ⊎ IsUnread (IsHeaded rpl_front) bytes
rpl_or_not = headed_or_not rpl_front rpl_readable

-- ---- IOAM6

pub trace_or_not : (bytes : List ℕ) → ((t : Ioam6TraceHdr) × IsTrace bytes t) ⊎ IsUnread IsTrace bytes
trace_or_not bytes = elim (cases_eq (length bytes) 8) [
  | inl eight ↦ inl (trace_layout.decode bytes, (eight, refl))
  | inr other ↦ inr (record { no = λ t is. other is.0 })
]
