-- What stands in front of bytes is one message at most.
use Rattle.std.proofs.Common.{◌≡◌, ℕ, ◌+◌, ◌-◌, ◌*◌, ◌%◌, ◌<◌, ◌≤◌, List, [], ◌∷◌, ◌++◌, length, take, drop, refl, sym, ap, subst, ◌∙◌, append_assoc, arith, inl, inr, length-append}
use Rattle.std.proofs.lemmas.List.{take_at, drop_at, drop_all, drop-drop}
use Rattle.std.proofs.lemmas.Bool.{cases_lt}
use Rattle.std.specs.Int.{w32, from_le_bytes}
use Rattle.npr_base.specs.Framing.{pad}
use Rattle.netlink_packet_core.specs.Header.{header}
use Rattle.netlink_packet_core.specs.Envelope.{Envelope, EnvelopeFront, EnvelopePasses, IsDatagram, EnvelopeFault}
use Rattle.netlink_packet_core.specs.declared.header.NetlinkHeader.{NetlinkHeader}
use Rattle.netlink_packet_core.specs.declared.refusal.EnvelopeError.{EnvelopeError}
use Rattle.netlink_packet_core.specs.declared.refusal.EnvelopeError.TheVariants.{MessageTooShort, MessageLength}

-- what stands in front, computed
abbrev pub header_at : List ℕ → NetlinkHeader
header_at bs = header.decode (take 16 bs)

abbrev pub envelope_at : List ℕ → Envelope
envelope_at bs = record { header = header_at bs; payload = take ((header_at bs).length - 16) (drop 16 bs) }

abbrev pub rest_at : List ℕ → List ℕ
rest_at bs = drop ((header_at bs).length + pad ((header_at bs).length)) bs

-- padding of the same length may be longer, where nothing follows
rest_is : (v p rest : List ℕ) (n : ℕ) → n ≡ length v + pad (length v) → length p ≤ pad (length v) → (0 < length rest → length p ≡ pad (length v))
    → drop n ((v ++ p) ++ rest) ≡ rest
rest_is v p [] n size most whole = drop_all n ((v ++ p) ++ []) (omega (arith, length-append (v ++ p) [], length-append v p))
rest_is v p (r ∷ rest) n size most whole = drop_at (v ++ p) (r ∷ rest) n (omega (arith, length-append v p, whole (omega arith)))

envelope_is : (x : Envelope) (h : NetlinkHeader) (v : List ℕ) → x.header ≡ h → x.payload ≡ v → x ≡ record { header = h; payload = v }
envelope_is x h v p q = λ i. record { header = p i; payload = q i }

pub Front-header : (bs : List ℕ) (x : Envelope) (rest : List ℕ) → EnvelopeFront bs x rest → x.header ≡ header_at bs
Front-header bs x rest f =
    let front : take 16 bs ≡ f.front = ap (take 16) (f.is ∙ append_assoc f.front (x.payload ++ f.padding) rest) ∙ take_at f.front ((x.payload ++ f.padding) ++ rest) 16 f.size in
    f.header ∙ ap header.decode (sym front)

-- what stands in front is one message with one rest
pub Front-is : (bs : List ℕ) (x : Envelope) (rest : List ℕ) → EnvelopeFront bs x rest → (x ≡ envelope_at bs) × (rest ≡ rest_at bs)
Front-is bs x rest f =
    let h : x.header ≡ header_at bs = Front-header bs x rest f in
    let l : (header_at bs).length ≡ 16 + length x.payload = sym (ap (λ (k : NetlinkHeader). k.length) h) ∙ f.counts in
    let d : drop 16 bs ≡ (x.payload ++ f.padding) ++ rest
    = ap (drop 16) (f.is ∙ append_assoc f.front (x.payload ++ f.padding) rest) ∙ drop_at f.front ((x.payload ++ f.padding) ++ rest) 16 f.size in
    let v : (envelope_at bs).payload ≡ x.payload = ap (λ (m : ℕ). take (m - 16) (drop 16 bs)) l ∙ ap (take (16 + length x.payload - 16)) d
    ∙ ap (take (16 + length x.payload - 16)) (append_assoc x.payload f.padding rest)
    ∙ take_at x.payload (f.padding ++ rest) (16 + length x.payload - 16) (omega arith) in
    let m : ℕ = length x.payload + pad (length x.payload) in
    let size : (header_at bs).length + pad ((header_at bs).length) ≡ 16 + m = omega (arith, l) in
    let r : rest_at bs ≡ rest = ap (λ (n : ℕ). drop n bs) size ∙ sym (drop-drop m 16 bs) ∙ ap (drop m) d
    ∙ rest_is x.payload f.padding rest m refl f.most f.whole in
    (envelope_is x (header_at bs) (envelope_at bs).payload h (sym v), sym r)

pub Front-same : (bs : List ℕ) (x y : Envelope) (r s : List ℕ) → EnvelopeFront bs x r → EnvelopeFront bs y s → (x ≡ y) × (r ≡ s)
Front-same bs x y r s f g = let a = Front-is bs x r f in let b = Front-is bs y s g in (a.0 ∙ sym b.0, a.1 ∙ sym b.1)

pub Front-length : (bs : List ℕ) (x : Envelope) (rest : List ℕ) (f : EnvelopeFront bs x rest) → length bs ≡ 16 + length x.payload + length f.padding + length rest
Front-length bs x rest f =
    omega (arith, f.size, ap length f.is, length-append (f.front ++ (x.payload ++ f.padding)) rest, length-append f.front (x.payload ++ f.padding), length-append x.payload f.padding)

pub Front-shrinks : (bs : List ℕ) (x : Envelope) (rest : List ℕ) → EnvelopeFront bs x rest → length rest + 16 ≤ length bs
Front-shrinks bs x rest f = omega (arith, Front-length bs x rest f)

pub length_at-is : (bs : List ℕ) → 16 ≤ length bs → from_le_bytes w32 (take 4 bs) ≡ (header_at bs).length
length_at-is [] long = absurd (omega arith)
length_at-is (a ∷ []) long = absurd (omega arith)
length_at-is (a ∷ b ∷ []) long = absurd (omega arith)
length_at-is (a ∷ b ∷ c ∷ []) long = absurd (omega arith)
length_at-is (a ∷ b ∷ c ∷ d ∷ bs) long = refl

-- where one stands in front there is no fault
pub Front-sound : (offset : ℕ) (bs : List ℕ) (x : Envelope) (rest : List ℕ) (e : EnvelopeError) → EnvelopeFront bs x rest → EnvelopeFault offset bs e → ⊥
Front-sound offset bs x rest (MessageTooShort place left) f bad = absurd (omega (arith, Front-shrinks bs x rest f, bad.2))
Front-sound offset bs x rest (MessageLength place l left) f (_, _, long, is, bad) =
    let same : l ≡ x.header.length = is ∙ length_at-is bs long ∙ ap (λ (k : NetlinkHeader). k.length) (sym (Front-header bs x rest f)) in
    let size = Front-length bs x rest f in
    let counts = f.counts in
    elim bad [ inl low ↦ absurd (omega arith) | inr high ↦ absurd (omega arith) ]

-- and a fault is one
pub Fault-same : (offset : ℕ) (bs : List ℕ) (e g : EnvelopeError) → EnvelopeFault offset bs e → EnvelopeFault offset bs g → e ≡ g
Fault-same offset bs (MessageTooShort p l) (MessageTooShort q m) (a, b, c) (d, e, f) = λ i. MessageTooShort ((a ∙ sym d) i) ((b ∙ sym e) i)
Fault-same offset bs (MessageTooShort p l) (MessageLength q n m) (a, b, c) (d, e, f, _, _) = absurd (omega arith)
Fault-same offset bs (MessageLength p n l) (MessageTooShort q m) (a, b, c, _, _) (d, e, f) = absurd (omega arith)
Fault-same offset bs (MessageLength p n l) (MessageLength q o m) (a, b, c, n_is, _) (d, e, f, o_is, _) =
    λ i. MessageLength ((a ∙ sym d) i) ((n_is ∙ sym o_is) i) ((b ∙ sym e) i)

-- messages take 16 bytes each at least
pub Passes-length : (xs : List Envelope) (bs rest : List ℕ) → EnvelopePasses bs xs rest → 16 * length xs + length rest ≤ length bs
Passes-length [] bs rest p = omega (arith, ap length p)
Passes-length (x ∷ xs) bs rest (more, f, p) = omega (arith, Passes-length xs more rest p, Front-shrinks bs x more f)

-- a datagram is one list of messages
pub Datagram-same : (xs ys : List Envelope) (bs : List ℕ) → IsDatagram bs xs → IsDatagram bs ys → xs ≡ ys
Datagram-same [] [] bs p q = refl
Datagram-same [] (y ∷ ys) bs p (r, f, q) = absurd (omega (arith, ap length p, Front-shrinks bs y r f))
Datagram-same (x ∷ xs) [] bs (r, f, p) q = absurd (omega (arith, ap length q, Front-shrinks bs x r f))
Datagram-same (x ∷ xs) (y ∷ ys) bs (r, f, p) (s, g, q) =
    let e = Front-same bs x y r s f g in
    let t : xs ≡ ys = Datagram-same xs ys r p (subst (λ (b : List ℕ). IsDatagram b ys) (sym e.1) q) in
    λ i. e.0 i ∷ t i

-- and has no fault
pub Datagram-sound : (n : ℕ) (xs ys : List Envelope) (bs r : List ℕ) (e : EnvelopeError) → IsDatagram bs xs → EnvelopePasses bs ys r → 0 < length r
    → EnvelopeFault (n - length r) r e → ⊥
Datagram-sound n [] [] bs r e p q more bad = omega (arith, ap length p, ap length q)
Datagram-sound n [] (y ∷ ys) bs r e p (m, f, q) more bad = absurd (omega (arith, ap length p, Front-shrinks bs y m f))
Datagram-sound n (x ∷ xs) [] bs r e (m, f, p) q more bad = Front-sound (n - length r) r x m e (subst (λ (b : List ℕ). EnvelopeFront b x m) q f) bad
Datagram-sound n (x ∷ xs) (y ∷ ys) bs r e (m, f, p) (k, g, q) more bad =
    let same = Front-same bs x y m k f g in
    Datagram-sound n xs ys m r e p (subst (λ (b : List ℕ). EnvelopePasses b ys r) (sym same.1) q) more bad

-- what stops, stops behind the same messages with the same fault
pub Stop-same : (n : ℕ) (xs ys : List Envelope) (bs r s : List ℕ) (e g : EnvelopeError) → EnvelopePasses bs xs r → EnvelopePasses bs ys s
    → 0 < length r → 0 < length s → EnvelopeFault (n - length r) r e → EnvelopeFault (n - length s) s g → (xs ≡ ys) × (e ≡ g)
Stop-same n [] [] bs r s e g p q more_r more_s bad worse =
    let same : s ≡ r = sym q ∙ p in
    (refl, Fault-same (n - length r) r e g bad (subst (λ (b : List ℕ). EnvelopeFault (n - length b) b g) same worse))
Stop-same n [] (y ∷ ys) bs r s e g p (m, f, q) more_r more_s bad worse =
    absurd (Front-sound (n - length r) r y m e (subst (λ (b : List ℕ). EnvelopeFront b y m) p f) bad)
Stop-same n (x ∷ xs) [] bs r s e g (m, f, p) q more_r more_s bad worse =
    absurd (Front-sound (n - length s) s x m g (subst (λ (b : List ℕ). EnvelopeFront b x m) q f) worse)
Stop-same n (x ∷ xs) (y ∷ ys) bs r s e g (m, f, p) (k, h, q) more_r more_s bad worse =
    let same = Front-same bs x y m k f h in
    let rest = Stop-same n xs ys m r s e g p (subst (λ (b : List ℕ). EnvelopePasses b ys s) (sym same.1) q) more_r more_s bad worse in
    (λ i. same.0 i ∷ rest.0 i, rest.1)

-- ---- two datagrams, one behind the other

-- padding is whole where a multiple of four is left
whole_padding : (v p m : ℕ) → p ≤ pad v → (16 + v + p + m) % 4 ≡ 0 → (0 < m → p ≡ pad v) → (p ≡ pad v) × (m % 4 ≡ 0)
whole_padding v p m le e more = elim (cases_lt 0 m) [
  | inl some ↦ let full = more some in (full, omega arith)
  | inr none ↦ (omega arith, omega arith)
]

Front-before : (bs after : List ℕ) (x : Envelope) (rest : List ℕ) → EnvelopeFront bs x rest → length bs % 4 ≡ 0
    → EnvelopeFront (bs ++ after) x (rest ++ after) × (length rest % 4 ≡ 0)
Front-before bs after x rest f whole =
    let size = Front-length bs x rest f in
    let padded = whole_padding (length x.payload) (length f.padding) (length rest) f.most (omega arith) f.whole in (
      record {
        front = f.front;
        padding = f.padding;
        is = ap (λ (b : List ℕ). b ++ after) f.is ∙ append_assoc (f.front ++ (x.payload ++ f.padding)) rest after;
        size = f.size;
        header = f.header;
        counts = f.counts;
        most = f.most;
        whole = λ h. padded.0;
      },
      padded.1,
    )

pub Datagrams-joined : (xs ys : List Envelope) (first second : List ℕ) → length first % 4 ≡ 0 → IsDatagram first xs → IsDatagram second ys
    → IsDatagram (first ++ second) (xs ++ ys)
Datagrams-joined [] ys first second whole p q = subst (λ (b : List ℕ). IsDatagram (b ++ second) ys) (sym p) q
Datagrams-joined (x ∷ xs) ys first second whole (more, f, p) q =
    let b = Front-before first second x more f whole in
    (more ++ second, b.0, Datagrams-joined xs ys more second b.1 p q)
