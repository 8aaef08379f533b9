-- What stands in front of bytes, and what is left behind it.
use Rattle.std.proofs.Common.{◌≡◌, ℕ, min, ◌+◌, ◌-◌, ◌≤◌, List, ◌++◌, length, take, drop, Some, Ok, sym, ap, subst, ◌∙◌, append_assoc, arith, length-append, length-drop}
use Rattle.std.proofs.lemmas.List.{take-append-drop, length-take, drop_at, drop_min, drop-drop}
use Rattle.npr_base.specs.Framing.{pad}
use Rattle.netlink_packet_core.specs.Header.{header}
use Rattle.netlink_packet_core.specs.Envelope.{Envelope, Tail, EnvelopeFront, EnvelopeBegins, EnvelopeStep}
use Rattle.netlink_packet_core.specs.declared.header.NetlinkHeader.{NetlinkHeader}

pub begins : (offset : ℕ) (bs : List ℕ) (h : NetlinkHeader) → 16 ≤ length bs → h ≡ header.decode (take 16 bs) → 16 ≤ h.length → h.length ≤ length bs
    → EnvelopeBegins offset bs (Ok (record { header = h; payload = take (h.length - 16) (drop 16 bs) }))
begins offset bs h long read low high =
    let v : List ℕ = take (h.length - 16) (drop 16 bs) in
    let more : List ℕ = drop (h.length - 16) (drop 16 bs) in
    let whole : bs ≡ (take 16 bs ++ v) ++ more = sym (append_assoc (take 16 bs) v more ∙ ap (λ (w : List ℕ). take 16 bs ++ w) (take-append-drop (h.length - 16) (drop 16 bs)) ∙ take-append-drop 16 bs) in
    (take 16 bs, more, whole, omega (arith, length-take 16 bs), read, omega (arith, length-take (h.length - 16) (drop 16 bs), length-drop 16 bs))

-- the padding is taken from what follows
regroup : (f v more : List ℕ) (p : ℕ) → (f ++ v) ++ more ≡ (f ++ (v ++ take p more)) ++ drop p more
regroup f v more p = ap (λ (w : List ℕ). (f ++ v) ++ w) (sym (take-append-drop p more)) ∙ simp append_assoc

past : (f v more : List ℕ) (p : ℕ) → drop (length f + length v + p) ((f ++ v) ++ more) ≡ drop p more
past f v more p =
    sym (drop-drop p (length f + length v) ((f ++ v) ++ more)) ∙ ap (drop p) (drop_at (f ++ v) more (length f + length v) (length-append f v))

pub steps : (offset : ℕ) (bs : List ℕ) (x : Envelope) (whole : ℕ) → EnvelopeBegins offset bs (Ok x)
    → whole ≡ 16 + length x.payload + pad (length x.payload) → EnvelopeFront bs x (drop (min whole (length bs)) bs)
steps offset bs x whole (front, more, is, size, header, counts) whole_is =
    let p : ℕ = pad (length x.payload) in
    let at : whole ≡ length front + length x.payload + p = omega arith in
    let cut : drop (min whole (length bs)) bs ≡ drop p more = drop_min whole bs ∙ ap (λ (n : ℕ). drop n bs) at ∙ ap (drop (length front + length x.payload + p)) is ∙ past front x.payload more p in
    record {
      front = front;
      padding = take p more;
      is = rw cut (is ∙ regroup front x.payload more p);
      size = size;
      header = header;
      counts = counts;
      most = omega (arith, length-take p more);
      whole = rw cut (λ h. omega (arith, length-take p more, length-drop p more));
    }

pub steps_to : (old inside : Tail) (x : Envelope) (whole count : ℕ) (new : Tail) → inside ≡ old → EnvelopeBegins inside.offset inside.bytes (Ok x)
    → whole ≡ 16 + length x.payload + pad (length x.payload) → count ≡ min whole (length inside.bytes)
    → new ≡ record { offset = old.offset + count; bytes = drop count old.bytes } → EnvelopeStep old (Some (Ok x)) new
steps_to old inside x whole count new same b whole_is count_is moved =
    let begin : EnvelopeBegins old.offset old.bytes (Ok x) = subst (λ (w : Tail). EnvelopeBegins w.offset w.bytes (Ok x)) same b in
    let count_here : count ≡ min whole (length old.bytes) = subst (λ (w : Tail). count ≡ min whole (length w.bytes)) same count_is in
    let here : EnvelopeStep old (Some (Ok x)) (record { offset = old.offset + count; bytes = drop count old.bytes })
    = (subst (λ (n : ℕ). EnvelopeFront old.bytes x (drop n old.bytes)) (sym count_here) (steps old.offset old.bytes x whole begin whole_is), omega (arith, length-drop count old.bytes)) in
    subst (λ (w : Tail). EnvelopeStep old (Some (Ok x)) w) (sym moved) here
