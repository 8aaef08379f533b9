-- How a SEG6 header is read, part by part.
use Rattle.std.specs.List.{concat}
use Rattle.std.proofs.Common.{◌≡◌, ℕ, ◌+◌, List, ◌++◌, length, take, drop, reverse, sym, ap, ◌∙◌, arith, length-take, length-drop}
use Rattle.std.proofs.lemmas.List.{take-append-drop, drop-drop}
use Rattle.npr_base.specs.V6List.{IsV6List}
use Rattle.npr_srh.specs.declared.seg6_header.Seg6MessageBuffer.{Seg6MessageBuffer}
use Rattle.npr_srh.specs.Seg6Mode.{seg6_modes}
use Rattle.npr_srh.specs.Seg6.{Seg6, IsSeg6, IsKey, HasFront, hmac_len, header_len}

-- the parts of a SEG6 header
pub seg6_read : (bytes : List ℕ) (b : Seg6MessageBuffer) (len : ℕ) (wire : List (List ℕ)) (h : Seg6) → HasFront bytes b len → IsV6List (take len (drop 12 bytes)) wire
    → h.mode ≡ seg6_modes.of b.mode → h.segments ≡ reverse wire → IsKey (take (hmac_len b) (drop (12 + len) bytes)) h.hmac → IsSeg6 bytes h
seg6_read bytes b len wire h f list mode segments key =
    let same = f.front in
    let k = hmac_len b in
    let body : drop 12 bytes ≡ concat wire ++ drop (12 + len) bytes = sym (take-append-drop len (drop 12 bytes)) ∙ ap (λ (w : List ℕ). w ++ drop len (drop 12 bytes)) list.0 ∙ ap (λ (w : List ℕ). concat wire ++ w) (drop-drop len 12 bytes) in
    let last : drop (12 + len) bytes ≡ take k (drop (12 + len) bytes) ++ drop k (drop (12 + len) bytes) = sym (take-append-drop k (drop (12 + len) bytes)) in
    let count : length (concat wire) ≡ len = sym (ap length list.0) ∙ omega (arith, length-take len (drop 12 bytes), length-drop 12 bytes, f.long, f.room, f.split) in
    let tail : length (take k (drop (12 + len) bytes)) ≡ k = omega (arith, length-take k (drop (12 + len) bytes), length-drop (12 + len) bytes, f.long, f.room, f.split) in
    record {
      front = take 12 bytes;
      wire = wire;
      hmac = take k (drop (12 + len) bytes);
      rest = drop k (drop (12 + len) bytes);
      is = sym (take-append-drop 12 bytes) ∙ ap (λ (w : List ℕ). take 12 bytes ++ w) (body ∙ ap (λ (w : List ℕ). concat wire ++ w) last);
      size = omega (arith, length-take 12 bytes, f.long);
      whole = list.1;
      len = omega (arith, count, tail, f.split, ap header_len same);
      hmac_size = tail ∙ ap hmac_len same;
      mode = mode ∙ ap (λ (c : Seg6MessageBuffer). seg6_modes.of c.mode) same;
      segments = segments;
      key = key;
    }
