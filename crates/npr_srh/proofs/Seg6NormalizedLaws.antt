-- Headers and members of an older table of modes, brought up to the table of today: they are written by the same bytes, and
-- what bytes meant, they mean brought up.
use Rattle.std.specs.Prelude.{◌==◌}
use Rattle.std.proofs.Common.{◌≡◌, ℕ, ◌<◌, ◌^◌, List, inl, inr, length, refl, sym, ap, subst, ◌∙◌}
use Rattle.npr_base.specs.Lists.{unfit_of, option_or, too_long}
use Rattle.npr_base.specs.Framing.{Item, number_of}
use Rattle.npr_base.specs.lemmas.EnumTable.{matches}
use Rattle.npr_base.specs.Numbering.{of_IsFormed}
use Rattle.npr_base.specs.Family.{written_by, unfit_by}
use Rattle.npr_srh.specs.Segments.{too_many}
use Rattle.npr_srh.specs.Seg6.{Seg6, IsSeg6, IsSeg6By, HoldsSeg6By, seg6_bytes, most_segments, decode_message, normalized as normalized_header}
use Rattle.npr_srh.specs.Seg6Mode.{ModeTable, modes, seg6_modes, mode_number, modes_by}
use Rattle.npr_srh.specs.Seg6Tunnel.{Meaning, writing, normalized, attributes, attributes_by}
use Rattle.npr_srh.specs.declared.seg6_mode.Seg6Mode.{Seg6Mode}

-- ---- a header

-- the number stays
header-mode : (h : Seg6) → mode_number (normalized_header h).mode ≡ mode_number h.mode
header-mode h = seg6_modes.back (mode_number h.mode)

pub header-bytes : (h : Seg6) → seg6_bytes (normalized_header h) ≡ seg6_bytes h
header-bytes h = rw (header-mode h) refl

pub header-again : (h : Seg6) → normalized_header (normalized_header h) ≡ normalized_header h
header-again h = ap (λ (m : Seg6Mode). record { mode = m; segments = h.segments; hmac = h.hmac }) (ap seg6_modes.of (header-mode h))

header-holds : (by : ModeTable) (h : Seg6) → HoldsSeg6By by h → HoldsSeg6By modes (normalized_header h)
header-holds by h c = record {
  mode = subst (λ (n : ℕ). n < 2 ^ 32) (sym (header-mode h)) c.mode;
  formed = of_IsFormed seg6_modes (mode_number h.mode);
  whole = c.whole;
  segments = c.segments;
  key = c.key;
}

header-read : (by : ModeTable) (bytes : List ℕ) (h : Seg6) → IsSeg6By by bytes h → IsSeg6 bytes (normalized_header h)
header-read by bytes h p = record {
  front = p.front;
  wire = p.wire;
  hmac = p.hmac;
  rest = p.rest;
  is = p.is;
  size = p.size;
  whole = p.whole;
  len = p.len;
  hmac_size = p.hmac_size;
  mode = ap seg6_modes.of (ap mode_number p.mode ∙ (modes_by by).back (decode_message p.front).mode);
  segments = p.segments;
  key = p.key;
}

-- ---- a member

pub member-item : (m : Meaning) → written_by writing (normalized m) ≡ written_by writing m
member-item (inl h) = rw (header-bytes h) refl
member-item (inr m) = refl

pub member-unfit : (m : Meaning) → unfit_by writing (normalized m) ≡ unfit_by writing m
member-unfit (inl h) =
    let few = too_many (most_segments h.hmac) (length h.segments) in
    ap (λ (b : List ℕ). unfit_of (option_or (too_long 1 (length b)) few) (record { kind = 1; value = b })) (header-bytes h)
member-unfit (inr m) = refl

pub member-again : (m : Meaning) → normalized (normalized m) ≡ normalized m
member-again (inl h) = λ i. inl (header-again h i)
member-again (inr m) = refl

pub member-read : (by : ModeTable) (x : Item) (m : Meaning) → (attributes_by by).Reads x m → attributes.Reads x (normalized m)
unfolding attributes_by
member-read by x (inl h) p = matches (number_of x.kind == 1) (header-read by x.value h) (λ none. none) p
member-read by x (inr m) p = p

pub member-coherent : (by : ModeTable) (m : Meaning) → (attributes_by by).Coherent m → attributes.Coherent (normalized m)
unfolding attributes_by
member-coherent by (inl h) c = header-holds by h c
member-coherent by (inr (inl a)) c = c
member-coherent by (inr (inr (inl n))) c = c
member-coherent by (inr (inr (inr x))) c = record { proper = c.proper; alone = c.alone }
