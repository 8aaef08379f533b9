-- Attributes of a reading stand in the value of an attribute: it means something exactly where they do.
use Rattle.std.specs.Prelude.{◌≡◌, ℕ, ◌≤◌, List, length, drop}
use Rattle.npr_base.specs.declared.refusal.DecodeError.{DecodeError}
use Rattle.npr_base.specs.Family.{Writing, Reading}
use Rattle.npr_base.specs.Framing.{Item, number_of}
use Rattle.npr_base.specs.Lists.{ReadsList, FirstFault}

-- in values of this number, behind so many bytes: what is inside is read where the attribute is, and its first fault is that of
-- the attribute
pub record Opens {M P : Type 0} {w : Writing M} {v : Writing P} (f : Reading w) (g : Reading v) (number front : ℕ) (bytes : List ℕ) : Type 0 where
  pub long : front ≤ length bytes
  pub down : (x : Item) (m : M) → number_of x.kind ≡ number → x.value ≡ bytes → f.Reads x m → (ps : List P) × ReadsList g.Reads (drop front bytes) ps
  pub up : (x : Item) (ps : List P) → number_of x.kind ≡ number → x.value ≡ bytes → ReadsList g.Reads (drop front bytes) ps → (m : M) × f.Reads x m
  pub fault : (x : Item) (e : DecodeError) → number_of x.kind ≡ number → x.value ≡ bytes → FirstFault g.Reads g.Faulty (drop front bytes) e → f.Faulty x e
