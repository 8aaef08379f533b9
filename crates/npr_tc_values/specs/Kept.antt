-- Values that are bytes as they stand, and tell what those are: nothing is lost, and no bytes are refused.
--     kept                 how they are read and written: by what bytes are read as, and the bytes of a value
--     as_kept, kept_case   where a context chooses them
use Rattle.std.proofs.Common.{◌≡◌, ℕ, ◌<◌, List, refl, sym, ap, subst, ◌∙◌}
use Rattle.std.specs.Prelude.{None}
use Rattle.npr_base.specs.Choices.{Held, Case}
use Rattle.npr_base.specs.Codec.{Codec, no_members}
use Rattle.npr_base.specs.declared.value.Form.TheVariants.{Raw}
use Rattle.npr_base.specs.Framing.{IsBytes}
use Rattle.npr_base.specs.lemmas.Codec.{raw-grows}
use Rattle.npr_base.specs.Numbering.{Numbering, IsFormed, of_IsFormed}
use Rattle.npr_base.specs.Showing.{Showing}
use Rattle.npr_base.specs.Value.{are_bytes}

module _ {V : Type 0} (n : Numbering (List ℕ) V) where
  -- the bytes of what bytes are read as
  pub kept-bytes : (bytes : List ℕ) (x : V) → x ≡ n.of bytes → n.number x ≡ bytes
  kept-bytes bytes x is = ap n.number is ∙ n.back bytes

  abbrev pub kept_holds : V → Type 0
  kept_holds x = IsBytes (n.number x) × IsFormed n x

  pub reads-hold : (bytes : List ℕ) (x : V) → IsBytes bytes → x ≡ n.of bytes → kept_holds x
  reads-hold bytes x proper is =
      subst kept_holds (sym is) (subst IsBytes (sym (n.back bytes)) proper, of_IsFormed n bytes)

  -- they are seen as they stand
  abbrev pub shows_kept : Showing (λ bytes x. x ≡ n.of bytes) (λ at bytes e. ⊥)
  shows_kept = record {
    form = Raw;
    sees = λ b x. are_bytes (n.number x);
    shows = λ b s x p q. p ∙ ap are_bytes (sym (kept-bytes b x q));
    whole = λ b s w p. (n.of b, refl);
    wrong = λ at b e p. p;
  }

  abbrev pub kept : Codec V
  kept = record {
    Reads = λ bytes x. x ≡ n.of bytes;
    Wrong = λ at bytes e. ⊥;
    encode = n.number;
    unfit = λ kind x. None;
    Holds = kept_holds;
    members = no_members;
    one_reading = λ bytes x y p q. p ∙ sym q;
    no_fault = λ at bytes x e p q. q;
    reads_holds = reads-hold;
    reads_back = λ kind x h fits. h.1;
    grows = λ bytes x proper is. raw-grows bytes (n.number x) proper (kept-bytes bytes x is);
    showing = shows_kept;
  }

  -- as what a context chooses; so many bytes of it lie in memory
  abbrev pub as_kept : (V → ℕ) → V → Held
  as_kept size x = record { encoded = n.number x; unfit = None; count = 0; size = size x; seen = λ b. are_bytes (n.number x) }

  abbrev pub kept_case : {W : Type 0} (held : W → Held) (size : V → ℕ) (made : V → W) → ((x : V) → held (made x) ≡ as_kept size x) → Case held
  kept_case held size made is = record {
    V = V;
    codec = kept;
    made = made;
    encoded = λ x. ap (λ (h : Held). h.encoded) (is x);
    unfit = λ kind x. ap (λ (h : Held). h.unfit) (is x);
    counted = λ x. ap (λ (h : Held). h.count) (is x);
    shown = λ b x. ap (λ (h : Held). h.seen b) (is x);
    memory = λ bytes. 0 < size (n.of bytes);
  }
