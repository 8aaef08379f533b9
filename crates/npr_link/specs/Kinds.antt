-- Kinds by their names: some are known, and any other is kept. A name is a text with one final zero, which may be missing where it
-- is read.
use Rattle.std.specs.Prelude.{ℕ, Bool, true, false, List, [], ◌∷◌, ◌++◌, ◌==◌, Option, Some, None, if◌then◌else◌}
use Rattle.std.specs.Str.{IsUtf8, bytes_eq}
use Rattle.std.proofs.Common.{◌≡◌, refl, sym, ap, subst, ◌∙◌, inl, inr, length, drop, get_or, arith, length-append}
use Rattle.std.proofs.lemmas.Bool.{eqb-true, eqb-false}
use Rattle.npr_base.specs.Codec.{Codec, no_members}
use Rattle.npr_base.specs.Name.{IsName, name}
use Rattle.npr_base.specs.NameText.{IsUnterminated}
use Rattle.npr_base.specs.Numbering.{Numbering, IsFormed, of_IsFormed}
use Rattle.npr_base.specs.Showing.{Showing}
use Rattle.npr_base.specs.Value.{is_name}

-- by its name: one of those that are known, or another
pub data Kind : Type 0 where
  known : List ℕ → Kind
  other : List ℕ → Kind

abbrev pub kind_name : Kind → List ℕ
kind_name (known text) = text
kind_name (other text) = text

abbrev pub has : List (List ℕ) → List ℕ → Bool
has [] text = false
has (n ∷ names) text = if bytes_eq text n then true else has names text

abbrev pub kind_by : Bool → List ℕ → Kind
kind_by true text = known text
kind_by false text = other text

-- the kind of a name among these
abbrev pub kind_in : List (List ℕ) → List ℕ → Kind
kind_in names text = kind_by (has names text) text

pub name-back : (b : Bool) (text : List ℕ) → kind_name (kind_by b text) ≡ text
name-back true text = refl
name-back false text = refl

abbrev pub kinds : List (List ℕ) → Numbering (List ℕ) Kind
kinds names = record { of = kind_in names; number = kind_name; back = λ text. name-back (has names text) text }

module _ (names : List (List ℕ)) where
  abbrev pub IsKind : List ℕ → Kind → Type 0
  IsKind bytes k = IsName bytes (kind_name k) × IsFormed (kinds names) k

  pub kind-one : (bytes : List ℕ) (x y : Kind) → IsKind bytes x → IsKind bytes y → x ≡ y
  kind-one bytes x y p q = p.1 ∙ ap (kind_in names) (name.one_reading bytes (kind_name x) (kind_name y) p.0 q.0) ∙ sym q.1

  pub kind-whole : (bytes text : List ℕ) → IsName bytes text → IsKind bytes (kind_in names text)
  kind-whole bytes text is = (subst (IsName bytes) (sym ((kinds names).back text)) is, of_IsFormed (kinds names) text)

  -- a kind is seen as its name
  abbrev pub kind_showing : Showing IsKind name.Wrong
  kind_showing = record {
    form = name.showing.form;
    sees = λ bytes k. is_name (kind_name k);
    shows = λ bytes s k p q. name.showing.shows bytes s (kind_name k) p q.0;
    whole = λ bytes s w p. let text = name.showing.whole bytes s w p in (kind_in names text.0, kind-whole bytes text.0 text.1);
    wrong = name.showing.wrong;
  }

  abbrev pub kind_codec : Codec Kind
  kind_codec = record {
    Reads = IsKind;
    Wrong = name.Wrong;
    encode = λ k. name.encode (kind_name k);
    unfit = λ kind k. None;
    Holds = λ k. IsUtf8 (kind_name k) × IsFormed (kinds names) k;
    members = no_members;
    one_reading = kind-one;
    no_fault = λ at bytes k e p q. name.no_fault at bytes (kind_name k) e p.0 q;
    reads_holds = λ bytes k is p. (name.reads_holds bytes (kind_name k) is p.0, p.1);
    reads_back = λ kind k h f. (name.reads_back kind (kind_name k) h.0 refl, h.1);
    grows = λ bytes k is p. name.grows bytes (kind_name k) is p.0;
    showing = kind_showing;
  }

-- what the name is among these, of what a program makes of it: the kind that is known, or none
module _ {K : Type 0} (kind_of : K → Kind) (names : List (List ℕ)) (text : List ℕ) where
  abbrev pub IsKnown : Option K → Type 0
  IsKnown (Some k) = kind_of k ≡ kind_in names text
  IsKnown None = kind_in names text ≡ other text

-- a name is read as the kind that it is known as
pub known_reads : (names : List (List ℕ)) (bytes text told : List ℕ) (k : Kind) → IsName bytes text → told ≡ text → k ≡ kind_in names told
    → IsKind names bytes k
known_reads names bytes text told k is same known_as =
    let t : text ≡ kind_name k = sym (ap kind_name known_as ∙ (kinds names).back told ∙ same) in
    (subst (IsName bytes) t is, known_as ∙ ap (kind_in names) (same ∙ t))

-- reading takes memory for a name that is none of these
abbrev pub TakesMemory : List (List ℕ) → List ℕ → Type 0
TakesMemory names bytes = (text : List ℕ) × IsName bytes text × (kind_in names text ≡ other text)
