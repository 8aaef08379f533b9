-- Names: UTF-8 with one final zero, which may be missing where it is read.
use Rattle.std.specs.Prelude.{◌≡◌, ℕ, List, [], ◌∷◌, ◌++◌, None}
use Rattle.std.specs.Str.{IsUtf8}
use Rattle.std.proofs.Common.{refl, inl, ap, ◌∙◌}
use Rattle.npr_base.specs.declared.refusal.DecodeError.TheVariants.{NotUtf8}
use Rattle.npr_base.specs.Codec.{Codec, no_members}
use Rattle.npr_base.specs.Showing.{Showing}
use Rattle.npr_base.specs.Value.{is_name}
use Rattle.npr_base.specs.declared.value.Form.TheVariants.{Name as NameForm}
use Rattle.npr_base.specs.lemmas.Name.{name-one, name-grows}
pub use Rattle.npr_base.specs.NameText.{IsName, IsNoName}

abbrev pub name_showing : Showing IsName (λ at bytes e. IsNoName bytes × (e ≡ NotUtf8 at))
name_showing = record {
  form = NameForm;
  sees = λ bytes text. is_name text;
  shows = λ bytes s text p q. p.2 ∙ ap is_name (name-one bytes p.0 text p.1.1 q.1);
  whole = λ bytes s w p. (p.0, p.1);
  wrong = λ at bytes e p. p;
}

abbrev pub name : Codec (List ℕ)
name = record {
  Reads = IsName;
  Wrong = λ at bytes e. IsNoName bytes × (e ≡ NotUtf8 at);
  encode = λ text. text ++ 0 ∷ [];
  unfit = λ kind text. None;
  Holds = IsUtf8;
  members = no_members;
  one_reading = λ bytes x y p q. name-one bytes x y p.1 q.1;
  no_fault = λ at bytes x e p q. q.0.no_text x p.1 p.0;
  reads_holds = λ bytes x is p. p.0;
  reads_back = λ kind x h f. (h, inl refl);
  grows = λ bytes x is p. name-grows bytes x p.1;
  showing = name_showing;
}
