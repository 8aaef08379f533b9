-- A message of one family, in a context that its header tells.
use Rattle.std.proofs.Common.{◌≡◌, ℕ, List, [], refl, ap, subst, sym, arith}
use Rattle.npr_base.specs.Counts.{Counts}
use Rattle.npr_base.specs.Layout.{Layout}
use Rattle.npr_base.specs.Family.{list_looking, Family}
use Rattle.npr_base.specs.Message.{Body, grammar_of, grammar_by, IsOfFamily, IsUnder, governs_by, none_searched}
use Rattle.npr_base.specs.Walk.{Searched}

pub of_family : {H A C : Type 0} (f : Family A C) (L : Layout H) (standard : H) (body : Body H f.writing) → IsOfFamily (grammar_of f L standard body) f
of_family f L standard body = record { written = λ xs. refl; unfit = λ xs. refl; members = λ xs. refl; alike = λ xs ys e. e }

pub unsearched : (bytes : List ℕ) (old new : Counts) → new ≡ old → Searched bytes old new
unsearched bytes old new same =
    let s = ap (λ (c : Counts). c.successful) same in
    let t = ap (λ (c : Counts). c.failed) same in
    record {
      passed = [];
      rest = bytes;
      passes = refl;
      kept = omega (arith, s);
      successful = omega (arith, s);
      failed_kept = omega (arith, t);
      failed = omega (arith, t);
      whole = λ items cut. t;
    }

-- in the context that the header tells
pub under_context : {H A C : Type 0} (f : Family A C) (L : Layout H) (standard : H) (context_of : H → C) (h : H) (bytes : List ℕ)
    → IsUnder (grammar_by f L standard context_of) f h bytes (context_of h) (governs_by context_of h bytes) none_searched
under_context f L standard context_of h bytes = record {
  alone = λ d is. is;
  reads = λ xs reads. reads;
  means = λ xs reads. reads;
  faulty = λ e wrong. wrong;
  searched = unsearched bytes;
  looks = λ old mid new same takes. subst (λ (c : Counts). (list_looking (f.reading (context_of h))).Takes bytes c new) same takes;
}

pub under_by : {H A C : Type 0} (f : Family A C) (L : Layout H) (standard : H) (context_of : H → C) (h : H) (bytes : List ℕ) (c : C)
    → governs_by context_of h bytes c → IsUnder (grammar_by f L standard context_of) f h bytes c (governs_by context_of h bytes) none_searched
under_by {H} {A} {C} f L standard context_of h bytes c is =
    subst (λ (d : C). IsUnder (grammar_by f L standard context_of) f h bytes d (governs_by context_of h bytes) none_searched) (sym is)
    (under_context f L standard context_of h bytes)
