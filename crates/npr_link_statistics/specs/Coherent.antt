-- What is coherent of a structure that grew: there is no number for a field that is missing, nor behind such a field.
use Rattle.std.specs.Prelude.{◌≡◌, ℕ, ◌-◌, ◌<◌, ◌≤◌, [], length, drop, replicate}
use Rattle.npr_link_statistics.specs.Grown.{Grown}

pub record IsCoherent {A : Type 0} (none : A) (n : ℕ) (g : Grown A) : Type 0 where
  pub fields : length g.fields ≡ n
  pub missing : g.missing ≤ n
  pub empty : drop (n - g.missing) g.fields ≡ replicate g.missing none
  pub last : 0 < g.missing → g.more ≡ []
