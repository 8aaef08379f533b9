-- What a window holds.
use Rattle.std.specs.Prelude.{ℕ, ◌-◌, List, take, drop}

-- the bytes from `start` up to `end`
abbrev pub between : List ℕ → ℕ → ℕ → List ℕ
between room start end = take (end - start) (drop start room)
