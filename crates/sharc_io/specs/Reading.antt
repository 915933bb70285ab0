-- What reading takes from a source.
use Rattle.std.specs.{Prelude.{ℕ, ◌≡◌, ◌≤◌, List, length}, Io.KnownBytes.Consumes, declared.option.Option.Option}

-- a front part of what was left was taken, this many bytes long
pub record TakesFront (old new : Option (List ℕ)) (count : ℕ) : Type 0 where
  pub front : List ℕ
  pub taken : Consumes old new front
  pub long : length front ≡ count

-- a front part of what was left was taken, at most this many bytes long
pub record TakesAtMost (old new : Option (List ℕ)) (most : ℕ) : Type 0 where
  pub front : List ℕ
  pub taken : Consumes old new front
  pub short : length front ≤ most
