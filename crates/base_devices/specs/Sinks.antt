-- What a sink took and holds.
use Rattle.std.specs.Prelude.{◌≡◌, ℕ, ◌<◌, List, ◌++◌, length, Option}
use Rattle.std.specs.Io.KnownBytes.{Appends}

-- the bytes that it took, those that it holds where it tells them, and how often it failed
pub record SinkParts : Type 0 where
  pub taken : List ℕ
  pub contents : Option (List ℕ)
  pub faults : ℕ

-- IT TOOK THESE BYTES: it holds what it held before, and then exactly them
pub record Took (old new : SinkParts) (bytes : List ℕ) : Type 0 where
  pub taken : new.taken ≡ old.taken ++ bytes
  pub held : Appends old.contents new.contents bytes

-- it took a front of the bytes that is not all of them
pub record TookFront (old new : SinkParts) (bytes : List ℕ) : Type 0 where
  pub front : List ℕ
  pub rest : List ℕ
  pub split : bytes ≡ front ++ rest
  pub some : 0 < length rest
  pub took : Took old new front

-- IT HOLDS what it held before, and then exactly what it took
abbrev pub Grew : SinkParts → SinkParts → Type 0
Grew old new = (bytes : List ℕ) × Took old new bytes
