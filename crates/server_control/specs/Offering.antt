-- Defines the union of rows by which the offer to a link is made.
use Rattle.std.specs.Prelude.{ℕ, List, []}
use Rattle.std.proofs.Math.ListN.{get_or}
use Rattle.base.specs.Sets.{Has}
use Rattle.base_bits.specs.Rows.{Numbers}

-- the row at a place
abbrev pub row_of : List Numbers → ℕ → Numbers
row_of rows a = get_or rows a (record { width = 0; members = [] })

-- the numbers are those of the rows whose places are held
pub record IsUnion (held : List ℕ) (rows : List Numbers) (numbers : List ℕ) : Type 0 where
  pub from : (k : ℕ) → Has k numbers → (a : ℕ) × Has a held × Has k (row_of rows a).members
  pub to : (a k : ℕ) → Has a held → Has k (row_of rows a).members → Has k numbers
