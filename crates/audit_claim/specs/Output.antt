-- How an output is cut into lines, and a line of it at spaces.
use Rattle.std.specs.Prelude.{ℕ, List, [], ◌∷◌, nat_eq, if◌then◌else◌, Option, Some, None}
use Rattle.std.specs.Option.{option_map}
use Rattle.document_reader.specs.Lines.{before_first}

-- what stands before the first byte that is this one, and what stands behind it, where there is one
unfoldable pub parted : ℕ → List ℕ → Option (List ℕ × List ℕ)
parted end [] = None
parted end (b ∷ bs) = if nat_eq b end then Some ([], bs) else option_map (λ p. (b ∷ p.0, p.1)) (parted end bs)

-- the lines, each ended by a newline (10) alone; behind the last one there is a line only if there are bytes
unfoldable pub output_lines : List ℕ → List (List ℕ)
output_lines [] = []
output_lines (b ∷ bs) = if nat_eq b 10 then [] ∷ output_lines bs else before_first b (output_lines bs)

-- a line, cut at its first space (32)
abbrev pub at_space : List ℕ → Option (List ℕ × List ℕ)
at_space line = parted 32 line
