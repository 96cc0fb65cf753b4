-- Defines the text of a number behind a label.
use Rattle.std.specs.Prelude.{ℕ, List, ◌++◌}
use Rattle.std.specs.Fmt.{decimal}

-- a number behind a label
unfoldable pub labelled : List ℕ → ℕ → List ℕ
labelled label number = label ++ decimal number
