-- An input is cut at its first line that is exactly `patterns`.
use Rattle.std.specs.Prelude.{◌≡◌, ◌⊎◌, ℕ, List, [], codes}
use Rattle.document_reader.specs.Lines.{lines}
use Rattle.document_reader.specs.Cut.{IsCutAt, IsNoLine}

-- the document part of an input, and the lines behind the line `patterns`; where there is no such line all is the document
abbrev pub IsParted : List ℕ → List ℕ → List (List ℕ) → Type 0
IsParted bytes document later =
    ((after : List ℕ) × IsCutAt (codes "patterns") bytes document after × (later ≡ lines after))
    ⊎ (IsNoLine (codes "patterns") (lines bytes) × (document ≡ bytes) × (later ≡ []))
