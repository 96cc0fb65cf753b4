-- An input is cut at the first line that is exactly a word.
use Rattle.std.specs.Prelude.{◌≡◌, ◌⊎◌, ℕ, ◌+◌, false, List, [], ◌∷◌, ◌++◌, length}
use Rattle.std.specs.Str.{bytes_eq}
use Rattle.document_reader.specs.Lines.{lines}

-- none of the lines is the word
abbrev pub IsNoLine : List ℕ → List (List ℕ) → Type 0
IsNoLine word [] = Unit {0}
IsNoLine word (line ∷ ls) = (bytes_eq line word ≡ false) × IsNoLine word ls

-- the bytes before the first line that is exactly the word, without its end, and those behind it: what stands before is whole lines, and so is that line,
-- unless it is the last
pub record IsCutAt (word bytes before after : List ℕ) : Type 0 where
  pub own : List ℕ
  pub parts : bytes ≡ before ++ own ++ after
  pub alone : lines own ≡ word ∷ []
  pub cut : lines bytes ≡ lines before ++ word ∷ lines after
  pub first : IsNoLine word (lines before)
  pub whole : (more : List ℕ) → lines (before ++ more) ≡ lines before ++ lines more
  pub ends : (after ≡ []) ⊎ ((more : List ℕ) → lines (own ++ more) ≡ word ∷ lines more)

-- the number of the first line behind the line that the input is cut at, which counts as the end of what stands before
abbrev pub first_number : List ℕ → ℕ
first_number document = length (lines document) + 2
