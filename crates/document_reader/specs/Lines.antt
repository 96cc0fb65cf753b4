-- How bytes are cut into lines, and a line into words.
use Rattle.std.specs.Prelude.{◌≡◌, ◌⊎◌, Bool, true, false, ℕ, List, [], ◌∷◌, ◌++◌, ◌&&◌, ◌||◌, nat_eq, if◌then◌else◌}

-- the byte stands before the first piece, which it begins where there is none
abbrev pub before_first : ℕ → List (List ℕ) → List (List ℕ)
before_first b [] = (b ∷ []) ∷ []
before_first b (piece ∷ pieces) = (b ∷ piece) ∷ pieces

-- a newline (10) follows
abbrev pub at_newline : List ℕ → Bool
at_newline [] = false
at_newline (b ∷ bs) = nat_eq b 10

-- the lines without their ends: a newline, and one carriage return (13) right before it; behind the last newline there is a
-- line only if there are bytes
unfoldable pub lines : List ℕ → List (List ℕ)
lines [] = []
lines (b ∷ bs) =
    if nat_eq b 10 then [] ∷ lines bs
    else if nat_eq b 13 && at_newline bs then lines bs
    else before_first b (lines bs)

-- a line, and the rest of the bytes behind it and its end: either nothing is left, or the line is the same whatever follows
pub record IsFirstLine (bytes line rest : List ℕ) : Type 0 where
  pub own : List ℕ
  pub parts : bytes ≡ own ++ rest
  pub alone : lines own ≡ line ∷ []
  pub ends : (rest ≡ []) ⊎ ((more : List ℕ) → lines (own ++ more) ≡ line ∷ lines more)

-- without a carriage return at its end
unfoldable pub without_return : List ℕ → List ℕ
without_return [] = []
without_return (b ∷ []) = if nat_eq b 13 then [] else b ∷ []
without_return (b ∷ c ∷ cs) = b ∷ without_return (c ∷ cs)

-- a space (32) or a tab (9)
abbrev pub is_blank : ℕ → Bool
is_blank b = nat_eq b 32 || nat_eq b 9

-- no byte of a word follows
abbrev pub at_word_end : List ℕ → Bool
at_word_end [] = true
at_word_end (b ∷ bs) = is_blank b

-- the words, which spaces and tabs separate
unfoldable pub words : List ℕ → List (List ℕ)
words [] = []
words (b ∷ bs) =
    if is_blank b then words bs
    else if at_word_end bs then (b ∷ []) ∷ words bs
    else before_first b (words bs)
