-- Says what the reader answers in other words: the first line at fault is the one behind lines that are all accepted.
use Rattle.std.specs.Prelude.{◌≡◌, ℕ, ◌+◌, List, [], ◌∷◌, ◌++◌, length, Ok, Err}
use Rattle.document_reader.specs.Answer.{◌>>=◌}
use Rattle.document_reader.specs.Rules.{Answer}
use Rattle.document_reader.specs.Places.{end_rule, line_rule, start}
use Rattle.document_reader.specs.declared.fault.Fault.{Fault}
use Rattle.document_reader.specs.declared.state.State.{State}

-- what stands after lines that are all accepted, of which the first has the number n
abbrev pub stands : ℕ → State → List (List ℕ) → Answer
stands n s [] = Ok s
stands n s (l ∷ ls) = line_rule s n l >>= λ t. stands (n + 1) t ls

-- line n, the first of these, has the fault, or the end where there is none
abbrev pub IsRefusedLine : ℕ → State → List (List ℕ) → Fault → Type 0
IsRefusedLine n s [] fault = end_rule s ≡ Err fault
IsRefusedLine n s (l ∷ ls) fault = line_rule s n l ≡ Err fault

-- the lines before number n are accepted, and this one, or the end, has the fault
pub record IsFirstFault (ls : List (List ℕ)) (n : ℕ) (fault : Fault) : Type 0 where
  pub before : List (List ℕ)
  pub after : List (List ℕ)
  pub parts : ls ≡ before ++ after
  pub number : n ≡ length before + 1
  pub state : State
  pub taken : stands 1 start before ≡ Ok state
  pub refused : IsRefusedLine n state after fault

-- each line is accepted, and so is the end
pub record AreTaken (ls : List (List ℕ)) (state : State) : Type 0 where
  pub taken : stands 1 start ls ≡ Ok state
  pub ended : end_rule state ≡ Ok state
