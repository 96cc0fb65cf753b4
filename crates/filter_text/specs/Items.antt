-- Defines members that are joined by `;` and a space, in front of bytes.
use Rattle.std.specs.Prelude.{◌==◌, ◌&&◌, ◌++◌, ℕ, zero, suc, Bool, true, false, List, [], ◌∷◌, Some, None, if◌then◌else◌}
use Rattle.std.specs.declared.option.Option.{Option}
use Rattle.filter_text.specs.Reading.{◌>>=◌}

-- whether `;` and a space stand in front, and what follows then
abbrev pub more_at : List ℕ → Bool × List ℕ
more_at [] = (false, [])
more_at (b ∷ []) = (false, b ∷ [])
more_at (b ∷ c ∷ rest) = if b == 59 && c == 32 then (true, rest) else (false, b ∷ c ∷ rest)

-- what was read, or what is read next
abbrev pub go_on : {A : Type 0} → Bool × List ℕ → List A → (List ℕ → Option (List A × List ℕ)) → Option (List A × List ℕ)
go_on (false, rest) read next = Some (read, rest)
go_on (true, rest) read next = next rest

-- at most so many members in front, behind those that were read, and what follows them
unfoldable pub items_at : {A : Type 0} → (List ℕ → Option (A × List ℕ)) → ℕ → List A → List ℕ → Option (List A × List ℕ)
items_at one zero read bytes = None
items_at one (suc n) read bytes = one bytes >>= λ x. go_on (more_at x.1) (read ++ x.0 ∷ []) (items_at one n (read ++ x.0 ∷ []))
