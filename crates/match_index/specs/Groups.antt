-- Defines the ids and tests that groups have, each group under its key.
use Rattle.std.specs.Prelude.{ℕ, List, [], ◌∷◌, ◌++◌}

-- the parts of all groups
abbrev pub spread : {K X P : Type 0} → (K → X → List P) → List (K × X) → List P
spread part [] = []
spread part (e ∷ es) = part e.0 e.1 ++ spread part es

-- each id with a key
abbrev pub under : {K : Type 0} → K → List ℕ → List (K × ℕ)
under k [] = []
under k (id ∷ ids) = (k, id) ∷ under k ids

-- the parts of all rows
abbrev pub flat : {X P : Type 0} → (X → List P) → List X → List P
flat part [] = []
flat part (x ∷ xs) = part x ++ flat part xs
