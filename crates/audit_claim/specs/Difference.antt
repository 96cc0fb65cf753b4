-- Defines the first place at which two texts differ.
use Rattle.std.specs.Prelude.{ℕ, suc, List, [], ◌∷◌, nat_eq, if◌then◌else◌, Option, Some, None}
use Rattle.std.specs.Option.{option_map}

-- the first place of what is claimed whose byte is not that of the text, or behind which one of the two ends alone; none where they are equal
abbrev pub difference : List ℕ → List ℕ → Option ℕ
difference [] [] = None
difference [] (t ∷ ts) = Some 0
difference (c ∷ cs) [] = Some 0
difference (c ∷ cs) (t ∷ ts) = if nat_eq c t then option_map suc (difference cs ts) else Some 0
