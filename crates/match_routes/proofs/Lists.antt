-- Changes that are made one after the other, in two parts.
use Rattle.std.proofs.Common.{◌≡◌, List, [], ◌∷◌, ◌++◌, refl}
use Rattle.match_routes.specs.declared.table_change.TableChange.{TableChange}
use Rattle.match_routes.specs.Installed.{Pair, all_changed, changed}

pub all_changed-append : (xs ys : List TableChange) (s : List Pair) → all_changed (xs ++ ys) s ≡ all_changed ys (all_changed xs s)
all_changed-append [] ys s = refl
all_changed-append (x ∷ xs) ys s = all_changed-append xs ys (changed x s)
