-- Defines the pairs of an interface and a number after a list of changes, and the route of matched numbers by them.
use Rattle.std.specs.Prelude.{ℕ, ◌&&◌, nat_lt, Bool, true, cond, List, [], ◌∷◌, map, filter}
use Rattle.base.specs.Sets.{member, set_of}
use Rattle.base_bits.specs.Rows.{is_in}
use Rattle.match_routes.specs.declared.table_change.TableChange.{TableChange}
use Rattle.match_routes.specs.Installed.{Pair, Installed, pair_in, changed, all_changed}

-- the set of pairs after these changes, from none on
unfoldable pub pairs_after : List TableChange → List Pair
pairs_after changes = all_changed changes []

-- the interfaces from which one of the numbers is installed, rising
unfoldable pub route_of : List ℕ → List Pair → List ℕ
route_of numbers pairs = set_of nat_lt (map (λ x. x.0) (filter (λ x. is_in x.1 numbers) pairs))

-- whether the number is below the width and the interface is one of the server's
abbrev pub is_known : Installed → Pair → Bool
is_known p x = nat_lt x.1 p.width && member nat_lt x.0 p.interfaces

-- whether the pair of each change is
abbrev pub all_known : Installed → List TableChange → Bool
all_known p [] = true
all_known p (change ∷ rest) = is_known p (pair_in change) && all_known p rest

-- the same width and interfaces, with these pairs
abbrev pub with_pairs : Installed → List Pair → Installed
with_pairs p pairs = record { width = p.width; interfaces = p.interfaces; pairs = pairs }

-- what is installed after a change; one that isn't known changes nothing
unfoldable pub made : Installed → TableChange → Installed
made p change = cond (is_known p (pair_in change)) (with_pairs p (changed change p.pairs)) p
