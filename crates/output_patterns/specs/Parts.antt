-- Defines patterns as contracts see them, and what stands while they are read.
use Rattle.std.specs.Prelude.{ℕ, ◌+◌, ◌==◌, ◌&&◌, Bool, false, List, [], ◌∷◌, ◌++◌, length, nat_lt, Option, Some, None, option_map}
use Rattle.std.specs.List.{list_any, position}
use Rattle.std.specs.Str.{bytes_eq}
use Rattle.filter_constraints.specs.Constraint.{ConstraintParts}
use Rattle.net_model.specs.Parts.{ClientParts}

-- a pattern: the number of the client whose deliveries it is looked for in, from 1, its label, and its steps
pub record PatternParts : Type 0 where
  pub client : ℕ
  pub label : List ℕ
  pub steps : List (List ConstraintParts)

abbrev pub pattern_parts : ℕ → List ℕ → List (List ConstraintParts) → PatternParts
pattern_parts client label steps = record { client = client; label = label; steps = steps }

-- the patterns before the last, and the last, whose steps may go on
pub record WatchingParts : Type 0 where
  pub before : List PatternParts
  pub last : Option PatternParts

abbrev pub watching : List PatternParts → Option PatternParts → WatchingParts
watching before last = record { before = before; last = last }

-- what there is, as a list
abbrev pub listed : {A : Type 0} → Option A → List A
listed None = []
listed (Some x) = x ∷ []

-- all patterns
abbrev pub all_of : WatchingParts → List PatternParts
all_of s = s.before ++ listed s.last

-- the pattern begins behind the others
abbrev pub with_pattern : PatternParts → WatchingParts → WatchingParts
with_pattern p s = watching (all_of s) (Some p)

abbrev pub with_step : List ConstraintParts → PatternParts → PatternParts
with_step f p = pattern_parts p.client p.label (p.steps ++ f ∷ [])

-- the last pattern has one step more
abbrev pub with_last_step : List ConstraintParts → WatchingParts → WatchingParts
with_last_step f s = watching s.before (option_map (with_step f) s.last)

-- there is a last pattern, and it has fewer than 2 steps
abbrev pub is_short : Option PatternParts → Bool
is_short None = false
is_short (Some p) = nat_lt (length p.steps) 2

-- there is a last pattern, and it has fewer than 8 steps
abbrev pub has_room : Option PatternParts → Bool
has_room None = false
has_room (Some p) = nat_lt (length p.steps) 8

-- a pattern of this client has this label
abbrev pub is_labelled : ℕ → List ℕ → PatternParts → Bool
is_labelled client label p = p.client == client && bytes_eq p.label label

unfoldable pub has_label : ℕ → List ℕ → List PatternParts → Bool
has_label client label patterns = list_any (is_labelled client label) patterns

-- the number of the client with this name, from 1
abbrev pub has_name : List ℕ → ClientParts → Bool
has_name name client = bytes_eq client.name name

unfoldable pub client_named : List ℕ → List ClientParts → Option ℕ
client_named name clients = option_map (λ place. place + 1) (position (has_name name) clients)
