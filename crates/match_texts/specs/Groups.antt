-- Defines groups of ids, each under the bytes of a pattern, with the marks of each.
use Rattle.std.specs.Prelude.{ℕ, List, map}
use Rattle.match_index.specs.Groups.{under, flat}
use Rattle.match_texts.specs.declared.group.Group.{Group}
use Rattle.match_texts.specs.declared.marks.Mark.{Mark}
use Rattle.match_texts.specs.Marks.{first_mark, last_mark}

-- the marks of a pattern
abbrev pub mark_of : List ℕ → Mark
mark_of u = record { first = first_mark u; last = last_mark u }

-- the marks of all groups
abbrev pub marks_of : List Group → List Mark
marks_of groups = map (λ g. mark_of g.key.items) groups

-- each id of a group under its bytes
abbrev pub group_pairs : Group → List (List ℕ × ℕ)
group_pairs g = under g.key.items g.ids.items

-- the same of all groups
abbrev pub groups_pairs : List Group → List (List ℕ × ℕ)
groups_pairs groups = flat group_pairs groups
