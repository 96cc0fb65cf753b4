-- An example: three servers, in a line at first and in a star from phase 1 on.
use Rattle.std.specs.Prelude.{ℕ, ◌==◌, false, cond, List, [], ◌∷◌}
use Rattle.law_machine.specs.Machine.{Act}
use Rattle.law_routing.specs.Net.{PhasedCommand, Subscribe, Publish}
use Rattle.law_routing.specs.Server.{Publication}
use Rattle.law_routing.specs.Step.{Task}
use Rattle.law_routing.specs.Example.{numbers, line_links, line_clients, line_home}
use Rattle.law_phases.specs.Trees.{Tree, JournalEntry, PhasedNet}
use Rattle.law_phases.specs.Moments.{opening_moment}
use Rattle.law_phases.specs.Walk.{walk_of}

-- the line of servers 1, 2 and 3
abbrev pub line_tree : Tree
line_tree = record { links = line_links; hop = λ a x. cond (a == 2) x 2 }

-- the neighbours in the star around server 1
abbrev pub star_links : ℕ → List ℕ
star_links t = cond (t == 1) (2 ∷ 3 ∷ []) (cond (t == 2) (1 ∷ []) (cond (t == 3) (1 ∷ []) []))

-- that star
abbrev pub star_tree : Tree
star_tree = record { links = star_links; hop = λ a x. cond (a == 1) x 1 }

-- client 1 subscribes to all, client 2 publishes in the next phase
abbrev pub star_script : ℕ → List (PhasedCommand numbers)
star_script c = cond (c == 1) (record { phase = 0; command = Subscribe 0 } ∷ []) (cond (c == 2) (record { phase = 1; command = Publish 1 } ∷ []) [])

-- the net, with client 1 at server 1 and client 2 at server 3
abbrev pub line_then_star : PhasedNet numbers
line_then_star = record {
  adverts = false;
  servers = 1 ∷ 2 ∷ 3 ∷ [];
  tree = line_tree;
  later = (1, star_tree) ∷ [];
  home = line_home;
  clients = line_clients;
  script = star_script;
}

-- its walk from the opening
abbrev pub star_walk : List JournalEntry
star_walk = walk_of numbers line_then_star 2 (opening_moment numbers line_then_star)

-- an entry and a publication, written in one row
abbrev pub entry : ℕ → ℕ → Act Task → List ℕ → JournalEntry
entry stamp server act outs = record { stamp = stamp; server = server; act = act; outs = outs }

-- the publication of this publisher under this ordinal
abbrev pub publication : ℕ → ℕ → ℕ → Publication numbers
publication publisher ordinal notice = record { publisher = publisher; ordinal = ordinal; notice = notice }
