use Rattle.std.proofs.Common.{◌≡◌, ℕ, true, List, [], ◌∷◌, Option, Some, None, slice_get, refl, arith}
use Rattle.law_machine.proofs.Exists.{opens}
use Rattle.law_routing.specs.Theory.{Theory}
use Rattle.law_routing.specs.Net.{Net, PhasedCommand}
use Rattle.law_routing.specs.Routing.{empty_server, all_through, not_below, routing_machine}
use Rattle.law_routing.proofs.runs.opening_stands.Goals as goal

-- no command is of a phase below the first
none-below : (th : Theory) (net : Net th) (cs : List ℕ) → all_through th net (empty_server th net) 0 cs ≡ true
none-below th net [] = refl
none-below th net (c ∷ cs) = rw (one (slice_get (net.script c) 0)) (none-below th net cs)
  where
    one : (o : Option (PhasedCommand th)) → not_below th net 0 o ≡ true
    one None = refl
    one (Some x) = grind arith

pub returns : goal.returns
returns hold c net = opens (routing_machine hold.M.Matching.theory net) (λ t. empty_server hold.M.Matching.theory net) (λ t h. refl) (λ t h. none-below hold.M.Matching.theory net (net.clients t))
