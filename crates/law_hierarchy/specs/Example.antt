-- Defines two examples over a theory of numbers, where a filter matches what is no less: a pair of servers, and a chain of three.
use Rattle.std.specs.Prelude.{ℕ, ◌==◌, Bool, false, cond, List, [], ◌∷◌}
use Rattle.law_routing.specs.Net.{Net, PhasedCommand, Subscribe, Unsubscribe, Publish}
use Rattle.law_routing.specs.Example.{numbers, line_links}

-- the neighbours of two servers
abbrev pub pair_links : ℕ → List ℕ
pair_links t = cond (t == 1) (2 ∷ []) (cond (t == 2) (1 ∷ []) [])

-- clients 1 and 2 live at server 2
abbrev pub pair_clients : ℕ → List ℕ
pair_clients t = cond (t == 2) (1 ∷ 2 ∷ []) []

-- client 1 subscribes to all numbers from 6 on, client 2 publishes 9 in the next phase
abbrev pub pair_script : ℕ → List (PhasedCommand numbers)
pair_script c =
    cond (c == 1) (record { phase = 0; command = Subscribe 6 } ∷ [])
    (cond (c == 2) (record { phase = 1; command = Publish 9 } ∷ []) [])

-- server 1 at the top and server 2 below it, with both clients at server 2, under either semantics
abbrev pub pair : Bool → Net numbers
pair adverts = record {
  adverts = adverts;
  servers = 1 ∷ 2 ∷ [];
  links = pair_links;
  hop = λ a x. x;
  home = λ c. 2;
  clients = pair_clients;
  script = pair_script;
}

-- clients 1 and 2 live at server 3, client 3 at server 1
abbrev pub chain_clients : ℕ → List ℕ
chain_clients t = cond (t == 1) (3 ∷ []) (cond (t == 3) (1 ∷ 2 ∷ []) [])

-- the same by client
abbrev pub chain_home : ℕ → ℕ
chain_home c = cond (c == 3) 1 3

-- client 1 subscribes to all numbers from 3 on and withdraws in the next phase, client 2 subscribes to all from 6 on, and client 3 publishes 9 and 4
-- after that
abbrev pub chain_script : ℕ → List (PhasedCommand numbers)
chain_script c =
    cond (c == 1) (record { phase = 0; command = Subscribe 3 } ∷ record { phase = 1; command = Unsubscribe 3 } ∷ [])
    (cond (c == 2) (record { phase = 0; command = Subscribe 6 } ∷ [])
    (cond (c == 3) (record { phase = 2; command = Publish 9 } ∷ record { phase = 2; command = Publish 4 } ∷ []) []))

-- server 1 at the top, server 2 below it and server 3 below that
abbrev pub chain : Net numbers
chain = record {
  adverts = false;
  servers = 1 ∷ 2 ∷ 3 ∷ [];
  links = line_links;
  hop = λ a x. cond (a == 2) x 2;
  home = chain_home;
  clients = chain_clients;
  script = chain_script;
}
