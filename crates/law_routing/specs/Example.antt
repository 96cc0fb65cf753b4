-- An example of a theory, and nets of three servers over it, which meet all laws.
use Rattle.std.specs.Prelude.{ℕ, ◌==◌, Bool, true, nat_lt, nat_le, cond, List, [], ◌∷◌}
use Rattle.law_routing.specs.Theory.{Theory}
use Rattle.law_routing.specs.Net.{Net, PhasedCommand, Subscribe, Unsubscribe, Advertise, Publish}

-- filters, advertisements and notices are numbers, and a filter matches what is no less; so each filter and advertisement have a notice in common
abbrev pub numbers : Theory
numbers = record {
  Filter = ℕ;
  Advert = ℕ;
  Notice = ℕ;
  covers = λ f g. nat_le f g;
  before = nat_lt;
  covers_advert = λ f g. nat_le f g;
  before_advert = nat_lt;
  matches = λ n f. nat_le f n;
  allows = λ a n. nat_le a n;
  overlaps = λ f a. true;
}

-- the neighbours in the line of servers 1, 2 and 3
abbrev pub line_links : ℕ → List ℕ
line_links t = cond (t == 1) (2 ∷ []) (cond (t == 2) (1 ∷ 3 ∷ []) (cond (t == 3) (2 ∷ []) []))

-- client 1 lives at server 1, client 2 at server 3
abbrev pub line_clients : ℕ → List ℕ
line_clients t = cond (t == 1) (1 ∷ []) (cond (t == 3) (2 ∷ []) [])

-- the same by client
abbrev pub line_home : ℕ → ℕ
line_home c = cond (c == 2) 3 1

-- client 1 subscribes and withdraws in the next phase, client 2 advertises and publishes
abbrev pub line_script : ℕ → List (PhasedCommand numbers)
line_script c =
    cond (c == 1) (record { phase = 0; command = Subscribe 1 } ∷ record { phase = 1; command = Unsubscribe 1 } ∷ [])
    (cond (c == 2) (record { phase = 0; command = Advertise 3 } ∷ record { phase = 1; command = Publish 5 } ∷ []) [])

-- the line of three servers, with client 1 at server 1 and client 2 at server 3, under either semantics
abbrev pub line : Bool → Net numbers
line adverts = record {
  adverts = adverts;
  servers = 1 ∷ 2 ∷ 3 ∷ [];
  links = line_links;
  hop = λ a x. cond (a == 2) x 2;
  home = line_home;
  clients = line_clients;
  script = line_script;
}
