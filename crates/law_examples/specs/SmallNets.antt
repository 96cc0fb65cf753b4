-- Defines the small nets of the worked runs, over ranges of numbers.
use Rattle.std.specs.Prelude.{ℕ, ◌==◌, true, false, cond, List, [], ◌∷◌}
use Rattle.law_machine.specs.Machine.{Act, Did, Received}
use Rattle.law_routing.specs.Net.{Net, PhasedCommand, Command, Subscribe, Unsubscribe, Advertise, Unadvertise, Publish}
use Rattle.law_routing.specs.Server.{Publication, Subs}
use Rattle.law_routing.specs.Step.{Task, NextCommand, TableUpdate}
use Rattle.law_routing.specs.Example.{line_links}
use Rattle.law_examples.specs.Trace.{Line, line}
use Rattle.law_examples.specs.Ranges.{Below, Equal, Above, AtLeast, Any, ranges}

-- a command in its phase
abbrev pub in_phase : ℕ → Command ranges → PhasedCommand ranges
in_phase phase command = record { phase = phase; command = command }

-- a publication in one row
abbrev pub ranges_publication : ℕ → ℕ → ℕ → Publication ranges
ranges_publication publisher ordinal notice = record { publisher = publisher; ordinal = ordinal; notice = notice }

-- the neighbours in a pair of servers, 1 and 2
abbrev pub pair_links : ℕ → List ℕ
pair_links server = cond (server == 1) (2 ∷ []) (cond (server == 2) (1 ∷ []) [])

-- clients 1 and 2 live at server 1 of a line, client 3 at server 3
abbrev pub line_clients : ℕ → List ℕ
line_clients server = cond (server == 1) (1 ∷ 2 ∷ []) (cond (server == 3) (3 ∷ []) [])

-- a line of three servers under subscription semantics, with these scripts of clients 1, 2 and 3
abbrev pub line_of : List (PhasedCommand ranges) → List (PhasedCommand ranges) → List (PhasedCommand ranges) → Net ranges
line_of one two three = record {
  adverts = false;
  servers = 1 ∷ 2 ∷ 3 ∷ [];
  links = line_links;
  hop = λ server other. cond (server == 2) other 2;
  home = λ client. cond (client == 3) 3 1;
  clients = line_clients;
  script = λ client. cond (client == 1) one (cond (client == 2) two (cond (client == 3) three []));
}

-- at one server a wide range and a narrow one in it
abbrev pub wide_and_narrow : Net ranges
wide_and_narrow = line_of (in_phase 0 (Subscribe Any) ∷ []) (in_phase 0 (Subscribe (Above 5)) ∷ []) []

-- then the wide range is withdrawn, while at the other end of the line a notice is published
abbrev pub withdrawn_wide : Net ranges
withdrawn_wide = line_of (in_phase 0 (Subscribe Any) ∷ in_phase 1 (Unsubscribe Any) ∷ []) (in_phase 0 (Subscribe (Above 5)) ∷ []) (in_phase 1 (Publish 9) ∷ [])

-- in the first phase both ranges are subscribed and known everywhere
abbrev pub all_know : List (ℕ × Act Task)
all_know =
    (1, Did (NextCommand 1)) ∷ (1, Did (NextCommand 2)) ∷ (1, Did TableUpdate) ∷ (2, Received 1) ∷
    (2, Did TableUpdate) ∷ (3, Received 2) ∷ (3, Did TableUpdate) ∷ []

-- in the second phase the withdrawal and the notice set out
abbrev pub both_set_out : List (ℕ × Act Task)
both_set_out = (1, Did (NextCommand 1)) ∷ (3, Did (NextCommand 3)) ∷ []

-- or the notice arrives before the withdrawal
abbrev pub notice_arrives : List (ℕ × Act Task)
notice_arrives = (3, Did (NextCommand 3)) ∷ (2, Received 3) ∷ (1, Received 2) ∷ (1, Did (NextCommand 1)) ∷ []

-- or the middle server has received the withdrawal and installed it
abbrev pub withdrawal_known : List (ℕ × Act Task)
withdrawal_known = (1, Did (NextCommand 1)) ∷ (2, Received 1) ∷ (2, Did TableUpdate) ∷ (3, Did (NextCommand 3)) ∷ []

-- a pair of servers, where client 1 withdraws a range that is the range of client 2 in other words
abbrev pub equal_ranges : Net ranges
equal_ranges = record {
  adverts = false;
  servers = 1 ∷ 2 ∷ [];
  links = pair_links;
  hop = λ server other. other;
  home = λ client. 1;
  clients = λ server. cond (server == 1) (1 ∷ 2 ∷ []) [];
  script = λ client.
      cond (client == 1) (in_phase 0 (Subscribe (Above 1)) ∷ in_phase 1 (Unsubscribe (Above 1)) ∷ [])
      (cond (client == 2) (in_phase 0 (Subscribe (AtLeast 2)) ∷ []) []);
}

-- a pair of servers: client 1 at the one subscribes to all and withdraws that in the next phase, in which client 2 at the other publishes
abbrev pub withdrawn_pair : Net ranges
withdrawn_pair = record {
  adverts = false;
  servers = 1 ∷ 2 ∷ [];
  links = pair_links;
  hop = λ server other. other;
  home = λ client. cond (client == 2) 2 1;
  clients = λ server. cond (server == 1) (1 ∷ []) (cond (server == 2) (2 ∷ []) []);
  script = λ client.
      cond (client == 1) (in_phase 0 (Subscribe Any) ∷ in_phase 1 (Unsubscribe Any) ∷ [])
      (cond (client == 2) (in_phase 1 (Publish 9) ∷ []) []);
}

-- a pair of servers under advertisement semantics: client 1 advertises small numbers, and client 2 subscribes to large ones and then to some that are both
abbrev pub advertised_small : Net ranges
advertised_small = record {
  adverts = true;
  servers = 1 ∷ 2 ∷ [];
  links = pair_links;
  hop = λ server other. other;
  home = λ client. cond (client == 2) 2 1;
  clients = λ server. cond (server == 1) (1 ∷ []) (cond (server == 2) (2 ∷ []) []);
  script = λ client.
      cond (client == 1) (in_phase 0 (Advertise (Below 3)) ∷ [])
      (cond (client == 2) (in_phase 1 (Subscribe (Above 5)) ∷ in_phase 2 (Subscribe (Below 9)) ∷ []) []);
}

-- one server, where client 1 subscribes to three ranges, withdraws all that any covers and subscribes to any again, and client 2 publishes
abbrev pub subscribed_again : Net ranges
subscribed_again = record {
  adverts = false;
  servers = 1 ∷ [];
  links = λ server. [];
  hop = λ server other. other;
  home = λ client. 1;
  clients = λ server. cond (server == 1) (1 ∷ 2 ∷ []) [];
  script = λ client.
      cond (client == 1) (in_phase 0 (Subscribe (Above 5)) ∷ in_phase 0 (Subscribe (Equal 1)) ∷ in_phase 0 (Subscribe Any)
      ∷ in_phase 1 (Unsubscribe Any) ∷ in_phase 1 (Subscribe Any) ∷ [])
      (cond (client == 2) (in_phase 1 (Publish 8) ∷ []) []);
}

-- the lines of a first phase in which the wide range comes to be known everywhere
abbrev pub wide_travels : List (Line ranges)
wide_travels =
    line ranges 1 1 (Did (NextCommand 1)) ((2, Subs [] (Any ∷ [])) ∷ []) ∷
    line ranges 2 1 (Did (NextCommand 2)) [] ∷
    line ranges 3 1 (Did TableUpdate) [] ∷
    line ranges 2 2 (Received 1) ((3, Subs [] (Any ∷ [])) ∷ []) ∷
    line ranges 3 2 (Did TableUpdate) [] ∷
    line ranges 3 3 (Received 2) [] ∷
    line ranges 4 3 (Did TableUpdate) [] ∷ []

-- a pair of servers under advertisement semantics, where client 2 at the one subscribes to all, with this script of client 1 at the other
abbrev pub advertiser : List (PhasedCommand ranges) → Net ranges
advertiser one = record {
  adverts = true;
  servers = 1 ∷ 2 ∷ [];
  links = pair_links;
  hop = λ server other. other;
  home = λ client. cond (client == 2) 2 1;
  clients = λ server. cond (server == 1) (1 ∷ []) (cond (server == 2) (2 ∷ []) []);
  script = λ client. cond (client == 1) one (cond (client == 2) (in_phase 0 (Subscribe Any) ∷ []) []);
}

-- client 1 advertises and publishes in one phase
abbrev pub advertised_late : Net ranges
advertised_late = advertiser (in_phase 1 (Advertise Any) ∷ in_phase 1 (Publish 9) ∷ [])

-- it advertises first, and in the next phase publishes and withdraws at once
abbrev pub advertised_until : Net ranges
advertised_until = advertiser (in_phase 0 (Advertise Any) ∷ in_phase 1 (Publish 9) ∷ in_phase 1 (Unadvertise Any) ∷ [])

-- at both ends of a line clients subscribe to all, and publish in the next phase
abbrev pub both_publish : Net ranges
both_publish = line_of (in_phase 0 (Subscribe Any) ∷ in_phase 1 (Publish 1) ∷ []) [] (in_phase 0 (Subscribe Any) ∷ in_phase 1 (Publish 3) ∷ [])

-- client 1 subscribes to all; client 3, two links away, publishes in the next phase, and client 2, at the server of client 1, in the one behind that
abbrev pub far_then_near : Net ranges
far_then_near = line_of (in_phase 0 (Subscribe Any) ∷ []) (in_phase 2 (Publish 1) ∷ []) (in_phase 1 (Publish 3) ∷ [])

-- in the phase of the far publication the near one is tried first
abbrev pub near_tried_first : List (ℕ × Act Task)
near_tried_first = (1, Did (NextCommand 2)) ∷ (3, Did (NextCommand 3)) ∷ (1, Did (NextCommand 2)) ∷ []

-- client 1 publishes once it has been given what client 3 published
abbrev pub answers : List (ℕ × Act Task)
answers = (3, Did (NextCommand 3)) ∷ (2, Received 3) ∷ (1, Received 2) ∷ (1, Did (NextCommand 1)) ∷ []
