-- Defines the least net over the real theory: a lone server.
use Rattle.std.specs.Prelude.{◌==◌, false, cond, [], ◌∷◌}
use Rattle.law_machine.specs.Machine.{Machine}
use Rattle.law_routing.specs.Net.{Net}
use Rattle.law_routing.specs.Routing.{routing_machine}
use Rattle.net_model.specs.Real.{real}

-- one server with one client, which has no command
abbrev pub lone : Net real
lone = record {
  adverts = false;
  servers = 1 ∷ [];
  links = λ server. [];
  hop = λ server other. other;
  home = λ client. 1;
  clients = λ server. cond (server == 1) (1 ∷ []) [];
  script = λ client. [];
}

-- its server as a machine
abbrev pub lone_machine : Machine
lone_machine = routing_machine real lone
