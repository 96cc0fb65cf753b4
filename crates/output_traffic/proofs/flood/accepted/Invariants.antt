use Rattle.std.proofs.Common.{◌≡◌, ◌≤◌, List, [], ◌++◌, map, drop}
use Rattle.law_routing.specs.Net.{Net}
use Rattle.law_routing.specs.Clients.{refused_from}
use Rattle.net_model.specs.Real.{real}
use Rattle.net_model.specs.Meaning.{phased_command}
use Rattle.output_traffic.specs.Flood.{accepted_phases}
use Rattle.output_traffic.proofs.flood.accepted.Given as goal

-- the advertisements after the commands so far make the rest of the ordinals, and of the phases
abbrev pub invariant-loop-phase : goal.invariant-loop-phase
invariant-loop-phase l =
    record {
      publishes : l.going.publishes ≤ l.phase-index;
      refused : l.going.refused ≤ l.phase-index;
      left : (net : Net real) → l.refused ≡ refused_from real net [] 0 (map phased_command l.script) → (adverts : List real.Advert)
          × (refused_from real net adverts l.going.publishes (map phased_command (drop l.phase-index l.script)) ≡ drop l.going.refused l.refused)
          × (l.phases.items ++ accepted_phases real net adverts (map phased_command (drop l.phase-index l.script)) ≡ accepted_phases real net [] (map phased_command l.script));
    }
