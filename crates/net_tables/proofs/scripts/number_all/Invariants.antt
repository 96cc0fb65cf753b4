use Rattle.std.proofs.Common.{◌≡◌, ℕ, ◌+◌, List, ◌++◌, drop}
use Rattle.std.specs.List.{flat_map}
use Rattle.filter_text.specs.Messages.{Lists}
use Rattle.net_tables.specs.declared.numbered.NumberedCommand.{NumberedCommand}
use Rattle.net_tables.specs.Known.{known_publications, script_filters, script_adverts}
use Rattle.net_tables.specs.Numbered.{AllNumbered}
use Rattle.net_tables.specs.Numbering.{AreNumbers, catalogue_of}
use Rattle.net_tables.proofs.scripts.number_all.Given as goal

abbrev pub invariant-loop-i : goal.invariant-loop-i
invariant-loop-i l = record {
  publications : l.publications.items ++ known_publications (l.i + 1) (drop l.i l.clients) ≡ known_publications 1 l.clients;
  numbers : (filters adverts : Lists)
      → AreNumbers filters adverts l.initial.numbers.filters.now l.initial.numbers.adverts.now (flat_map (λ client. script_filters client.script) l.clients) (flat_map (λ client. script_adverts client.script) l.clients)
      → AreNumbers filters adverts l.numbers.filters.now l.numbers.adverts.now
      (flat_map (λ client. script_filters client.script) (drop l.i l.clients)) (flat_map (λ client. script_adverts client.script) (drop l.i l.clients));
  represents : (filters adverts : Lists) (ns : List (List (ℕ × NumberedCommand)))
      → AreNumbers filters adverts l.initial.numbers.filters.now l.initial.numbers.adverts.now (flat_map (λ client. script_filters client.script) l.clients) (flat_map (λ client. script_adverts client.script) l.clients)
      → AllNumbered (catalogue_of filters adverts (known_publications 1 l.clients)) (l.i + 1) ns (drop l.i l.clients)
      → AllNumbered (catalogue_of filters adverts (known_publications 1 l.clients)) 1 (l.scripts.items ++ ns) l.clients;
}
