use Rattle.std.proofs.Common.{◌≡◌, ℕ, ◌≤◌, List, ◌++◌, drop, length}
use Rattle.filter_text.specs.Messages.{Lists}
use Rattle.net_tables.specs.declared.numbered.NumberedCommand.{NumberedCommand}
use Rattle.net_tables.specs.Known.{PublicationParts, script_publications, script_filters, script_adverts}
use Rattle.net_tables.specs.Numbered.{AreNumbered}
use Rattle.net_tables.specs.Numbering.{AreNumbers, catalogue_of}
use Rattle.net_tables.proofs.scripts.number_script.Given as goal

abbrev pub invariant-loop-phase : goal.invariant-loop-phase
invariant-loop-phase l = record {
  publications : l.publications.items ++ script_publications l.publisher l.count (drop l.phase-index l.script) ≡ l.initial.publications.items ++ script_publications l.publisher 0 l.script;
  counted : l.count ≤ length l.publications.items;
  numbers : (filters adverts more_filters more_adverts : Lists)
      → AreNumbers filters adverts l.initial.numbers.filters.now l.initial.numbers.adverts.now (script_filters l.script ++ more_filters) (script_adverts l.script ++ more_adverts)
      → AreNumbers filters adverts l.numbers.filters.now l.numbers.adverts.now (script_filters (drop l.phase-index l.script) ++ more_filters) (script_adverts (drop l.phase-index l.script) ++ more_adverts);
  represents : (filters adverts : Lists) (later : List PublicationParts) (ns : List (ℕ × NumberedCommand))
      → AreNumbers filters adverts l.initial.numbers.filters.now l.initial.numbers.adverts.now (script_filters l.script) (script_adverts l.script)
      → AreNumbered (catalogue_of filters adverts ((l.initial.publications.items ++ script_publications l.publisher 0 l.script) ++ later)) l.publisher l.count ns (drop l.phase-index l.script)
      → AreNumbered (catalogue_of filters adverts ((l.initial.publications.items ++ script_publications l.publisher 0 l.script) ++ later)) l.publisher 0 (l.steps.items ++ ns) l.script;
}
