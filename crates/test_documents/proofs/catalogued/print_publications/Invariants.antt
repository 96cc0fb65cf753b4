use Rattle.std.proofs.Common.{◌≡◌, length}
use Rattle.net_tables.specs.Known.{known_filters}
use Rattle.test_documents.proofs.catalogued.print_publications.Given as goal

abbrev pub invariant-loop-publication : goal.invariant-loop-publication
invariant-loop-publication g l = l.row.width ≡ length (known_filters l.catalogue.clients)
