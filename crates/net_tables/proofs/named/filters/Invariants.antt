use Rattle.std.proofs.Common.{take}
use Rattle.std.specs.List.{flat_map}
use Rattle.filter_types.specs.Before.{list_before}
use Rattle.net_tables.specs.Known.{script_filters}
use Rattle.net_tables.specs.Numbering.{AreKept}
use Rattle.net_tables.proofs.named.filters.Given as goal

abbrev pub invariant-loop-client : goal.invariant-loop-client
invariant-loop-client l = AreKept list_before l.kept.pool l.kept.keys.items (flat_map (λ client. script_filters client.script) (take l.client-index l.clients))
