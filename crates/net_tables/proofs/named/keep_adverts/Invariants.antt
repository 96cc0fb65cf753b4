use Rattle.std.proofs.Common.{◌++◌, take}
use Rattle.filter_text.specs.Messages.{Lists}
use Rattle.filter_types.specs.Before.{list_before}
use Rattle.net_tables.specs.Known.{script_adverts}
use Rattle.net_tables.specs.Numbering.{AreKept}
use Rattle.net_tables.proofs.named.keep_adverts.Given as goal

abbrev pub invariant-loop-command : goal.invariant-loop-command
invariant-loop-command l = (named : Lists) → AreKept list_before l.initial.kept.pool l.initial.kept.keys.items named
    → AreKept list_before l.kept.pool l.kept.keys.items (named ++ script_adverts (take l.command-index l.script))
