use Rattle.std.proofs.Common.{◌≡◌, ◌++◌, ◌+◌, drop}
use Rattle.output_flood.specs.Publications.{publishes_in}
use Rattle.output_explain.specs.Sought.{chance_of, prospects_from}
use Rattle.output_explain.proofs.prospect.push_script.Given as goal

abbrev pub invariant-loop-command : goal.invariant-loop-command
invariant-loop-command l = (l.prospects.items ++ prospects_from (chance_of l.seeker.rows.now l.seeker.filters.now) l.publisher l.ordinal (drop l.command-index l.script)
    ≡ l.initial.prospects.items ++ prospects_from (chance_of l.seeker.rows.now l.seeker.filters.now) l.publisher 0 l.script)
    × (l.ordinal + publishes_in (drop l.command-index l.script) ≡ publishes_in l.script)
