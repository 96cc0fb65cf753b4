use Rattle.std.proofs.Common.{◌≡◌, ◌++◌, ◌≤◌, drop}
use Rattle.base.specs.Numbers.{sum_over}
use Rattle.net_model.specs.Sound.{publishes}
use Rattle.output_explain.specs.Sought.{chance_of, prospects_of}
use Rattle.output_explain.proofs.prospect.listed.Given as goal

abbrev pub invariant-loop-place : goal.invariant-loop-place
invariant-loop-place l = (l.prospects.items ++ prospects_of (chance_of l.seeker.rows.now l.seeker.filters.now) l.place (drop l.place l.clients)
    ≡ prospects_of (chance_of l.seeker.rows.now l.seeker.filters.now) 0 l.clients)
    × (sum_over publishes (drop l.place l.clients) ≤ 100000)
