use Rattle.std.proofs.Common.{◌≡◌, drop}
use Rattle.output_flood.specs.Publications.{is_met}
use Rattle.output_explain.proofs.prospect.is_met.Given as goal

abbrev pub invariant-loop-filter : goal.invariant-loop-filter
invariant-loop-filter l = is_met (drop l.filter-index l.filters) l.notice ≡ is_met l.filters l.notice
