use Rattle.std.proofs.Common.{◌≡◌, ℕ, List, ◌++◌}
use Rattle.base_devices.specs.Pending.{outlet, Went}
use Rattle.output_patterns.specs.Found.{patterns_text}
use Rattle.output_patterns.proofs.found.put_patterns.Given as goal

-- what went, and then the text of the patterns that are left
abbrev pub invariant-loop-pattern : goal.invariant-loop-pattern
invariant-loop-pattern g l = (done : List ℕ)
    × Went (outlet (g.K.Sink.state l.initial.sink) l.initial.out) (outlet (g.K.Sink.state l.sink) l.out) done
    × (done ++ patterns_text l.published.names.items l.published.notices.items l.received l.pattern-iterator.rest.items
    ≡ patterns_text l.published.names.items l.published.notices.items l.received l.fn.patterns.items)
