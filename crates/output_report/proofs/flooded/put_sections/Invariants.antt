use Rattle.std.proofs.Common.{◌≡◌, ℕ, List, ◌++◌, drop}
use Rattle.base_devices.specs.Pending.{outlet, Went}
use Rattle.output_report.specs.Flood.{flood_sections}
use Rattle.output_report.proofs.flooded.put_sections.Given as goal

-- what went, and then the text of the clients that are left
abbrev pub invariant-loop-i : goal.invariant-loop-i
invariant-loop-i g l = (done : List ℕ)
    × Went (outlet (g.K.Sink.state l.initial.sink) l.initial.out) (outlet (g.K.Sink.state l.sink) l.out) done
    × (done ++ flood_sections l.published.clients.now l.published.texts.now (drop l.i l.published.clients.now) (drop l.i l.refused) (drop l.i l.rows)
    ≡ flood_sections l.published.clients.now l.published.texts.now l.published.clients.now l.refused l.rows)
