use Rattle.std.proofs.Common.{◌≡◌, ℕ, false, List, ◌++◌, drop}
use Rattle.base_devices.specs.Pending.{outlet, Went}
use Rattle.output_report.specs.Deliveries.{delivery_sections}
use Rattle.output_report.proofs.writing.put_deliveries.Given as goal

-- what went, and then the text of the clients that are left
abbrev pub invariant-loop-i : goal.invariant-loop-i
invariant-loop-i g l = (done : List ℕ)
    × Went (outlet (g.K.Sink.state l.initial.sink) l.initial.out) (outlet (g.K.Sink.state l.sink) l.out) done
    × (done ++ delivery_sections l.net.clients false (drop l.i l.net.clients) (drop l.i l.refused) (drop l.i l.received)
    ≡ delivery_sections l.net.clients false l.net.clients l.refused l.received)
