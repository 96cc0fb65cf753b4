use Rattle.std.proofs.Common.{◌≡◌, ℕ, false, List, ◌++◌, drop}
use Rattle.net_model.specs.Nets.{of_clients}
use Rattle.sequential_network.specs.Ruling.{refused_by}
use Rattle.output_report.specs.Deliveries.{delivery_sections}
use Rattle.audit_verdict.specs.Comparing.{GoesOn}
use Rattle.audit_verdict.proofs.compared.compare_deliveries.Given as goal

-- what was compared, and then the text of the clients that are left
abbrev pub invariant-loop-i : goal.invariant-loop-i
invariant-loop-i g l = (done : List ℕ) × GoesOn l.initial.text l.text done
    × (done ++ delivery_sections l.net.clients false (drop l.i l.net.clients) (drop l.i (of_clients l.net (refused_by g.P.Ruled.ruling l.net l.network.journal))) (drop l.i (of_clients l.net (g.P.Ruled.ruling.received_by l.net l.network.journal)))
    ≡ delivery_sections l.net.clients false l.net.clients (of_clients l.net (refused_by g.P.Ruled.ruling l.net l.network.journal)) (of_clients l.net (g.P.Ruled.ruling.received_by l.net l.network.journal)))
