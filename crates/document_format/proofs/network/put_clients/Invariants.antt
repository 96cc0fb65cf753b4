use Rattle.std.proofs.Common.{take}
use Rattle.std.specs.List.{flat_map}
use Rattle.base_devices.specs.Pending.{outlet, Went}
use Rattle.document_format.specs.DocumentText.{ended, client_line}
use Rattle.document_format.proofs.network.put_clients.Given as goal

-- the pieces so far went
abbrev pub invariant-loop-client : goal.invariant-loop-client
invariant-loop-client g l = Went (outlet (g.K.Sink.state l.initial.sink) l.initial.out)
    (outlet (g.K.Sink.state l.sink) l.out) (flat_map (λ client. ended (client_line client)) (take l.client-index l.clients))
