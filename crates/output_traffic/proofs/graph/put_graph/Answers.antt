use Rattle.base_devices.proofs.Outlets.{went-then}
use Rattle.output_traffic.proofs.graph.put_graph.Goals as goal

pub returns : goal.returns
returns g c =
    went-then _ _ _ _ _
    (went-then _ _ _ _ _
    (went-then _ _ _ _ _ (went-then _ _ _ _ _ c.put.ensures c.put_servers.ensures) c.put_clients.ensures)
    c.put_links.ensures)
    c.put-2.ensures
